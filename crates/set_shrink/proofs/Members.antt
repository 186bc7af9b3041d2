-- Fields and methods are fewer than items.
use Rattle.std.proofs.Common.{◌≡◌, ℕ, ◌+◌, ◌≤◌, ◌<◌, List, length, take, get_or, ap, arith}
use Rattle.std.specs.List.{sum_by}
use Rattle.std.proofs.lemmas.List.Sums.{sum_by_more_le_part}
use Rattle.class_model.specs.declared.class.Class.{Class}
use Rattle.class_pool.specs.Count.{items_of, item_count}

module _ (classes : List Class) (n : ℕ) (c : Class) (lt : n < length classes) (is : c ≡ get_or classes n c) where
  pub fields_few : sum_by (λ (x : Class). length x.fields) (take n classes) + length c.fields ≤ item_count classes
  fields_few =
      let part = sum_by_more_le_part (λ (x : Class). length x.fields) items_of classes n c lt (λ x. omega arith) in
      let same = ap items_of is in
      omega (arith, part, same)

  pub methods_few : sum_by (λ (x : Class). length x.methods) (take n classes) + length c.methods ≤ item_count classes
  methods_few =
      let part = sum_by_more_le_part (λ (x : Class). length x.methods) items_of classes n c lt (λ x. omega arith) in
      let same = ap items_of is in
      omega (arith, part, same)

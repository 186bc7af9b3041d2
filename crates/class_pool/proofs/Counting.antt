-- Counts of items.
use Rattle.std.proofs.Common.{◌≡◌, ℕ, zero, suc, ◌+◌, ◌≤◌, List, [], ◌∷◌, length, slice_get, take, Some, ap, ◌∙◌, arith}
use Rattle.std.proofs.lemmas.List.Sums.{sum_by-cons, sum_by_push, sum_by-take-le}
use Rattle.std.proofs.lemmas.Option.{same_Some}
use Rattle.jv_base.proofs.Lists.{take_got}
use Rattle.class_model.specs.declared.class.Class.{Class}
use Rattle.class_pool.specs.Count.{items_of, item_count}
use Rattle.class_pool.specs.Items.{class_item}

pub classes_counted : (cs : List Class) → length cs ≤ item_count cs
classes_counted [] = omega arith
classes_counted (c ∷ cs) = let h = classes_counted cs in let e = sum_by-cons items_of c cs in omega (arith, h, e)

pub members_counted : (cs : List Class) (n : ℕ) (c : Class) → slice_get cs n ≡ Some c
    → length c.fields + length c.methods ≤ item_count cs
members_counted [] n c is = absurd cc
members_counted (d ∷ cs) zero c is =
    let same : d ≡ c = same_Some d c is in
    let e = sum_by-cons items_of d cs in
    let fields = ap (λ (x : Class). length x.fields) same in
    let methods = ap (λ (x : Class). length x.methods) same in
    omega (arith, e, fields, methods)
members_counted (d ∷ cs) (suc n) c is = let h = members_counted cs n c is in let e = sum_by-cons items_of d cs in omega
    (arith, h, e)

-- ---- the items before a class

pub class_item-next : (classes : List Class) (n : ℕ) (c : Class) → slice_get classes n ≡ Some c
    → class_item classes (n + 1) ≡ class_item classes n + items_of c
class_item-next classes n c is = ap item_count (take_got classes n c is) ∙ sum_by_push items_of (take n classes) c

-- no class stands behind the last item
pub class_item-le : (classes : List Class) (n : ℕ) → class_item classes n ≤ item_count classes
class_item-le classes n = sum_by-take-le items_of classes n

-- What is kept has no more items than there were.
use Rattle.std.proofs.Common.{ℕ, ◌+◌, ◌≤◌, Bool, true, false, cond, List, [], ◌∷◌, length, map, arith}
use Rattle.std.specs.List.{filter, enumerate_from}
use Rattle.std.proofs.lemmas.List.Sums.{sum_by-cons}
use Rattle.class_model.specs.declared.class.Class.{Class}
use Rattle.class_pool.specs.Count.{item_count, items_of}
use Rattle.class_pool.specs.Items.{class_item}
use Rattle.member_shrink.specs.Shrunk.{is_marked, chosen, with_marked_members, shrunk}

-- ---- members

one_chosen : {A : Type 0} (marked : Bool) (x : ℕ × A) (rest : List (ℕ × A)) (bound : ℕ)
    → length (map (λ (e : ℕ × A). e.1) rest) ≤ bound
    → length (map (λ (e : ℕ × A). e.1) (cond marked (x ∷ rest) rest)) ≤ 1 + bound
one_chosen true x rest bound h = omega (arith, h)
one_chosen false x rest bound h = omega (arith, h)

chosen_few : {A : Type 0} (marks : List Bool) (first : ℕ) (xs : List A) → length (chosen marks first xs) ≤ length xs
chosen_few marks first [] = omega arith
chosen_few {A} marks first (x ∷ xs) =
    let rest = filter (λ (e : ℕ × A). is_marked marks e.0) (enumerate_from (first + 1) xs) in
    let h = one_chosen (is_marked marks first) (first, x) rest (length xs) (chosen_few marks (first + 1) xs) in
    omega (arith, h)

members_few : (marks : List Bool) (item : ℕ) (c : Class) → items_of (with_marked_members marks item c) ≤ items_of c
members_few marks item c =
    let fields = chosen_few marks (item + 1) c.fields in
    let methods = chosen_few marks (item + 1 + length c.fields) c.methods in
    omega (arith, fields, methods)

-- ---- classes

module _ (passes : ℕ × Class → Bool) (f : ℕ × Class → Class)
    (each : (e : ℕ × Class) → items_of (f e) ≤ items_of e.1) where
  one_picked : (passed : Bool) (e : ℕ × Class) (rest : List (ℕ × Class)) (bound : ℕ) → item_count (map f rest) ≤ bound
      → item_count (map f (cond passed (e ∷ rest) rest)) ≤ items_of e.1 + bound
  one_picked true e rest bound h = let sum = sum_by-cons items_of (f e) (map f rest) in let few = each e in omega
      (arith, sum, few, h)
  one_picked false e rest bound h = omega (arith, h)

  picked_few : (first : ℕ) (xs : List Class)
      → item_count (map f (filter passes (enumerate_from first xs))) ≤ item_count xs
  picked_few first [] = omega arith
  picked_few first (x ∷ xs) =
      let rest = filter passes (enumerate_from (first + 1) xs) in
      let h = one_picked (passes (first, x)) (first, x) rest (item_count xs) (picked_few (first + 1) xs) in
      let sum = sum_by-cons items_of x xs in
      omega (arith, h, sum)

pub shrunk_few : (classes : List Class) (marks : List Bool) → item_count (shrunk classes marks) ≤ item_count classes
shrunk_few classes marks =
    picked_few
    (λ (e : ℕ × Class). is_marked marks (class_item classes e.0))
    (λ (e : ℕ × Class). with_marked_members marks (class_item classes e.0) e.1)
    (λ e. members_few marks (class_item classes e.0) e.1) 0 classes

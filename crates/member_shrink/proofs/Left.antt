-- Which classes and members are left, step by step.
use Rattle.std.proofs.Common.{◌≡◌, ℕ, ◌+◌, Bool, true, false, cond, List, [], ◌∷◌, ◌++◌, length, map, take, refl, sym}
use Rattle.std.proofs.Common.{ap, subst, ◌∙◌, append_assoc, length-append, arith}
use Rattle.std.specs.List.{filter, enumerate_from}
use Rattle.std.proofs.lemmas.List.Sums.{sum_by-append}
use Rattle.std.proofs.Math.Seq.{take-append_seam}
use Rattle.class_model.specs.declared.class.Class.{Class}
use Rattle.class_pool.specs.Count.{item_count, items_of}
use Rattle.class_pool.specs.Items.{class_item}
use Rattle.member_shrink.specs.Shrunk.{is_marked, chosen, with_marked_members, shrunk}
use Rattle.member_shrink.proofs.Picked.{by_test}

-- one member more was looked at
pub chosen_more : {A : Type 0} (marks : List Bool) (item : ℕ) (x : A) (rest kept more all : List A)
    → kept ++ chosen marks item (x ∷ rest) ≡ all
    → more ≡ cond (is_marked marks item) (kept ++ x ∷ []) kept → more ++ chosen marks (item + 1) rest ≡ all
chosen_more {A} marks item x rest kept more all before is =
    by_test (λ (e : ℕ × A). e.1) (is_marked marks item) (item, x)
    (filter (λ (e : ℕ × A). is_marked marks e.0) (enumerate_from (item + 1) rest)) kept more is ∙ before

pub items_more : (c : Class) (rest : List Class) → item_count (c ∷ rest) ≡ items_of c + item_count rest
items_more c rest = let both = sum_by-append items_of (c ∷ []) rest in omega (arith, both)

module _ (marks : List Bool) where
  -- what is left of classes of which the first has this item
  abbrev pub left_from : ℕ → List Class → List Class
  left_from item [] = []
  left_from item (c ∷ rest) = cond (is_marked marks item)
      (with_marked_members marks item c ∷ left_from (item + items_of c) rest) (left_from (item + items_of c) rest)

  by_mark : (marked : Bool) (c : Class) (kept more rest : List Class) → more ≡ cond marked (kept ++ c ∷ []) kept
      → more ++ rest ≡ kept ++ cond marked (c ∷ rest) rest
  by_mark true c kept more rest is = ap (λ (t : List Class). t ++ rest) is ∙ append_assoc kept (c ∷ []) rest
  by_mark false c kept more rest is = ap (λ (t : List Class). t ++ rest) is

  -- one class more was looked at
  pub left_more : (item : ℕ) (c : Class) (rest kept more all : List Class) → kept ++ left_from item (c ∷ rest) ≡ all
      → more ≡ cond (is_marked marks item) (kept ++ with_marked_members marks item c ∷ []) kept
      → more ++ left_from (item + items_of c) rest ≡ all
  left_more item c rest kept more all before is = by_mark (is_marked marks item)
      (with_marked_members marks item c) kept more (left_from (item + items_of c) rest) is ∙ before

  module _ (classes : List Class) where
    abbrev left : ℕ × Class → Class
    left e = with_marked_members marks (class_item classes e.0) e.1

    abbrev passes : ℕ × Class → Bool
    passes e = is_marked marks (class_item classes e.0)

    by_item : (marked : Bool) (item n : ℕ) (c : Class) (numbered : List (ℕ × Class)) (rest : List Class)
        → class_item classes n ≡ item → map left numbered ≡ rest
        → map left (cond marked ((n, c) ∷ numbered) numbered)
        ≡ cond marked (with_marked_members marks item c ∷ rest) rest
    by_item true item n c numbered rest at is = ap (λ (k : ℕ). with_marked_members marks k c ∷ map left numbered) at
        ∙ ap (λ (t : List Class). with_marked_members marks item c ∷ t) is
    by_item false item n c numbered rest at is = is

    left_behind : (front rest : List Class) → classes ≡ front ++ rest
        → map left (filter passes (enumerate_from (length front) rest)) ≡ left_from (item_count front) rest
    left_behind front [] is = refl
    left_behind front (c ∷ rest) is =
        let at : class_item classes (length front) ≡ item_count front =
        ap (λ (t : List Class). item_count (take (length front) t)) is
        ∙ ap item_count (take-append_seam front (c ∷ rest)) in
        let next : length (front ++ c ∷ []) ≡ length front + 1 = length-append front (c ∷ []) in
        let behind : item_count (front ++ c ∷ [])
        ≡ item_count front + items_of c = sum_by-append items_of front (c ∷ []) ∙ omega arith in
        let numbered = filter passes (enumerate_from (length front + 1) rest) in
        let others : map left numbered ≡ left_from (item_count front + items_of c) rest =
        subst (λ (k : ℕ). map left numbered ≡ left_from k rest) behind
        (subst (λ (k : ℕ). map left (filter passes (enumerate_from k rest))
        ≡ left_from (item_count (front ++ c ∷ [])) rest) next
        (left_behind (front ++ c ∷ []) rest (is ∙ sym (append_assoc front (c ∷ []) rest)))) in
        ap (λ (k : ℕ). map left (cond (is_marked marks k) ((length front, c) ∷ numbered) numbered)) at
        ∙ by_item (is_marked marks (item_count front)) (item_count front) (length front) c numbered
        (left_from (item_count front + items_of c) rest) at others

  pub left_all : (classes : List Class) → shrunk classes marks ≡ left_from 0 classes
  left_all classes = left_behind classes [] classes refl

-- Marks of the items of a list.
use Rattle.std.proofs.Common.{◌≡◌, ℕ, ◌+◌, ◌<◌, ◌||◌, Bool, true, false, cond, List, [], ◌∷◌, ◌++◌, length}
use Rattle.std.proofs.Common.{get_or, refl, sym, ap, ◌∙◌, arith}
use Rattle.std.specs.Prelude.{◌==◌, replicate}
use Rattle.std.proofs.Math.ListN.{set}
use Rattle.std.proofs.lemmas.Bool.{eqb-true, eq-eqb}
use Rattle.std.proofs.lemmas.List.{get_or-replicate, get_or-set_other, get_or-set_same, length-replicate, length-set}
use Rattle.std.specs.List.{enumerate_from, flat_map}
use Rattle.std.proofs.Math.Bool.{or-false, or-true}
use Rattle.mark_core.specs.Marks.{set_of}
use Rattle.class_model.specs.declared.class.Class.{Class}
use Rattle.class_pool.specs.Count.{item_count}
use Rattle.list_texts.specs.ItemTexts.{is_among, item_texts, line_if, seeds_text, line}
use Rattle.list_texts.specs.bodies.Places.{AreMarksOf}
use Rattle.list_texts.proofs.Numbered.{pieces_same}
use Rattle.list_texts.proofs.Listing.{all_counted}

-- lines of marked items are those of the list
pub lines_same : (classes : List Class) (items : List ℕ) (marks : List Bool) → AreMarksOf classes items marks
    → flat_map (line_if (set_of marks)) (enumerate_from 0 (item_texts classes)) ≡ seeds_text classes items
lines_same classes items marks are =
    pieces_same (line_if (set_of marks)) (line_if (is_among items)) 0 (item_texts classes)
    (λ i x lt.
    let start : 0 + i ≡ i = omega arith in
    ap (λ (b : Bool). cond b (line x) [])
    (ap (set_of marks) start ∙ are.each i (omega (arith, lt, all_counted classes)) ∙ ap (is_among items) (sym start)))

among_push : (xs : List ℕ) (y x : ℕ) → is_among (xs ++ y ∷ []) x ≡ (is_among xs x || (x == y))
among_push [] y x = or-false (x == y)
among_push (z ∷ xs) y x = by (x == z) (among_push xs y x)
  where
    by : (b : Bool) → is_among (xs ++ y ∷ []) x ≡ (is_among xs x || (x == y))
        → (b || is_among (xs ++ y ∷ []) x) ≡ ((b || is_among xs x) || (x == y))
    by true h = refl
    by false h = h

-- where nothing is marked
pub marks_none : (classes : List Class) (marks : List Bool) → marks ≡ replicate (item_count classes) false
    → AreMarksOf classes [] marks
marks_none classes marks is = record {
  count = ap length is ∙ length-replicate (item_count classes) false;
  each = λ x lt. ap (λ (t : List Bool). get_or t x false) is ∙ get_or-replicate (item_count classes) x false false lt;
}

-- one more item is marked
pub marks_more : (classes : List Class) (items : List ℕ) (marks : List Bool) (y : ℕ) → y < item_count classes
    → AreMarksOf classes items marks → AreMarksOf classes (items ++ y ∷ []) (set marks y true)
marks_more classes items marks y low are = record {
  count = length-set marks y true ∙ are.count;
  each = λ x lt. by x lt (x == y) refl;
}
  where
    by : (x : ℕ) → x < item_count classes → (b : Bool) → (x == y) ≡ b
        → get_or (set marks y true) x false ≡ is_among (items ++ y ∷ []) x
    by x lt true e =
        let same : x ≡ y = eqb-true x y e in
        ap (λ (k : ℕ). get_or (set marks y true) k false) same
        ∙ get_or-set_same marks y true false (omega (arith, low, are.count))
        ∙ sym (among_push items y x ∙ ap (λ (b : Bool). is_among items x || b) e ∙ or-true (is_among items x))
    by x lt false e =
        get_or-set_other marks y x true false (λ h. let q : true ≡ false = sym (eq-eqb x y h) ∙ e in absurd cc)
        ∙ are.each x lt
        ∙ sym (among_push items y x ∙ ap (λ (b : Bool). is_among items x || b) e ∙ or-false (is_among items x))

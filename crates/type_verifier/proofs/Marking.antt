-- Tables of marks.
use Rattle.std.proofs.Common.{◌≡◌, ◌≤◌, ◌<◌, ℕ, ◌+◌, Bool, false, ◌||◌, List, [], ◌∷◌, length, get_or, drop, refl, sym}
use Rattle.std.proofs.Common.{ap, ◌∙◌, subst}
use Rattle.std.proofs.lemmas.List.{drop_all}
use Rattle.std.proofs.Math.Bool.{or-false, or_assoc}
use Rattle.jv_base.proofs.Lists.{rest_is}
use Rattle.type_verifier.specs.bodies.Marks.{Marks, MarksSoFar}

-- what is marked at first, of a list whose elements mark places
module _ {X : Type 0} (P : List X → ℕ → Bool) (f : X → ℕ → Bool)
    (cons : (x : X) (r : List X) (at : ℕ) → P (x ∷ r) at ≡ (f x at || P r at)) (none : (at : ℕ) → P [] at ≡ false) where
  pub marks_begun : (old : List Bool) (xs : List X) → MarksSoFar old old (P xs) (P (drop 0 xs))
  marks_begun old xs = record { long = refl; marked = λ at lt. refl }

  pub marks_more : (old now new : List Bool) (xs : List X) (i : ℕ) (x : X) → i < length xs → x ≡ get_or xs i x
      → Marks now new (f x) → MarksSoFar old now (P xs) (P (drop i xs))
      → MarksSoFar old new (P xs) (P (drop (i + 1) xs))
  marks_more old now new xs i x lt is m so_far = record {
    long = m.long ∙ so_far.long;
    marked = λ at within.
        ap (λ (b : Bool). b || P (drop (i + 1) xs) at)
        (m.marked at (subst (λ (n : ℕ). at < n) (sym so_far.long) within))
        ∙ or_assoc (get_or now at false) (f x at) (P (drop (i + 1) xs) at)
        ∙ ap (λ (b : Bool). get_or now at false || b) (sym (cons x (drop (i + 1) xs) at))
        ∙ ap (λ (r : List X). get_or now at false || P r at) (sym (rest_is xs i x lt is))
        ∙ so_far.marked at within;
  }

  pub marks_all : (old now : List Bool) (xs : List X) (i : ℕ) → length xs ≤ i
      → MarksSoFar old now (P xs) (P (drop i xs)) → Marks old now (P xs)
  marks_all old now xs i le so_far = record {
    long = so_far.long;
    marked = λ at within.
        sym (ap (λ (r : List X). get_or now at false || P r at) (drop_all i xs le)
        ∙ ap (λ (b : Bool). get_or now at false || b) (none at) ∙ or-false (get_or now at false))
        ∙ so_far.marked at within;
  }

-- nothing is marked
pub marks_none : (old : List Bool) → Marks old old (λ at. false)
marks_none old = record { long = refl; marked = λ at lt. sym (or-false (get_or old at false)) }

-- one after the other
pub marks_then : (old now new : List Bool) (p q : ℕ → Bool) → Marks old now p → Marks now new q
    → Marks old new (λ at. p at || q at)
marks_then old now new p q one other = record {
  long = other.long ∙ one.long;
  marked = λ at within.
      other.marked at (subst (λ (n : ℕ). at < n) (sym one.long) within)
      ∙ ap (λ (b : Bool). b || q at) (one.marked at within)
      ∙ or_assoc (get_or old at false) (p at) (q at);
}

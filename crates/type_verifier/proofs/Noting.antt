-- Lists of types that are noted, one place of which changes.
use Rattle.std.proofs.Common.{◌≡◌, ◌≤◌, ◌<◌, ℕ, zero, suc, ◌+◌, ◌-◌, Bool, true, List, [], ◌∷◌, length}
use Rattle.std.proofs.Common.{get_or, take, drop, Option, Some, None, inl, inr, refl, sym, ap, subst, ◌∙◌, arith}
use Rattle.std.proofs.Common.{⊎_elim}
use Rattle.std.specs.Prelude.{min, slice_get}
use Rattle.std.specs.Cmp.Lexicographic.{pointwise}
use Rattle.std.proofs.lemmas.Bool.{cases_eq, and_parts}
use Rattle.std.proofs.lemmas.Bool.Decides.{leb_tells}
use Rattle.std.proofs.lemmas.List.{get_or-drop, get_or-take, length-drop, length-take-le}
use Rattle.std.proofs.lemmas.Option.{get_or_from_slice_get}
use Rattle.class_model.specs.declared.frame.VType.{VType}
use Rattle.type_verifier.specs.declared.changed.Changed.{Changed}
use Rattle.type_verifier.specs.declared.fitting.Noted.{Noted}
use Rattle.type_verifier.specs.bodies.Noting.{AreTold, HasNoted, Notes, NotesWord, StillNoted, word_of}

-- ---- one place

abbrev Place : Type 0
Place = Option Noted

-- a place that has the same type of the same word
pub noted_at : (all : List Place) (place word : ℕ) (n : Noted) (ty : VType) → slice_get all place ≡ Some (Some n)
    → n.word ≡ word → n.ty ≡ ty → HasNoted all word ty
noted_at all place word n ty is here same = (
  place,
  get_or_from_slice_get all place (Some n) None is
      ∙ ap (λ (w : ℕ). let o : Place = Some (record { word = w; ty = n.ty }) in o) here
      ∙ ap (λ (x : VType). let o : Place = Some (record { word = word; ty = x }) in o) same,
)

-- ---- what is noted

-- the types of more words
pub notes_more : (old now new : List Place) (types : List VType) (at : ℕ) (other : VType) → Notes old now types
    → NotesWord now new at other → at < length types → other ≡ word_of types at → Notes old new types
notes_more old now new types at other notes more lt is word ty has = ⊎_elim
    (λ was. notes word ty was)
    (λ h.
    let e : word ≡ at = h.0 in
    inr (omega (arith, e, lt), h.1 ∙ is ∙ ap (word_of types) (sym e)))
    (more word ty has)

pub notes_all : (old now new : List Place) (types : List VType) → StillNoted old now → Notes now new types
    → Notes old new types
notes_all old now new types still notes word ty has = ⊎_elim
    (λ was. inl (still word ty was)) (λ is. inr is) (notes word ty has)

-- ---- what is told

pub told_more : (all : List Place) (from count : ℕ) (types : List VType) (ty : VType)
    → AreTold all (record { from = from; to = count }) types → HasNoted all count ty → ty ≡ word_of types count
    → AreTold all (record { from = from; to = count + 1 }) types
told_more all from count types ty told has is word begun lt less = ⊎_elim
    (λ (e : word ≡ count). subst (λ (w : ℕ). HasNoted all w (word_of types w)) (sym e)
    (subst (HasNoted all count) is has))
    (λ ne. told word begun (omega (arith, lt, ne)) less)
    (cases_eq word count)

pub told_all : (all : List Place) (c : Changed) (types : List VType) (count : ℕ)
    → AreTold all (record { from = c.from; to = count }) types → c.to ≤ count → AreTold all c types
told_all all c types count told ends word begun lt less = told word begun (omega (arith, ends, lt)) less

-- in words that are fewer than those of a frame
pub told_among : (all : List Place) (c words : Changed) (types : List VType) → words.from ≡ c.from
    → words.to ≡ min c.to (length types) → AreTold all words types → AreTold all c types
told_among all c words types from to told word begun lt less =
    told word (omega (arith, from, begun)) (omega (arith, to, lt, less)) less

-- ---- lists that are related at each place

module _ {X : Type 0} (E : X → X → Bool) where
  pub pointwise_at : (xs ys : List X) (i : ℕ) (d e : X) → pointwise E xs ys ≡ true → i < length xs
      → E (get_or xs i d) (get_or ys i e) ≡ true
  pointwise_at [] ys i d e h lt = absurd (omega (arith, lt))
  pointwise_at (x ∷ xs) [] i d e h lt = absurd cc
  pointwise_at (x ∷ xs) (y ∷ ys) zero d e h lt = (and_parts (E x y) (pointwise E xs ys) h).0
  pointwise_at (x ∷ xs) (y ∷ ys) (suc i) d e h lt =
      pointwise_at xs ys i d e (and_parts (E x y) (pointwise E xs ys) h).1 (omega (arith, lt))

  pub pointwise_from : (xs ys : List X) (d : X) → length xs ≡ length ys
      → ((i : ℕ) → i < length xs → E (get_or xs i d) (get_or ys i d) ≡ true) → pointwise E xs ys ≡ true
  pointwise_from [] [] d long each = refl
  pointwise_from [] (y ∷ ys) d long each = absurd (omega (arith, long))
  pointwise_from (x ∷ xs) [] d long each = absurd (omega (arith, long))
  pointwise_from (x ∷ xs) (y ∷ ys) d long each =
      let first : E x y ≡ true = each 0 (omega arith) in
      rw first (pointwise_from xs ys d (omega (arith, long)) (λ i lt. each (suc i) (omega (arith, lt))))

  -- in front of a place, and behind another one
  pub front_at : (n : ℕ) (xs ys : List X) (i : ℕ) (d : X) → pointwise E (take n xs) (take n ys) ≡ true → i < n
      → i < length xs → E (get_or xs i d) (get_or ys i d) ≡ true
  front_at n xs ys i d h lt less =
      let within : i < length (take n xs) = ⊎_elim
      (λ t. let e = length-take-le n xs t.1 in omega (arith, e, lt))
      (λ f. let e = ap length (all n xs (omega (arith, f.1))) in omega (arith, e, less))
      (leb_tells n (length xs)) in
      ap (λ (x : X). E x (get_or ys i d)) (sym (get_or-take n xs i d lt))
      ∙ ap (E (get_or (take n xs) i d)) (sym (get_or-take n ys i d lt))
      ∙ pointwise_at (take n xs) (take n ys) i d d h within
    where
      all : (n : ℕ) (xs : List X) → length xs ≤ n → take n xs ≡ xs
      all zero [] le = refl
      all zero (x ∷ xs) le = absurd (omega (arith, le))
      all (suc n) [] le = refl
      all (suc n) (x ∷ xs) le = ap (λ (r : List X). x ∷ r) (all n xs (omega (arith, le)))

  pub rest_at : (n : ℕ) (xs ys : List X) (i : ℕ) (d : X) → pointwise E (drop n xs) (drop n ys) ≡ true → n ≤ i
      → i < length xs → E (get_or xs i d) (get_or ys i d) ≡ true
  rest_at n xs ys i d h le less =
      let e : n + (i - n) ≡ i = omega (arith, le) in
      let long = length-drop n xs in
      let within : i - n < length (drop n xs) = omega (arith, long, le, less) in
      ap (λ (k : ℕ). E (get_or xs k d) (get_or ys k d)) (sym e)
      ∙ ap (λ (x : X). E x (get_or ys (n + (i - n)) d)) (sym (get_or-drop n xs (i - n) d))
      ∙ ap (E (get_or (drop n xs) (i - n) d)) (sym (get_or-drop n ys (i - n) d))
      ∙ pointwise_at (drop n xs) (drop n ys) (i - n) d d h within

-- Marks of keys that have parts (the project's own: keys are told apart by them at little cost).
use Rattle.std.specs.Prelude.{◌≡◌, ℕ, ◌+◌, ◌-◌, ◌*◌, ◌%◌, ◌^◌, ◌&&◌, Bool, true, List, [], ◌∷◌, length, drop, map}
use Rattle.std.specs.Cmp.Lexicographic.{pointwise}
use Rattle.std.specs.List.{AllZip, fold}
use Rattle.std.proofs.Common.{ap, sym, refl, ◌∙◌}
use Rattle.std.proofs.lemmas.List.{drop-map, length-map}
use Rattle.std.proofs.lemmas.List.Elements.{same_from_all_zip}
use Rattle.std.proofs.lemmas.List.Folds.{fold-map}
use Rattle.std.proofs.lemmas.Bool.{and_parts}

-- a mark with another one behind it; each bit of both goes on to count (the factor is a prime of few bits)
abbrev pub joined : ℕ → ℕ → ℕ
joined number other = (number * 1099511628211 % 2 ^ 64 + other) % 2 ^ 64

module _ {A B : Type 0} where
  -- equal ones have one
  pub one_pair_mark : (eqA : A → A → Bool) (eqB : B → B → Bool) (markA : A → ℕ) (markB : B → ℕ)
      → ((x y : A) → eqA x y ≡ true → markA x ≡ markA y) → ((x y : B) → eqB x y ≡ true → markB x ≡ markB y)
      → (x y : A × B) → (eqA x.0 y.0 && eqB x.1 y.1) ≡ true
      → joined (markA x.0) (markB x.1) ≡ joined (markA y.0) (markB y.1)
  one_pair_mark eqA eqB markA markB oneA oneB x y same =
      let parts = and_parts (eqA x.0 y.0) (eqB x.1 y.1) same in
      ap (λ m. joined m (markB x.1)) (oneA x.0 y.0 parts.0)
      ∙ ap (λ m. joined (markA y.0) m) (oneB x.1 y.1 parts.1)

  pub pair_copies : (copyA : A → A → Type 0) (copyB : B → B → Type 0) → ((x y : A) → copyA x y → y ≡ x)
      → ((x y : B) → copyB x y → y ≡ x) → (x y : A × B) → copyA x.0 y.0 × copyB x.1 y.1 → y ≡ x
  pair_copies copyA copyB isA isB x y is = λ i. (isA x.0 y.0 is.0 i, isB x.1 y.1 is.1 i)

-- of a list, by the list of all marks: the last 32 count, since names that end alike mostly differ in them
abbrev of_marks : List ℕ → ℕ
of_marks marks = fold joined 0 (drop (length marks - 32) marks)

module _ {T : Type 0} where
  -- one item more
  abbrev pub with_mark : (T → ℕ) → ℕ → T → ℕ
  with_mark mark number item = joined number (mark item)

  -- of a list, by the marks of its last 32 items
  abbrev pub list_mark : (T → ℕ) → List T → ℕ
  list_mark mark items = fold (with_mark mark) 0 (drop (length items - 32) items)

  by_marks : (mark : T → ℕ) (items : List T) → list_mark mark items ≡ of_marks (map mark items)
  by_marks mark items =
      sym (ap (λ n. fold joined 0 (drop (n - 32) (map mark items))) (length-map items mark)
      ∙ ap (λ (ms : List ℕ). fold joined 0 ms) (drop-map mark (length items - 32) items)
      ∙ fold-map joined mark 0 (drop (length items - 32) items))

  module _ (eq : T → T → Bool) (mark : T → ℕ) (one : (x y : T) → eq x y ≡ true → mark x ≡ mark y) where
    one_by_one : (xs ys : List T) → pointwise eq xs ys ≡ true → map mark xs ≡ map mark ys
    one_by_one [] [] same = refl
    one_by_one [] (y ∷ ys) same = absurd cc
    one_by_one (x ∷ xs) [] same = absurd cc
    one_by_one (x ∷ xs) (y ∷ ys) same =
        let parts = and_parts (eq x y) (pointwise eq xs ys) same in
        ap (λ m. m ∷ map mark xs) (one x y parts.0) ∙ ap (λ (ms : List ℕ). mark y ∷ ms) (one_by_one xs ys parts.1)

    pub one_list_mark : (xs ys : List T) → pointwise eq xs ys ≡ true → list_mark mark xs ≡ list_mark mark ys
    one_list_mark xs ys same =
        by_marks mark xs ∙ ap of_marks (one_by_one xs ys same) ∙ sym (by_marks mark ys)

  pub list_copies : (copy : T → T → Type 0) → ((x y : T) → copy x y → y ≡ x) → (xs ys : List T)
      → AllZip copy xs ys → ys ≡ xs
  list_copies copy is xs ys all = same_from_all_zip copy xs ys all is

-- of a text, by its bytes
abbrev pub text_mark : List ℕ → ℕ
text_mark text = list_mark (λ byte. byte) text

-- Names each once, and names that pass a test.
use Rattle.std.proofs.Common.{◌≡◌, ℕ, Bool, true, false, cond, not, ◌||◌, List, [], ◌∷◌, ◌++◌, filter, refl, sym, ap}
use Rattle.std.proofs.Common.{◌∙◌}
use Rattle.std.proofs.lemmas.List.{append-nil}
use Rattle.std.proofs.lemmas.List.Elements.{filter-append}
use Rattle.jv_base.specs.Names.{is_text}
use Rattle.jv_base.proofs.Equality.{same_text, text_sym}
use Rattle.fresh_names.specs.Fresh.{is_taken}
use Rattle.fresh_names.specs.Given.{olds, once}

-- a name that passes is among those that pass where it is among all
pub kept_taken : (q : List ℕ → Bool) (a : List ℕ) (xs : List (List ℕ)) → q a ≡ true
    → is_taken (filter q xs) a ≡ is_taken xs a
kept_taken q a [] passes = refl
kept_taken q a (x ∷ xs) passes = on (q x) refl (kept_taken q a xs passes)
  where
    no : (c : Bool) → is_text a x ≡ c → q x ≡ false → c ≡ false
    no false e fails = refl
    no true e fails = absurd (let w : true ≡ false = sym passes ∙ ap q (same_text a x e) ∙ fails in cc)

    on : (b : Bool) → q x ≡ b → is_taken (filter q xs) a ≡ is_taken xs a
        → is_taken (cond b (x ∷ filter q xs) (filter q xs)) a ≡ (is_text a x || is_taken xs a)
    on true e rest = ap (λ (c : Bool). is_text a x || c) rest
    on false e rest = rest ∙ ap (λ (c : Bool). c || is_taken xs a) (sym (no (is_text a x) refl e))

-- each name is there once
pub once_taken : (xs : List (List ℕ)) (a : List ℕ) → is_taken (once xs) a ≡ is_taken xs a
unfolding once
once_taken [] a = refl
once_taken (x ∷ xs) a = on (is_text a x) refl (once_taken xs a)
  where
    on : (b : Bool) → is_text a x ≡ b → is_taken (once xs) a ≡ is_taken xs a
        → (is_text a x || is_taken (filter (λ y. not (is_text x y)) (once xs)) a) ≡ (is_text a x || is_taken xs a)
    on true e rest =
        ap (λ (c : Bool). c || is_taken (filter (λ y. not (is_text x y)) (once xs)) a) e
        ∙ sym (ap (λ (c : Bool). c || is_taken xs a) e)
    on false e rest = ap (λ (c : Bool). is_text a x || c)
        (kept_taken (λ y. not (is_text x y)) a (once xs) (ap not (text_sym x a ∙ e)) ∙ rest)

pub one_kept : (q : List ℕ → Bool) (x : List ℕ) (b : Bool) → q x ≡ b → filter q (x ∷ []) ≡ cond b (x ∷ []) []
one_kept q x b e = ap (λ (c : Bool). cond c (x ∷ []) []) e

-- one name more
pub once_more : (xs : List (List ℕ)) (x : List ℕ)
    → once (xs ++ x ∷ []) ≡ cond (is_taken xs x) (once xs) (once xs ++ x ∷ [])
unfolding once
once_more [] x = refl
once_more (y ∷ ys) x =
    ap (λ (l : List (List ℕ)). y ∷ filter (λ z. not (is_text y z)) l) (once_more ys x)
    ∙ on (is_text x y) refl (is_taken ys x)
  where
    on : (b : Bool) → is_text x y ≡ b → (c : Bool)
        → y ∷ filter (λ z. not (is_text y z)) (cond c (once ys) (once ys ++ x ∷ []))
        ≡ cond (b || c) (y ∷ filter (λ z. not (is_text y z)) (once ys))
        (y ∷ (filter (λ z. not (is_text y z)) (once ys) ++ x ∷ []))
    on true e true = refl
    on false e true = refl
    on true e false = ap (λ (l : List (List ℕ)). y ∷ l)
        (filter-append (λ z. not (is_text y z)) (once ys) (x ∷ [])
        ∙ ap (λ (l : List (List ℕ)). filter (λ z. not (is_text y z)) (once ys) ++ l)
        (one_kept (λ z. not (is_text y z)) x false (ap not (text_sym y x ∙ e)))
        ∙ append-nil (filter (λ z. not (is_text y z)) (once ys)))
    on false e false = ap (λ (l : List (List ℕ)). y ∷ l)
        (filter-append (λ z. not (is_text y z)) (once ys) (x ∷ [])
        ∙ ap (λ (l : List (List ℕ)). filter (λ z. not (is_text y z)) (once ys) ++ l)
        (one_kept (λ z. not (is_text y z)) x true (ap not (text_sym y x ∙ e))))

module _ (taken done : List (List ℕ)) (x : List ℕ) where
  -- the names with one more: where it is taken, where it isn't
  olds_of : (b : Bool) → is_taken taken x ≡ b
      → olds taken (done ++ x ∷ []) ≡ once (filter (λ a. not (is_taken taken a)) done ++ cond (not b) (x ∷ []) [])
  olds_of b e = ap once
      (filter-append (λ a. not (is_taken taken a)) done (x ∷ [])
      ∙ ap (λ (l : List (List ℕ)). filter (λ a. not (is_taken taken a)) done ++ l)
      (one_kept (λ a. not (is_taken taken a)) x (not b) (ap not e)))

  -- a taken name isn't among them
  pub olds_taken : is_taken taken x ≡ true → olds taken (done ++ x ∷ []) ≡ olds taken done
  olds_taken is = olds_of true is ∙ ap once (append-nil (filter (λ a. not (is_taken taken a)) done))

  more : is_taken taken x ≡ false
      → olds taken (done ++ x ∷ []) ≡ cond (is_taken (olds taken done) x) (olds taken done) (olds taken done ++ x ∷ [])
  more is = olds_of false is ∙ once_more (filter (λ a. not (is_taken taken a)) done) x
      ∙ ap (λ (b : Bool). cond b (olds taken done) (olds taken done ++ x ∷ []))
      (sym (once_taken (filter (λ a. not (is_taken taken a)) done) x))

  -- one that is among them stays where it is
  pub olds_there : is_taken (olds taken done) x ≡ true → olds taken (done ++ x ∷ []) ≡ olds taken done
  olds_there is = on (is_taken taken x) refl
    where
      on : (b : Bool) → is_taken taken x ≡ b → olds taken (done ++ x ∷ []) ≡ olds taken done
      on true e = olds_taken e
      on false e = more e ∙ ap (λ (b : Bool). cond b (olds taken done) (olds taken done ++ x ∷ [])) is

  -- another one comes last
  pub olds_new : is_taken taken x ≡ false → is_taken (olds taken done) x ≡ false
      → olds taken (done ++ x ∷ []) ≡ olds taken done ++ x ∷ []
  olds_new is new = more is ∙ ap (λ (b : Bool). cond b (olds taken done) (olds taken done ++ x ∷ [])) new

pub or_swapped : (a b : Bool) → (b || a) ≡ (a || b)
or_swapped true true = refl
or_swapped true false = refl
or_swapped false true = refl
or_swapped false false = refl

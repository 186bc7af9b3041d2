-- What is found in tables.
use Rattle.std.proofs.Common.{◌≡◌, ℕ, ◌+◌, Bool, true, false, cond, ◌||◌, List, [], ◌∷◌, ◌++◌, Option, Some, None}
use Rattle.std.proofs.Common.{is_some, refl, ap}
use Rattle.std.specs.Map.{lookup}
use Rattle.jv_base.specs.Names.{is_text}
use Rattle.fresh_names.specs.Fresh.{fresh, given, is_taken, next_free}
use Rattle.fresh_names.specs.bodies.Giving.{after}

-- what is there, else something else that may be there
abbrev pub or_first : {V : Type 0} → Option V → Option V → Option V
or_first (Some v) other = Some v
or_first None other = other

module _ {V : Type 0} where
  -- behind one more entry
  pub lookup_last : (test : List ℕ → Bool) (es : List (List ℕ × V)) (e : List ℕ × V)
      → lookup test (es ++ e ∷ []) ≡ or_first (lookup test es) (cond (test e.0) (Some e.1) None)
  lookup_last test [] e = refl
  lookup_last test (d ∷ es) e = on (test d.0) (lookup_last test es e)
    where
      on : (b : Bool) → lookup test (es ++ e ∷ []) ≡ or_first (lookup test es) (cond (test e.0) (Some e.1) None)
          → cond b (Some d.1) (lookup test (es ++ e ∷ []))
          ≡ or_first (cond b (Some d.1) (lookup test es)) (cond (test e.0) (Some e.1) None)
      on true rest = refl
      on false rest = rest

module _ (front : List ℕ) (taken : List (List ℕ)) where
  -- one name more
  pub given_last : (n : ℕ) (xs : List (List ℕ)) (x : List ℕ) → given front taken n (xs ++ x ∷ [])
      ≡ given front taken n xs ++ (x, fresh front (next_free front taken (after front taken n xs))) ∷ []
  unfolding given after
  given_last n [] x = refl
  given_last n (y ∷ ys) x = ap (λ (l : List (List ℕ × List ℕ)). (y, fresh front (next_free front taken n)) ∷ l)
      (given_last (next_free front taken n + 1) ys x)

  pub after_last : (n : ℕ) (xs : List (List ℕ)) (x : List ℕ) → after front taken n (xs ++ x ∷ [])
      ≡ next_free front taken (after front taken n xs) + 1
  unfolding after
  after_last n [] x = refl
  after_last n (y ∷ ys) x = after_last (next_free front taken n + 1) ys x

  -- just those names that get one have one
  pub given_found : (n : ℕ) (xs : List (List ℕ)) (a : List ℕ)
      → is_some (lookup (is_text a) (given front taken n xs)) ≡ is_taken xs a
  unfolding given
  given_found n [] a = refl
  given_found n (x ∷ xs) a = on (is_text a x) (given_found (next_free front taken n + 1) xs a)
    where
      on : (b : Bool)
          → is_some (lookup (is_text a) (given front taken (next_free front taken n + 1) xs)) ≡ is_taken xs a
          → is_some (cond b (Some (fresh front (next_free front taken n)))
          (lookup (is_text a) (given front taken (next_free front taken n + 1) xs)))
          ≡ (b || is_taken xs a)
      on true rest = refl
      on false rest = rest

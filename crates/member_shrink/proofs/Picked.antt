-- Elements that pass a test of their number and themselves, and what becomes of each: step by step, and what holds of
-- them.
use Rattle.std.proofs.Common.{◌≡◌, ℕ, ◌+◌, ◌<◌, Bool, true, false, cond, List, [], ◌∷◌, ◌++◌, length, map}
use Rattle.std.proofs.Common.{ap, subst, ◌∙◌, append_assoc, arith}
use Rattle.std.specs.List.{AllByRecursion, AllPairs, filter, enumerate_from}
use Rattle.std.proofs.lemmas.List.FromFn.{length-enumerate_from, get_or-enumerate_from}
use Rattle.std.proofs.lemmas.List.Kept.{AllPairs-filter}
use Rattle.class_laws.proofs.Mapped.{pairs_mapped}

-- one element more was looked at
pub by_test : {A B : Type 0} (f : A → B) (passes : Bool) (x : A) (rest : List A) (kept more : List B)
    → more ≡ cond passes (kept ++ f x ∷ []) kept
    → more ++ map f rest ≡ kept ++ map f (cond passes (x ∷ rest) rest)
by_test f true x rest kept more is = ap (λ (t : List _). t ++ map f rest) is ∙ append_assoc kept (f x ∷ []) (map f rest)
by_test f false x rest kept more is = ap (λ (t : List _). t ++ map f rest) is

module _ {A B : Type 0} (P : A → Type 0) (Q : B → Type 0) (passes : ℕ × A → Bool) (f : ℕ × A → B)
    (each : (e : ℕ × A) → P e.1 → Q (f e)) where
  one_picked : (b : Bool) (e : ℕ × A) (rest : List (ℕ × A)) → P e.1 → AllByRecursion Q (map f rest)
      → AllByRecursion Q (map f (cond b (e ∷ rest) rest))
  one_picked true e rest h k = (each e h, k)
  one_picked false e rest h k = k

  pub all_picked : (first : ℕ) (xs : List A) → AllByRecursion P xs
      → AllByRecursion Q (map f (filter passes (enumerate_from first xs)))
  all_picked first [] h = tt
  all_picked first (x ∷ xs) h = one_picked (passes (first, x)) (first, x)
      (filter passes (enumerate_from (first + 1) xs)) h.0 (all_picked (first + 1) xs h.1)

pairs_numbered : {A : Type 0} (R : A → A → Type 0) (first : ℕ) (xs : List A) → AllPairs R xs
    → AllPairs (λ (x y : ℕ × A). R x.1 y.1) (enumerate_from first xs)
pairs_numbered R first xs h i j d lt within =
    let in_j : j < length xs = subst (λ n. j < n) (length-enumerate_from first xs) within in
    let in_i : i < length xs = omega (arith, lt, in_j) in
    rw (get_or-enumerate_from first xs i d in_i) (rw (get_or-enumerate_from first xs j d in_j) (h i j d.1 lt in_j))

-- what holds of two elements, one behind the other, holds of two of those that pass
pub pairs_picked : {A : Type 0} (R : A → A → Type 0) (passes : ℕ × A → Bool) (first : ℕ) (xs : List A) → AllPairs R xs
    → AllPairs R (map (λ (e : ℕ × A). e.1) (filter passes (enumerate_from first xs)))
pairs_picked R passes first xs h =
    pairs_mapped R (λ e. e.1) (filter passes (enumerate_from first xs))
    (AllPairs-filter (λ (x y : ℕ × _). R x.1 y.1) passes (enumerate_from first xs) (pairs_numbered R first xs h))

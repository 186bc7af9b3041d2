-- The index that is kept with each constant of a table.
use Rattle.std.proofs.Common.{◌≡◌, ℕ, suc, ◌+◌, Bool, true, false, cond, List, [], ◌∷◌, ◌++◌, length, Option, Some}
use Rattle.std.proofs.Common.{None, refl, sym, ap, ◌∙◌, arith, not, Decides, true≢false, ◌<◌, ◌||◌}
use Rattle.std.specs.Prelude.{is_some}
use Rattle.std.specs.List.{position_from, position_or_len, list_any}
use Rattle.std.specs.Option.{unwrap_or}
use Rattle.class_model.specs.InstructionMeaning.{or_else}
use Rattle.class_model.proofs.FirstOfTwo.{or_none}

push_by : (b c : Bool) (i n m : ℕ) (one other : Option ℕ) → n ≡ m → one ≡ or_else other (cond c (Some n) None)
    → cond b (Some i) one ≡ or_else (cond b (Some i) other) (cond c (Some m) None)
push_by true c i n m one other e h = refl
push_by false c i n m one other e h = h ∙ ap (λ k. or_else other (cond c (Some k) None)) e

-- the first that passes, of a list with one more
position_push : {K : Type 0} (t : K → Bool) (i : ℕ) (ks : List K) (k : K)
    → position_from t i (ks ++ k ∷ []) ≡ or_else (position_from t i ks) (cond (t k) (Some (i + length ks)) None)
position_push t i [] k = ap (λ n. cond (t k) (Some n) None) (let e : i ≡ i + 0 = omega arith in e)
position_push t i (x ∷ ks) k =
    push_by (t x) (t k) i ((i + 1) + length ks) (i + suc (length ks)) (position_from t (i + 1) (ks ++ k ∷ []))
    (position_from t (i + 1) ks) (omega arith) (position_push t (i + 1) ks k)

index_by : (b : Bool) (i n m : ℕ) (found : Option ℕ) → unwrap_or found ((i + 1) + n) ≡ (i + 1) + m
    → unwrap_or (cond b (Some i) found) (i + suc n) ≡ i + cond (not b) (1 + m) 0
index_by true i n m found h = omega arith
index_by false i n m found h =
    let e : i + suc n ≡ (i + 1) + n = omega arith in
    let f : (i + 1) + m ≡ i + (1 + m) = omega arith in
    ap (unwrap_or found) e ∙ h ∙ f

-- the first place counted from any number, or the one behind the last
pub index_is : {K : Type 0} (t : K → Bool) (i : ℕ) (ks : List K)
    → unwrap_or (position_from t i ks) (i + length ks) ≡ i + position_or_len t ks
index_is t i [] = refl
index_is t i (x ∷ ks) = index_by (t x) i (length ks) (position_or_len t ks) (position_from t (i + 1) ks)
    (index_is t (i + 1) ks)

any_by : (b : Bool) (i : ℕ) (found : Option ℕ) (rest : Bool) → is_some found ≡ rest
    → is_some (cond b (Some i) found) ≡ (b || rest)
any_by true i found rest h = refl
any_by false i found rest h = h

-- there is a first place exactly where one passes
pub any_is : {K : Type 0} (t : K → Bool) (i : ℕ) (ks : List K) → is_some (position_from t i ks) ≡ list_any t ks
any_is t i [] = refl
any_is t i (k ∷ ks) = any_by (t k) i (position_from t (i + 1) ks) (list_any t ks) (any_is t (i + 1) ks)

below_by : (b : Bool) (i n l : ℕ) (found : Option ℕ) → Some n ≡ cond b (Some i) found
    → (Some n ≡ found → n < (i + 1) + l)
    → n < i + suc l
below_by true i n l found h f = let e : n ≡ i = ap (λ (o : Option ℕ). unwrap_or o 0) h in omega (arith, e)
below_by false i n l found h f = let e = f h in omega (arith, e)

-- the first place is one of the list
pub first_below : {K : Type 0} (t : K → Bool) (i : ℕ) (ks : List K) (n : ℕ) → Some n ≡ position_from t i ks
    → n < i + length ks
first_below t i [] n h = absurd cc
first_below t i (k ∷ ks) n h =
    below_by (t k) i n (length ks) (position_from t (i + 1) ks) h (first_below t (i + 1) ks n)

-- the places of things that a test tells apart, the first of them at a number
module _ {K : Type 0} (E : K → K → Bool) (decides : (a b : K) → Decides (E a b) (a ≡ b)) (from : ℕ) where
  abbrev Indexed : List K → (K → Option ℕ) → Type 0
  Indexed ks index_at = (q : K) → index_at q ≡ position_from (E q) from ks

  itself : (k : K) → E k k ≡ true
  itself k = (decides k k).1 refl

  other : (k q : K) → E k q ≡ false → E q k ≡ false
  other k q e = by (E q k) refl
    where
      by : (b : Bool) → E q k ≡ b → E q k ≡ false
      by true h = let same : q ≡ k = (decides q k).0 h in
          absurd (true≢false (sym (itself k) ∙ ap (λ x. E k x) (sym same) ∙ e))
      by false h = h

  -- a new one is kept with the place behind the others
  pub indexed_new : (ks : List K) (old new : K → Option ℕ) (k : K) → Indexed ks old → old k ≡ None
      → ((q : K) → new q ≡ cond (E k q) (Some (from + length ks)) (old q))
      → Indexed (ks ++ k ∷ []) new
  indexed_new ks old new k kept none new_is q = new_is q ∙ by (E k q) refl ∙ sym (position_push (E q) from ks k)
    where
      by : (b : Bool) → E k q ≡ b
          → cond b (Some (from + length ks)) (old q)
          ≡ or_else (position_from (E q) from ks) (cond (E q k) (Some (from + length ks)) None)
      by true e =
          let same : k ≡ q = (decides k q).0 e in
          let p : position_from (E q) from ks ≡ None = sym (kept q) ∙ ap old (sym same) ∙ none in
          let s : E q k ≡ true = (decides q k).1 (sym same) in
          rw (p, s) refl
      by false e =
          let s : E q k ≡ false = other k q e in
          rw s (kept q ∙ sym (or_none (position_from (E q) from ks)))

  -- one that is there stays with its place
  pub indexed_again : (ks : List K) (index_at : K → Option ℕ) (k : K) (index : ℕ) → Indexed ks index_at
      → index_at k ≡ Some index → Indexed (ks ++ k ∷ []) index_at
  indexed_again ks index_at k index kept some q = kept q ∙ by (E k q) refl ∙ sym (position_push (E q) from ks k)
    where
      by : (b : Bool) → E k q ≡ b
          → position_from (E q) from ks
          ≡ or_else (position_from (E q) from ks) (cond (E q k) (Some (from + length ks)) None)
      by true e =
          let same : k ≡ q = (decides k q).0 e in
          let p : position_from (E q) from ks ≡ Some index = sym (kept q) ∙ ap index_at (sym same) ∙ some in
          rw p refl
      by false e =
          let s : E q k ≡ false = other k q e in
          rw s (sym (or_none (position_from (E q) from ks)))

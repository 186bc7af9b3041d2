-- Elements whose numbers pass a test, in their order: what holds of them, their pairs, sizes and faults; and ranks by
-- two tests.
use Rattle.std.proofs.Common.{◌≡◌, ◌<◌, ◌≤◌, ℕ, zero, suc, ◌+◌, Bool, true, false, cond, List, [], ◌∷◌, map, Option}
use Rattle.std.proofs.Common.{Some, None, Ok, slice_get, refl, sym, ap, ◌∙◌, arith}
use Rattle.std.specs.List.{All, AllByRecursion, AllPairs, sum_by}
use Rattle.std.proofs.lemmas.List.Elements.{All-from_recursion, recursion_from_All}
use Rattle.std.proofs.lemmas.List.Kept.{AllPairs-cons}
use Rattle.std.proofs.lemmas.List.Sums.{sum_by-cons}
use Rattle.std.proofs.lemmas.Option.{get_or_from_slice_get, slice_get_within}
use Rattle.class_model.specs.declared.class.Class.{Class}
use Rattle.class_pool.specs.Faults.{fault_of, first_fault}
use Rattle.class_pool.specs.declared.fault.PoolKind.{PoolKind}
use Rattle.class_pool.proofs.FaultLaws.{none_at}
use Rattle.image_laws.specs.ShrunkImage.Keeping.{rank}
use Rattle.image_laws.proofs.ShrunkImage.Kept.{kept_of}

module _ {A B : Type 0} (p : ℕ → Bool) (f : ℕ → A → B) where
  -- what holds of each element
  pub each_kept : (P : A → Type 0) (Q : B → Type 0) → ((n : ℕ) (x : A) → P x → Q (f n x)) → (n : ℕ) (xs : List A)
      → AllByRecursion P xs → AllByRecursion Q (kept_of p f n xs)
  each_kept P Q to n [] h = tt
  each_kept P Q to n (x ∷ xs) h = by (p n) (to n x h.0) (each_kept P Q to (n + 1) xs h.1)
    where
      by : (b : Bool) → Q (f n x) → AllByRecursion Q (kept_of p f (n + 1) xs)
          → AllByRecursion Q (cond b (f n x ∷ kept_of p f (n + 1) xs) (kept_of p f (n + 1) xs))
      by true head rest = (head, rest)
      by false head rest = rest

  all_kept : (P : A → Type 0) (Q : B → Type 0) → ((n : ℕ) (x : A) → P x → Q (f n x)) → (n : ℕ) (xs : List A)
      → All P xs → All Q (kept_of p f n xs)
  all_kept P Q to n xs h = All-from_recursion Q (kept_of p f n xs)
      (each_kept P Q to n xs (recursion_from_All P xs h))

  -- and of each element with each later one
  pub pairs_kept : (R : A → A → Type 0) (S : B → B → Type 0)
      → ((n m : ℕ) (x y : A) → R x y → S (f n x) (f m y)) → (n : ℕ) (xs : List A)
      → AllPairs R xs → AllPairs S (kept_of p f n xs)
  pairs_kept R S to n [] h = λ i j d less within. absurd (omega (arith, within))
  pairs_kept R S to n (x ∷ xs) h =
      by (p n)
      (all_kept (R x) (S (f n x)) (λ m y r. to n m x y r) (n + 1) xs
      (λ k d within. h zero (suc k) d (omega arith) (omega (arith, within))))
      (pairs_kept R S to (n + 1) xs
      (λ i j d less within. h (suc i) (suc j) d (omega (arith, less)) (omega (arith, within))))
    where
      by : (b : Bool) → All (S (f n x)) (kept_of p f (n + 1) xs) → AllPairs S (kept_of p f (n + 1) xs)
          → AllPairs S (cond b (f n x ∷ kept_of p f (n + 1) xs) (kept_of p f (n + 1) xs))
      by true head rest = AllPairs-cons S (f n x) (kept_of p f (n + 1) xs) head rest
      by false head rest = rest

  -- what is kept is no larger, where no element grows
  pub sum_kept : (size : A → ℕ) (size_left : B → ℕ) → ((n : ℕ) (x : A) → size_left (f n x) ≤ size x) → (n : ℕ)
      (xs : List A) → sum_by size_left (kept_of p f n xs) ≤ sum_by size xs
  sum_kept size size_left small n [] = omega arith
  sum_kept size size_left small n (x ∷ xs) =
      by (p n) (small n x) (sum_kept size size_left small (n + 1) xs)
    where
      by : (b : Bool) → size_left (f n x) ≤ size x
          → sum_by size_left (kept_of p f (n + 1) xs) ≤ sum_by size xs
          → sum_by size_left (cond b (f n x ∷ kept_of p f (n + 1) xs) (kept_of p f (n + 1) xs))
          ≤ sum_by size (x ∷ xs)
      by true one rest =
          let whole = sum_by-cons size x xs in
          let left = sum_by-cons size_left (f n x) (kept_of p f (n + 1) xs) in
          omega (arith, one, rest, whole, left)
      by false one rest = let whole = sum_by-cons size x xs in omega (arith, rest, whole)

-- what is told of what is kept
pub map_left : {A B C D : Type 0} (p : ℕ → Bool) (f : ℕ → A → B) (g : ℕ → C → D) (of : A → C) (out : B → D)
    → ((n : ℕ) (x : A) → out (f n x) ≡ g n (of x)) → (n : ℕ) (xs : List A)
    → map out (kept_of p f n xs) ≡ kept_of p g n (map of xs)
map_left p f g of out same n [] = refl
map_left {A} {B} {C} {D} p f g of out same n (x ∷ xs) =
    by (p n) (same n x) (map_left p f g of out same (n + 1) xs)
  where
    by : (b : Bool) → out (f n x) ≡ g n (of x) → map out (kept_of p f (n + 1) xs) ≡ kept_of p g (n + 1) (map of xs)
        → map out (cond b (f n x ∷ kept_of p f (n + 1) xs) (kept_of p f (n + 1) xs))
        ≡ cond b (g n (of x) ∷ kept_of p g (n + 1) (map of xs)) (kept_of p g (n + 1) (map of xs))
    by true e r = ap (λ (y : D). y ∷ map out (kept_of p f (n + 1) xs)) e ∙ ap (λ (t : List D). g n (of x) ∷ t) r
    by false e r = r

-- ---- faults

-- where each one has no fault, there is none
pub none_of_each : {A : Type 0} (class : A → Class) (kind : A → Option PoolKind) (xs : List A)
    → ((k : ℕ) (x : A) → slice_get xs k ≡ Some x → kind x ≡ None) → first_fault class kind xs ≡ Ok tt
none_of_each class kind [] h = refl
none_of_each class kind (x ∷ xs) h =
    ap (λ (o : Option PoolKind). fault_of (class x) o (first_fault class kind xs)) (h 0 x refl)
    ∙ none_of_each class kind xs (λ k y is. h (suc k) y is)

-- and the other way round
pub none_there : {A : Type 0} (class : A → Class) (kind : A → Option PoolKind) (xs : List A) (k : ℕ) (x : A)
    → first_fault class kind xs ≡ Ok tt → slice_get xs k ≡ Some x → kind x ≡ None
none_there class kind xs k x right is =
    sym (ap kind (get_or_from_slice_get xs k x x is)) ∙ none_at class kind xs k x right (slice_get_within xs k x is)

-- ---- ranks

pub rank_most : (p : ℕ → Bool) (n i : ℕ) → rank p n i ≤ i
rank_most p n zero = omega arith
rank_most p n (suc i) = by (p n) (rank_most p (n + 1) i)
  where
    by : (b : Bool) → rank p (n + 1) i ≤ i → cond b (suc (rank p (n + 1) i)) (rank p (n + 1) i) ≤ suc i
    by true r = omega (arith, r)
    by false r = omega (arith, r)

module _ (p q : ℕ → Bool) (weaker : (x : ℕ) → p x ≡ true → q x ≡ true) where
  rank_more : (n i : ℕ) → rank p n i ≤ rank q n i
  rank_more n zero = omega arith
  rank_more n (suc i) = by (p n) (q n) (weaker n) (rank_more (n + 1) i)
    where
      by : (s t : Bool) → (s ≡ true → t ≡ true) → rank p (n + 1) i ≤ rank q (n + 1) i
          → cond s (suc (rank p (n + 1) i)) (rank p (n + 1) i) ≤ cond t (suc (rank q (n + 1) i)) (rank q (n + 1) i)
      by true true h r = omega (arith, r)
      by true false h r = absurd (let e = h refl in cc)
      by false true h r = omega (arith, r)
      by false false h r = r

  -- fewer pass a test than a weaker one that one more number passes
  pub rank_fewer : (n i x : ℕ) → x < i → p (n + x) ≡ false → q (n + x) ≡ true → rank p n i < rank q n i
  rank_fewer n zero x low fails passes = absurd (omega (arith, low))
  rank_fewer n (suc i) zero low fails passes =
      let e : n + zero ≡ n = omega arith in
      by (p n) (q n) (ap p (sym e) ∙ fails) (ap q (sym e) ∙ passes) (rank_more (n + 1) i)
    where
      by : (s t : Bool) → s ≡ false → t ≡ true → rank p (n + 1) i ≤ rank q (n + 1) i
          → cond s (suc (rank p (n + 1) i)) (rank p (n + 1) i) < cond t (suc (rank q (n + 1) i)) (rank q (n + 1) i)
      by false true h k r = omega (arith, r)
      by true t h k r = absurd cc
      by false false h k r = absurd cc
  rank_fewer n (suc i) (suc x) low fails passes =
      let e : n + suc x ≡ n + 1 + x = omega arith in
      by (p n) (q n) (weaker n)
      (rank_fewer (n + 1) i x (omega (arith, low)) (ap p (sym e) ∙ fails) (ap q (sym e) ∙ passes))
    where
      by : (s t : Bool) → (s ≡ true → t ≡ true) → rank p (n + 1) i < rank q (n + 1) i
          → cond s (suc (rank p (n + 1) i)) (rank p (n + 1) i) < cond t (suc (rank q (n + 1) i)) (rank q (n + 1) i)
      by true true h r = omega (arith, r)
      by true false h r = absurd (let e = h refl in cc)
      by false true h r = omega (arith, r)
      by false false h r = r

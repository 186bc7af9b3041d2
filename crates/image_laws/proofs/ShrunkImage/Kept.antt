-- Elements whose numbers pass a test, in their order: where each of them stands, and which of them is found.
use Rattle.std.proofs.Common.{◌≡◌, ◌⊎◌, ⊎_elim, inl, inr, ℕ, zero, suc, ◌+◌, ◌<◌, ◌≤◌, Bool, true, false, cond, eqb}
use Rattle.std.proofs.Common.{List, [], ◌∷◌, ◌++◌, length, map, Option, Some, None, slice_get, refl, sym, ap, ◌∙◌}
use Rattle.std.proofs.Common.{arith}
use Rattle.std.specs.List.{enumerate_from, filter, position}
use Rattle.std.specs.Option.{option_and_then, option_map}
use Rattle.std.proofs.lemmas.Bool.{cases_eq, cases_lt, eq-eqb, ne_eqb}
use Rattle.class_pool.specs.Distinct.{Once}
use Rattle.class_pool.proofs.Distinct.{position_next}
use Rattle.image_laws.specs.ShrunkImage.Keeping.{rank}

-- ---- elements that are kept

module _ {A B : Type 0} (p : ℕ → Bool) (f : ℕ → A → B) where
  -- what becomes of the elements whose numbers pass, where the first has the number n
  abbrev pub kept_of : ℕ → List A → List B
  kept_of n [] = []
  kept_of n (x ∷ xs) = cond (p n) (f n x ∷ kept_of (n + 1) xs) (kept_of (n + 1) xs)

  -- so a filter of numbered elements has it
  pub as_filter : (n : ℕ) (xs : List A) → map (λ (e : ℕ × A). f e.0 e.1) (filter (λ e. p e.0) (enumerate_from n xs))
      ≡ kept_of n xs
  as_filter n [] = refl
  as_filter n (x ∷ xs) = by (p n) (as_filter (n + 1) xs)
    where
      by : (b : Bool) → map (λ (e : ℕ × A). f e.0 e.1) (filter (λ e. p e.0) (enumerate_from (n + 1) xs))
          ≡ kept_of (n + 1) xs
          → map (λ (e : ℕ × A). f e.0 e.1)
          (cond b ((n, x) ∷ filter (λ e. p e.0) (enumerate_from (n + 1) xs))
          (filter (λ e. p e.0) (enumerate_from (n + 1) xs)))
          ≡ cond b (f n x ∷ kept_of (n + 1) xs) (kept_of (n + 1) xs)
      by true r = ap (λ (t : List B). f n x ∷ t) r
      by false r = r

  -- a kept element stands at its rank
  pub kept_at : (n : ℕ) (xs : List A) (i : ℕ) → p (n + i) ≡ true
      → slice_get (kept_of n xs) (rank p n i) ≡ option_map (f (n + i)) (slice_get xs i)
  kept_at n [] i h = refl
  kept_at n (x ∷ xs) zero h =
      let e : n + zero ≡ n = omega arith in
      ap (λ (b : Bool). slice_get (cond b (f n x ∷ kept_of (n + 1) xs) (kept_of (n + 1) xs)) 0) (ap p (sym e) ∙ h)
      ∙ ap (λ (k : ℕ). Some (f k x)) (sym e)
  kept_at n (x ∷ xs) (suc i) h =
      let e : n + suc i ≡ n + 1 + i = omega arith in
      by (p n) ∙ kept_at (n + 1) xs i (ap p (sym e) ∙ h) ∙ ap (λ (k : ℕ). option_map (f k) (slice_get xs i)) (sym e)
    where
      by : (b : Bool) → slice_get (cond b (f n x ∷ kept_of (n + 1) xs) (kept_of (n + 1) xs))
          (cond b (suc (rank p (n + 1) i)) (rank p (n + 1) i)) ≡ slice_get (kept_of (n + 1) xs) (rank p (n + 1) i)
      by true = refl
      by false = refl

  -- as many are kept as numbers pass
  pub length_kept : (n : ℕ) (xs : List A) → length (kept_of n xs) ≡ rank p n (length xs)
  length_kept n [] = refl
  length_kept n (x ∷ xs) = by (p n) (length_kept (n + 1) xs)
    where
      by : (b : Bool) → length (kept_of (n + 1) xs) ≡ rank p (n + 1) (length xs)
          → length (cond b (f n x ∷ kept_of (n + 1) xs) (kept_of (n + 1) xs))
          ≡ cond b (suc (rank p (n + 1) (length xs))) (rank p (n + 1) (length xs))
      by true r = ap suc r
      by false r = r

  pub kept_append : (n : ℕ) (xs ys : List A) → kept_of n (xs ++ ys) ≡ kept_of n xs ++ kept_of (n + length xs) ys
  kept_append n [] ys = let e : n ≡ n + 0 = omega arith in ap (λ (k : ℕ). kept_of k ys) e
  kept_append n (x ∷ xs) ys =
      let e : n + 1 + length xs ≡ n + suc (length xs) = omega arith in
      by (p n) (kept_append (n + 1) xs ys ∙ ap (λ (k : ℕ). kept_of (n + 1) xs ++ kept_of k ys) e)
    where
      by : (b : Bool) → kept_of (n + 1) (xs ++ ys) ≡ kept_of (n + 1) xs ++ kept_of (n + suc (length xs)) ys
          → cond b (f n x ∷ kept_of (n + 1) (xs ++ ys)) (kept_of (n + 1) (xs ++ ys))
          ≡ cond b (f n x ∷ kept_of (n + 1) xs) (kept_of (n + 1) xs) ++ kept_of (n + suc (length xs)) ys
      by true r = ap (λ (t : List B). f n x ∷ t) r
      by false r = r

  module _ (q : A → Bool) (over : B → Bool) (same : (n : ℕ) (x : A) → over (f n x) ≡ q x) where
    -- the first place that passes, where no other does
    pub kept_position : (n : ℕ) (xs : List A) → ((i : ℕ) → position q xs ≡ Some i → p (n + i) ≡ false → Once q xs)
        → position over (kept_of n xs) ≡ option_and_then (λ i. cond (p (n + i)) (Some (rank p n i)) None)
        (position q xs)
    kept_position n [] once = refl
    kept_position n (x ∷ xs) once =
        by (q x) refl (p n) refl (λ more. kept_position (n + 1) xs more)
        ∙ ap (option_and_then (λ i. cond (p (n + i)) (Some (rank p n i)) None)) (sym (position_next q x xs))
      where
        e0 : n + 0 ≡ n
        e0 = omega arith

        next : (i : ℕ) → n + suc i ≡ n + 1 + i
        next i = omega arith

        rest_once : (i : ℕ) → q x ≡ false → position q xs ≡ Some i → p (n + 1 + i) ≡ false → Once q xs
        rest_once i fails is gone = (once (suc i) (position_next q x xs
            ∙ ap (λ (t : Bool). cond t (Some 0) (option_map suc (position q xs))) fails
            ∙ ap (option_map suc) is) (ap p (next i) ∙ gone)).1

        up : (t : Bool) → p n ≡ t → (o : Option ℕ)
            → cond t (option_map suc (option_and_then (λ i. cond (p (n + 1 + i)) (Some (rank p (n + 1) i)) None) o))
            (option_and_then (λ i. cond (p (n + 1 + i)) (Some (rank p (n + 1) i)) None) o)
            ≡ option_and_then (λ i. cond (p (n + i)) (Some (rank p n i)) None) (option_map suc o)
        up true t None = refl
        up false t None = refl
        up true t (Some i) = at (p (n + 1 + i)) refl
          where
            at : (u : Bool) → p (n + 1 + i) ≡ u
                → option_map suc (cond u (Some (rank p (n + 1) i)) None)
                ≡ cond (p (n + suc i)) (Some (cond (p n) (suc (rank p (n + 1) i)) (rank p (n + 1) i))) None
            at true u =
                sym (ap (λ (v : Bool). cond v (Some (cond (p n) (suc (rank p (n + 1) i)) (rank p (n + 1) i))) None)
                (ap p (next i) ∙ u) ∙ ap (λ (v : Bool). Some (cond v (suc (rank p (n + 1) i)) (rank p (n + 1) i))) t)
            at false u =
                sym (ap (λ (v : Bool). cond v (Some (cond (p n) (suc (rank p (n + 1) i)) (rank p (n + 1) i))) None)
                (ap p (next i) ∙ u))
        up false t (Some i) = ap (λ (v : Bool). cond v (Some (rank p (n + 1) i)) None) (ap p (sym (next i)))
            ∙ ap (λ (v : Bool). cond (p (n + suc i)) (Some (cond v (suc (rank p (n + 1) i)) (rank p (n + 1) i))) None)
            (sym t)

        by : (s : Bool) → q x ≡ s → (t : Bool) → p n ≡ t
            → (((i : ℕ) → position q xs ≡ Some i → p (n + 1 + i) ≡ false → Once q xs)
            → position over (kept_of (n + 1) xs)
            ≡ option_and_then (λ i. cond (p (n + 1 + i)) (Some (rank p (n + 1) i)) None) (position q xs))
            → position over (cond (p n) (f n x ∷ kept_of (n + 1) xs) (kept_of (n + 1) xs))
            ≡ option_and_then (λ i. cond (p (n + i)) (Some (rank p n i)) None)
            (cond (q x) (Some 0) (option_map suc (position q xs)))
        by true s true t r =
            ap (λ (v : Bool). position over (cond v (f n x ∷ kept_of (n + 1) xs) (kept_of (n + 1) xs))) t
            ∙ position_next over (f n x) (kept_of (n + 1) xs)
            ∙ ap (λ (v : Bool). cond v (Some 0) (option_map suc (position over (kept_of (n + 1) xs)))) (same n x ∙ s)
            ∙ sym (ap (λ (v : Bool). option_and_then (λ i. cond (p (n + i)) (Some (rank p n i)) None)
            (cond v (Some 0) (option_map suc (position q xs)))) s
            ∙ ap (λ (v : Bool). cond v (Some 0) None) (ap p e0 ∙ t))
        by true s false t r =
            let gone = ap p e0 ∙ t in
            let only = once 0 (position_next q x xs
            ∙ ap (λ (v : Bool). cond v (Some 0) (option_map suc (position q xs))) s) gone in
            ap (λ (v : Bool). position over (cond v (f n x ∷ kept_of (n + 1) xs) (kept_of (n + 1) xs))) t
            ∙ r (λ i is gone. only.1)
            ∙ ap (option_and_then (λ i. cond (p (n + 1 + i)) (Some (rank p (n + 1) i)) None)) (only.0 s)
            ∙ sym (ap (λ (v : Bool). option_and_then (λ i. cond (p (n + i)) (Some (rank p n i)) None)
            (cond v (Some 0) (option_map suc (position q xs)))) s ∙ ap (λ (v : Bool). cond v (Some 0) None) gone)
        by false s true t r =
            ap (λ (v : Bool). position over (cond v (f n x ∷ kept_of (n + 1) xs) (kept_of (n + 1) xs))) t
            ∙ position_next over (f n x) (kept_of (n + 1) xs)
            ∙ ap (λ (v : Bool). cond v (Some 0) (option_map suc (position over (kept_of (n + 1) xs)))) (same n x ∙ s)
            ∙ ap (option_map suc) (r (λ i is gone. rest_once i s is gone))
            ∙ up true t (position q xs)
            ∙ sym (ap (λ (v : Bool). option_and_then (λ i. cond (p (n + i)) (Some (rank p n i)) None)
            (cond v (Some 0) (option_map suc (position q xs)))) s)
        by false s false t r =
            ap (λ (v : Bool). position over (cond v (f n x ∷ kept_of (n + 1) xs) (kept_of (n + 1) xs))) t
            ∙ r (λ i is gone. rest_once i s is gone)
            ∙ up false t (position q xs)
            ∙ sym (ap (λ (v : Bool). option_and_then (λ i. cond (p (n + i)) (Some (rank p n i)) None)
            (cond v (Some 0) (option_map suc (position q xs)))) s)

-- what is made of elements is kept with them
pub map_kept : {A B : Type 0} (p : ℕ → Bool) (g : A → B) (n : ℕ) (xs : List A)
    → map g (kept_of p (λ k x. x) n xs) ≡ kept_of p (λ k y. y) n (map g xs)
map_kept p g n [] = refl
map_kept {A} {B} p g n (x ∷ xs) = by (p n) (map_kept p g (n + 1) xs)
  where
    by : (b : Bool) → map g (kept_of p (λ k x. x) (n + 1) xs) ≡ kept_of p (λ k y. y) (n + 1) (map g xs)
        → map g (cond b (x ∷ kept_of p (λ k x. x) (n + 1) xs) (kept_of p (λ k x. x) (n + 1) xs))
        ≡ cond b (g x ∷ kept_of p (λ k y. y) (n + 1) (map g xs)) (kept_of p (λ k y. y) (n + 1) (map g xs))
    by true r = ap (λ (t : List B). g x ∷ t) r
    by false r = r

-- ---- ranks

module _ (p : ℕ → Bool) where
  -- a rank, part by part
  pub rank_sum : (n i j : ℕ) → rank p n (i + j) ≡ rank p n i + rank p (n + i) j
  rank_sum n zero j = let e : zero + j ≡ j = omega arith in let f : n ≡ n + zero = omega arith in ap (rank p n) e
      ∙ ap (λ (k : ℕ). rank p k j) f ∙ none (rank p (n + zero) j)
    where
      none : (k : ℕ) → k ≡ 0 + k
      none k = omega arith
  rank_sum n (suc i) j =
      let e : suc i + j ≡ suc (i + j) = omega arith in
      let f : n + 1 + i ≡ n + suc i = omega arith in
      ap (rank p n) e ∙ by (p n) (rank_sum (n + 1) i j ∙ ap (λ (k : ℕ). rank p (n + 1) i + rank p k j) f)
    where
      by : (b : Bool) → rank p (n + 1) (i + j) ≡ rank p (n + 1) i + rank p (n + suc i) j
          → cond b (suc (rank p (n + 1) (i + j))) (rank p (n + 1) (i + j))
          ≡ cond b (suc (rank p (n + 1) i)) (rank p (n + 1) i) + rank p (n + suc i) j
      by true r = omega (arith, r)
      by false r = r

  -- behind a number that passes ranks are greater
  rank_less : (n i j : ℕ) → i < j → p (n + i) ≡ true → rank p n i < rank p n j
  rank_less n i zero low h = absurd (omega (arith, low))
  rank_less n zero (suc j) low h =
      let e : n + zero ≡ n = omega arith in
      rw (sym (ap p e) ∙ h) (omega arith)
  rank_less n (suc i) (suc j) low h =
      let e : n + suc i ≡ n + 1 + i = omega arith in
      by (p n) (rank_less (n + 1) i j (omega (arith, low)) (ap p (sym e) ∙ h))
    where
      by : (b : Bool) → rank p (n + 1) i < rank p (n + 1) j
          → cond b (suc (rank p (n + 1) i)) (rank p (n + 1) i) < cond b (suc (rank p (n + 1) j)) (rank p (n + 1) j)
      by true r = omega (arith, r)
      by false r = r

  -- kept places have ranks of their own
  pub rank_same : (n i j : ℕ) → p (n + i) ≡ true → p (n + j) ≡ true → eqb (rank p n i) (rank p n j) ≡ eqb i j
  rank_same n i j h k =
      ⊎_elim (λ e. eq-eqb (rank p n i) (rank p n j) (ap (rank p n) e) ∙ sym (eq-eqb i j e))
      (λ e. other e (cases_lt i j)) (cases_eq i j)
    where
      other : (i ≡ j → ⊥) → (i < j) ⊎ (j ≤ i) → eqb (rank p n i) (rank p n j) ≡ eqb i j
      other e (inl low) = let r = rank_less n i j low h in ne_eqb (rank p n i) (rank p n j) (λ s. omega (arith, r, s))
          ∙ sym (ne_eqb i j e)
      other e (inr high) =
          let low : j < i = omega (arith, high, e) in
          let r = rank_less n j i low k in
          ne_eqb (rank p n i) (rank p n j) (λ s. omega (arith, r, s)) ∙ sym (ne_eqb i j e)

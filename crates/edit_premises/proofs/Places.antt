-- Where indices come to stand.
use Rattle.std.proofs.Common.{ℕ, zero, suc, ◌+◌, ◌-◌, ◌<◌, List, [], ◌∷◌, Some, Bool, true, false}
use Rattle.std.proofs.Common.{◌≡◌, ◌≤◌, ◌⊎◌, inl, inr, refl, sym, ap, ◌∙◌, subst, arith}
use Rattle.std.specs.Prelude.{length, map, nat_le, nat_lt, slice_get, if◌then◌else◌}
use Rattle.std.specs.Option.{option_map}
use Rattle.std.proofs.lemmas.Bool.Decides.{leb_tells}
use Rattle.code_edit.specs.Rewriting.{living, map_from, place, survivors}

cons_get : {A : Type 0} (b : Bool) (x : A) (xs : List A) (n : ℕ)
    → slice_get (if b then x ∷ xs else xs) (if b then suc n else n) ≡ slice_get xs n
cons_get true x xs n = refl
cons_get false x xs n = refl

pub survivors_get : {A : Type 0} (lives : ℕ → Bool) (xs : List A) (i k : ℕ) → lives (i + k) ≡ true
    → slice_get (survivors lives i xs) (living lives i k) ≡ slice_get xs k
survivors_get lives [] i k h = refl
survivors_get lives (x ∷ xs) i zero h =
    let here : lives i ≡ true = let e : i + 0 ≡ i = omega arith in
    subst (λ j. lives j ≡ true) e h in
    ap (λ b. slice_get (if b then x ∷ survivors lives (suc i) xs else survivors lives (suc i) xs) 0)
    here
survivors_get lives (x ∷ xs) i (suc k) h =
    let e : i + suc k ≡ suc i + k = omega arith in
    cons_get (lives i) x (survivors lives (suc i) xs) (living lives (suc i) k)
    ∙ survivors_get lives xs (suc i) k (subst (λ j. lives j ≡ true) e h)

living_end : (lives : ℕ → Bool) (i n : ℕ) (b : Bool) → lives (i + n) ≡ b
    → living lives i (suc n) ≡ (if b then suc (living lives i n) else living lives i n)
living_end lives i zero b h =
    let here : lives i ≡ b = let e : i + 0 ≡ i = omega arith in subst (λ j. lives j ≡ b) e h in
    ap (λ c. if c then 1 else 0) here
living_end lives i (suc n) b h =
    let e : i + suc n ≡ suc i + n = omega arith in
    by (lives i) b _ _ (living_end lives (suc i) n b (subst (λ j. lives j ≡ b) e h))
  where
    by : (c b : Bool) (x y : ℕ) → x ≡ (if b then suc y else y)
        → (if c then suc x else x) ≡ (if b then suc (if c then suc y else y) else
        (if c then suc y else y))
    by true true x y q = ap suc q
    by true false x y q = ap suc q
    by false true x y q = q
    by false false x y q = q

next_at : (lives : ℕ → Bool) (n : ℕ) (b : Bool) → lives n ≡ b
    → place lives (n + 1) ≡ (if b then suc (place lives n) else place lives n)
next_at lives n b h =
    let e : suc n ≡ n + 1 = omega arith in
    let z : n ≡ 0 + n = omega arith in
    ap (place lives) (sym e) ∙ living_end lives 0 n b (subst (λ j. lives j ≡ b) z h)

pub place_next : (lives : ℕ → Bool) (n : ℕ) → lives n ≡ true
    → place lives (n + 1) ≡ place lives n + 1
place_next lives n h = next_at lives n true h ∙ omega arith

-- what goes takes no place
pub place_stays : (lives : ℕ → Bool) (n : ℕ) → lives n ≡ false → place lives (n + 1) ≡ place lives n
place_stays lives n h = next_at lives n false h

living_more : (lives : ℕ → Bool) (i n : ℕ) → living lives i n ≤ living lives i (suc n)
living_more lives i zero = omega arith
living_more lives i (suc n) = by (lives i) _ _ (living_more lives (suc i) n)
  where
    by : (b : Bool) (x y : ℕ) → x ≤ y → (if b then suc x else x) ≤ (if b then suc y else y)
    by true x y q = omega arith
    by false x y q = q

living_up : (lives : ℕ → Bool) (n k : ℕ) → living lives 0 n ≤ living lives 0 (n + k)
living_up lives n zero = let e : n ≡ n + 0 = omega arith in
    subst (λ j. living lives 0 n ≤ living lives 0 j) e (omega arith)
living_up lives n (suc k) =
    let e : suc (n + k) ≡ n + suc k = omega arith in
    subst (λ j. living lives 0 n ≤ living lives 0 j) e
    (omega (arith, living_up lives n k, living_more lives 0 (n + k)))

pub place_le : (lives : ℕ → Bool) (n m : ℕ) → n ≤ m → place lives n ≤ place lives m
place_le lives n m le = let e : n + (m - n) ≡ m = omega arith in
    subst (λ j. living lives 0 n ≤ living lives 0 j) e (living_up lives n (m - n))

pub place_lt : (lives : ℕ → Bool) (n m : ℕ) → lives n ≡ true → n < m → place lives n < place lives m
place_lt lives n m h lt =
    omega (arith, place_next lives n h, place_le lives (n + 1) m (omega arith))

-- at a living index the order with others is what it was
pub le_same : (lives : ℕ → Bool) (n i : ℕ) → lives i ≡ true
    → nat_le (place lives n) (place lives i) ≡ nat_le n i
le_same lives n i h = by (leb_tells n i) (leb_tells (place lives n) (place lives i))
  where
    by : ((nat_le n i ≡ true) × (n ≤ i)) ⊎ ((nat_le n i ≡ false) × (i < n))
        → ((nat_le (place lives n) (place lives i) ≡ true) × (place lives n ≤ place lives i))
        ⊎ ((nat_le (place lives n) (place lives i) ≡ false) × (place lives i < place lives n))
        → nat_le (place lives n) (place lives i) ≡ nat_le n i
    by (inl a) (inl b) = b.0 ∙ sym a.0
    by (inl a) (inr b) = absurd (omega (arith, b.1, place_le lives n i a.1))
    by (inr a) (inl b) = absurd (omega (arith, b.1, place_lt lives i n h a.1))
    by (inr a) (inr b) = b.0 ∙ sym a.0

pub lt_same : (lives : ℕ → Bool) (i n : ℕ) → lives i ≡ true
    → nat_lt (place lives i) (place lives n) ≡ nat_lt i n
lt_same lives i n h = by (leb_tells (suc i) n) (leb_tells (suc (place lives i)) (place lives n))
  where
    by : ((nat_lt i n ≡ true) × (suc i ≤ n)) ⊎ ((nat_lt i n ≡ false) × (n < suc i))
        → ((nat_lt (place lives i) (place lives n) ≡ true) × (suc (place lives i) ≤ place lives n))
        ⊎ ((nat_lt (place lives i) (place lives n) ≡ false) × (place lives n < suc (place lives i)))
        → nat_lt (place lives i) (place lives n) ≡ nat_lt i n
    by (inl a) (inl b) = b.0 ∙ sym a.0
    by (inl a) (inr b) = absurd (omega (arith, b.1, place_lt lives i n h (omega (arith, a.1))))
    by (inr a) (inl b) = absurd (omega (arith, b.1, place_le lives n i (omega (arith, a.1))))
    by (inr a) (inr b) = b.0 ∙ sym a.0

pub map_get : {A B : Type 0} (f : A → B) (xs : List A) (n : ℕ)
    → slice_get (map f xs) n ≡ option_map f (slice_get xs n)
map_get f [] n = refl
map_get f (x ∷ xs) zero = refl
map_get f (x ∷ xs) (suc n) = map_get f xs n

pub map_from_get : {A B : Type 0} (f : ℕ → A → B) (i : ℕ) (xs : List A) (n : ℕ)
    → slice_get (map_from f i xs) n ≡ option_map (f (i + n)) (slice_get xs n)
map_from_get f i [] n = refl
map_from_get f i (x ∷ xs) zero = let e : i ≡ i + 0 = omega arith in ap (λ k. Some (f k x)) e
map_from_get f i (x ∷ xs) (suc n) =
    let e : suc i + n ≡ i + suc n = omega arith in
    map_from_get f (suc i) xs n ∙ ap (λ k. option_map (f k) (slice_get xs n)) e

-- what is at an index is before the end
pub get_below : {A : Type 0} (xs : List A) (n : ℕ) (x : A) → slice_get xs n ≡ Some x → n < length xs
get_below [] n x h = absurd cc
get_below (y ∷ xs) zero x h = omega arith
get_below (y ∷ xs) (suc n) x h = omega (arith, get_below xs n x h)

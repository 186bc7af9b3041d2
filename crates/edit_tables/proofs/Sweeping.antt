-- What the sweep leaves is what no act drops.
use Rattle.std.proofs.Common.{ℕ, zero, suc, ◌+◌, ◌<◌, ◌≤◌, List, [], ◌∷◌, Bool, true, false, ◌≡◌}
use Rattle.std.proofs.Common.{◌⊎◌, inl, inr, refl, sym, ap, ◌∙◌, subst, arith}
use Rattle.std.specs.Prelude.{length, max, nat_le, nat_lt, not, replicate, slice_index_or}
use Rattle.std.specs.Prelude.{slice_set, ◌&&◌, ◌||◌, if◌then◌else◌}
use Rattle.std.specs.List.{list_any}
use Rattle.std.proofs.lemmas.Bool.Decides.{leb_tells}
use Rattle.code_edit.specs.declared.act.Act.{Act}
use Rattle.code_edit.specs.declared.act.Act.TheVariants as act
use Rattle.code_edit.specs.Reach.{drops, is_left}
use Rattle.edit_tables.specs.Swept.{further, furthest, swept, swept_of}

-- ---- tests

le_max : (a b n : ℕ) → nat_le (max a b) n ≡ (nat_le a n && nat_le b n)
le_max a b n = by (leb_tells (max a b) n) (leb_tells a n) (leb_tells b n)
  where
    by : ((nat_le (max a b) n ≡ true) × (max a b ≤ n))
        ⊎ ((nat_le (max a b) n ≡ false) × (n < max a b))
        → ((nat_le a n ≡ true) × (a ≤ n)) ⊎ ((nat_le a n ≡ false) × (n < a))
        → ((nat_le b n ≡ true) × (b ≤ n)) ⊎ ((nat_le b n ≡ false) × (n < b))
        → nat_le (max a b) n ≡ (nat_le a n && nat_le b n)
    by (inl p) (inl q) (inl r) = p.0 ∙ sym (ap (λ t. t && nat_le b n) q.0 ∙ r.0)
    by (inl p) (inl q) (inr r) = absurd (omega (arith, p.1, r.1))
    by (inl p) (inr q) r = absurd (omega (arith, p.1, q.1))
    by (inr p) (inl q) (inl r) = absurd (omega (arith, p.1, q.1, r.1))
    by (inr p) (inl q) (inr r) = p.0 ∙ sym (ap (λ t. t && nat_le b n) q.0 ∙ r.0)
    by (inr p) (inr q) r = p.0 ∙ sym (ap (λ t. t && nat_le b n) q.0)

and_true : (a : Bool) → a ≡ (a && true)
and_true true = refl
and_true false = refl

and_three : (a b c : Bool) → ((a && b) && c) ≡ ((a && c) && b)
and_three true true true = refl
and_three true true false = refl
and_three true false true = refl
and_three true false false = refl
and_three false b c = refl

and_later : (a b c : Bool) → (a && (b && c)) ≡ ((a && b) && c)
and_later true b c = refl
and_later false b c = refl

-- ---- the sweep

-- the ends up to an index are at most a number
abbrev front : ℕ → List ℕ → ℕ → Bool
front n [] k = true
front n (x ∷ xs) zero = nat_le x n
front n (x ∷ xs) (suc k) = nat_le x n && front n xs k

swept_at : (end at : ℕ) (xs : List ℕ) (k : ℕ) → k < length xs
    → slice_index_or (swept end at xs) k true ≡ (nat_le end (at + k) && front (at + k) xs k)
swept_at end at [] k lt = absurd (omega (arith, lt))
swept_at end at (x ∷ xs) zero lt = let e : at ≡ at + 0 = omega arith in
    le_max end x at ∙ ap (λ n. nat_le end n && nat_le x n) e
swept_at end at (x ∷ xs) (suc k) lt =
    let e : suc at + k ≡ at + suc k = omega arith in
    swept_at (max end x) (suc at) xs k (omega (arith, lt))
    ∙ ap (λ n. nat_le (max end x) n && front n xs k) e
    ∙ ap (λ t. t && front (at + suc k) xs k) (le_max end x (at + suc k))
    ∙ sym (and_later (nat_le end (at + suc k)) (nat_le x (at + suc k)) (front (at + suc k) xs k))

after : (k i : ℕ) → nat_lt (suc k) (suc i) ≡ nat_lt k i
after k i = by (leb_tells (suc (suc k)) (suc i)) (leb_tells (suc k) i)
  where
    by : ((nat_lt (suc k) (suc i) ≡ true) × (suc (suc k) ≤ suc i))
        ⊎ ((nat_lt (suc k) (suc i) ≡ false) × (suc i < suc (suc k)))
        → ((nat_lt k i ≡ true) × (suc k ≤ i)) ⊎ ((nat_lt k i ≡ false) × (i < suc k))
        → nat_lt (suc k) (suc i) ≡ nat_lt k i
    by (inl p) (inl q) = p.0 ∙ sym q.0
    by (inl p) (inr q) = absurd (omega (arith, p.1, q.1))
    by (inr p) (inl q) = absurd (omega (arith, p.1, q.1))
    by (inr p) (inr q) = p.0 ∙ sym q.0

first_before : (i : ℕ) → nat_lt 0 (suc i) ≡ true
first_before i = by (leb_tells 1 (suc i))
  where
    by : ((nat_lt 0 (suc i) ≡ true) × (1 ≤ suc i)) ⊎ ((nat_lt 0 (suc i) ≡ false) × (suc i < 1))
        → nat_lt 0 (suc i) ≡ true
    by (inl p) = p.0
    by (inr p) = absurd (omega (arith, p.1))

none_before : (k : ℕ) → nat_lt k 0 ≡ false
none_before k = by (leb_tells (suc k) 0)
  where
    by : ((nat_lt k 0 ≡ true) × (suc k ≤ 0)) ⊎ ((nat_lt k 0 ≡ false) × (0 < suc k))
        → nat_lt k 0 ≡ false
    by (inl p) = absurd (omega (arith, p.1))
    by (inr p) = p.0

-- one more end
front_set : (n v : ℕ) (xs : List ℕ) (i k : ℕ) → i < length xs
    → front n
    (slice_set xs i (max (slice_index_or xs i 0) v)) k ≡ (front n xs k &&
    (nat_lt k i || nat_le v n))
front_set n v [] i k lt = absurd (omega (arith, lt))
front_set n v (x ∷ xs) zero zero lt = le_max x v n
    ∙ ap (λ t. nat_le x n && (t || nat_le v n)) (sym (none_before 0))
front_set n v (x ∷ xs) zero (suc k) lt =
    ap (λ t. t && front n xs k) (le_max x v n)
    ∙ and_three (nat_le x n) (nat_le v n) (front n xs k)
    ∙ ap (λ t. (nat_le x n && front n xs k) && (t || nat_le v n)) (sym (none_before (suc k)))
front_set n v (x ∷ xs) (suc i) zero lt = and_true (nat_le x n)
    ∙ ap (λ t. nat_le x n && (t || nat_le v n)) (sym (first_before i))
front_set n v (x ∷ xs) (suc i) (suc k) lt =
    ap (λ t. nat_le x n && t) (front_set n v xs i k (omega (arith, lt)))
    ∙ and_later (nat_le x n) (front n xs k) (nat_lt k i || nat_le v n)
    ∙ ap (λ t. (nat_le x n && front n xs k) && (t || nat_le v n)) (sym (after k i))

-- ---- acts

missed : (from to at : ℕ)
    → (nat_lt at from || nat_le (to + 1) at) ≡ not (nat_le from at && nat_le at to)
missed from to at = by (leb_tells (suc at) from) (leb_tells from at) (leb_tells (to + 1) at)
    (leb_tells at to)
  where
    by : ((nat_lt at from ≡ true) × (suc at ≤ from)) ⊎ ((nat_lt at from ≡ false) × (from < suc at))
        → ((nat_le from at ≡ true) × (from ≤ at)) ⊎ ((nat_le from at ≡ false) × (at < from))
        → ((nat_le (to + 1) at ≡ true) × (to + 1 ≤ at))
        ⊎ ((nat_le (to + 1) at ≡ false) × (at < to + 1))
        → ((nat_le at to ≡ true) × (at ≤ to)) ⊎ ((nat_le at to ≡ false) × (to < at))
        → (nat_lt at from || nat_le (to + 1) at) ≡ not (nat_le from at && nat_le at to)
    by (inl p) (inl q) r s = absurd (omega (arith, p.1, q.1))
    by (inl p) (inr q) r s = ap (λ t. t || nat_le (to + 1) at) p.0
        ∙ sym (ap (λ t. not (t && nat_le at to)) q.0)
    by (inr p) (inl q) (inl r) (inl s) = absurd (omega (arith, r.1, s.1))
    by (inr p) (inl q) (inl r) (inr s) = ap (λ t. t || nat_le (to + 1) at) p.0 ∙ r.0
        ∙ sym (ap (λ t. not (t && nat_le at to)) q.0 ∙ ap not s.0)
    by (inr p) (inl q) (inr r) (inl s) = ap (λ t. t || nat_le (to + 1) at) p.0 ∙ r.0
        ∙ sym (ap (λ t. not (t && nat_le at to)) q.0 ∙ ap not s.0)
    by (inr p) (inl q) (inr r) (inr s) = absurd (omega (arith, r.1, s.1))
    by (inr p) (inr q) r s = absurd (omega (arith, p.1, q.1))

beyond : (from to at : ℕ) → at < from → not (nat_le from at && nat_le at to) ≡ true
beyond from to at lt = by (leb_tells from at)
  where
    by : ((nat_le from at ≡ true) × (from ≤ at)) ⊎ ((nat_le from at ≡ false) × (at < from))
        → not (nat_le from at && nat_le at to) ≡ true
    by (inl p) = absurd (omega (arith, p.1, lt))
    by (inr p) = ap (λ t. not (t && nat_le at to)) p.0

set_long : (xs : List ℕ) (i v : ℕ) → length (slice_set xs i v) ≡ length xs
set_long [] i v = refl
set_long (x ∷ xs) zero v = refl
set_long (x ∷ xs) (suc i) v = ap suc (set_long xs i v)

further_front : (a : Act) (ends : List ℕ) (at : ℕ) → at < length ends
    → front at (further a ends) at ≡ (front at ends at && not (drops at a))
further_front (act.Drop from to) ends at lt = by (leb_tells (suc from) (length ends))
  where
    by : ((nat_lt from (length ends) ≡ true) × (suc from ≤ length ends))
        ⊎ ((nat_lt from (length ends) ≡ false) × (length ends < suc from))
        → front at
        (if nat_lt from (length ends) then slice_set ends from
        (max (slice_index_or ends from 0) (to + 1)) else ends) at
        ≡ (front at ends at && not (nat_le from at && nat_le at to))
    by (inl p) =
        ap
        (λ t. front at
        (if t then slice_set ends from (max (slice_index_or ends from 0) (to + 1)) else ends)
        at) p.0
        ∙ front_set at (to + 1) ends from at (omega (arith, p.1))
        ∙ ap (λ t. front at ends at && t) (missed from to at)
    by (inr p) =
        ap
        (λ t. front at
        (if t then slice_set ends from (max (slice_index_or ends from 0) (to + 1)) else ends)
        at) p.0
        ∙ and_true (front at ends at)
        ∙ ap (λ t. front at ends at && t) (sym (beyond from to at (omega (arith, p.1, lt))))
further_front a ends at lt = and_true (front at ends at)

further_long : (a : Act) (ends : List ℕ) → length (further a ends) ≡ length ends
further_long (act.Drop from to) ends = by (nat_lt from (length ends))
  where
    by : (t : Bool)
        → length
        (if t then slice_set ends from
        (max (slice_index_or ends from 0) (to + 1)) else ends) ≡ length ends
    by true = set_long ends from (max (slice_index_or ends from 0) (to + 1))
    by false = refl
further_long a ends = refl

furthest_long : (acts : List Act) (ends : List ℕ) → length (furthest acts ends) ≡ length ends
furthest_long [] ends = refl
furthest_long (a ∷ acts) ends = furthest_long acts (further a ends) ∙ further_long a ends

not_or : (f a b : Bool) → ((f && not a) && not b) ≡ (f && not (a || b))
not_or true true b = refl
not_or true false b = refl
not_or false a b = refl

furthest_front : (acts : List Act) (ends : List ℕ) (at : ℕ) → at < length ends
    → front at (furthest acts ends) at ≡ (front at ends at && is_left acts at)
furthest_front [] ends at lt = and_true (front at ends at)
furthest_front (a ∷ acts) ends at lt =
    furthest_front acts (further a ends) at (subst (λ n. at < n) (sym (further_long a ends)) lt)
    ∙ ap (λ t. t && is_left acts at) (further_front a ends at lt)
    ∙ not_or (front at ends at) (drops at a) (list_any (drops at) acts)

zero_le : (n : ℕ) → nat_le 0 n ≡ true
zero_le n = by (leb_tells 0 n)
  where
    by : ((nat_le 0 n ≡ true) × (0 ≤ n)) ⊎ ((nat_le 0 n ≡ false) × (n < 0)) → nat_le 0 n ≡ true
    by (inl p) = p.0
    by (inr p) = absurd (omega (arith, p.1))

abbrev zeros : ℕ → List ℕ
zeros count = replicate count 0

zeros_front : (n count k : ℕ) → front n (zeros count) k ≡ true
zeros_front n zero k = refl
zeros_front n (suc count) zero = zero_le n
zeros_front n (suc count) (suc k) = ap (λ t. t && front n (zeros count) k) (zero_le n)
    ∙ zeros_front n count k

zeros_long : (count : ℕ) → length (zeros count) ≡ count
zeros_long zero = refl
zeros_long (suc count) = ap suc (zeros_long count)

pub swept_is : (acts : List Act) (count at : ℕ) → at < count
    → slice_index_or (swept_of acts count) at true ≡ is_left acts at
swept_is acts count at lt =
    let long : at < length (zeros count) = subst (λ n. at < n) (sym (zeros_long count)) lt in
    let z : 0 + at ≡ at = omega arith in
    swept_at 0 0 (furthest acts (zeros count)) at
    (subst (λ n. at < n) (sym (furthest_long acts (zeros count))) long)
    ∙ ap (λ n. nat_le 0 n && front n (furthest acts (zeros count)) at) z
    ∙ ap (λ t. t && front at (furthest acts (zeros count)) at) (zero_le at)
    ∙ furthest_front acts (zeros count) at long
    ∙ ap (λ t. t && is_left acts at) (zeros_front at count at)

pub swept_long : (acts : List Act) (count : ℕ) → length (swept_of acts count) ≡ count
swept_long acts count =
    all_swept 0 0 (furthest acts (zeros count)) ∙ furthest_long acts (zeros count)
    ∙ zeros_long count
  where
    all_swept : (end at : ℕ) (xs : List ℕ) → length (swept end at xs) ≡ length xs
    all_swept end at [] = refl
    all_swept end at (x ∷ xs) = ap suc (all_swept (max end x) (suc at) xs)

-- A list that has each number below n has at least n places, and one more where it has another number.
use Rattle.std.proofs.Common.{◌≡◌, ◌≢◌, ◌+◌, ◌-◌, ◌<◌, ◌≤◌, ℕ, zero, suc, List, ◌++◌, ◌∙◌, sym, ap, arith}
use Rattle.std.proofs.Common.{⊎_elim, length, get_or, take, drop, length-append, length-drop}
use Rattle.std.specs.List.{Contains}
use Rattle.std.proofs.lemmas.Bool.{cases_order}
use Rattle.std.proofs.lemmas.List.{get_or_append_left, get_or-append_right, get_or-drop, get_or-take, length-take-le, get_or_default}

-- the list without the place
abbrev without : List ℕ → ℕ → List ℕ
without l i = take i l ++ drop (i + 1) l

length-without : (l : List ℕ) (i : ℕ) → i < length l → length (without l i) + 1 ≡ length l
length-without l i lt =
    let front = length-take-le i l (omega (arith, lt)) in
    let both = length-append (take i l) (drop (i + 1) l) in
    let rest = length-drop (i + 1) l in
    omega (arith, lt, front, both, rest)

before : (l : List ℕ) (i j d : ℕ) → i < length l → j < i → get_or (without l i) j d ≡ get_or l j d
before l i j d lt low =
    let front = length-take-le i l (omega (arith, lt)) in
    get_or_append_left (take i l) (drop (i + 1) l) d j (omega (arith, front, low)) ∙ get_or-take i l j d low

behind : (l : List ℕ) (i j d : ℕ) → i < length l → i < j → get_or (without l i) (j - 1) d ≡ get_or l j d
behind l i j d lt low =
    get_or-append_right (take i l) (drop (i + 1) l) i (j - 1) d (length-take-le i l (omega (arith, lt))) (omega (arith, low))
    ∙ (get_or-drop (i + 1) l (j - 1 - i) d
    ∙ ap (λ k. get_or l k d) (let e : i + 1 + (j - 1 - i) ≡ j = omega (arith, low) in e))

-- another number is still there
still_there : (l : List ℕ) (i d v : ℕ) → i < length l → get_or l i d ≢ v → Contains l v → Contains (without l i) v
still_there l i d v lt other (k, low, is) =
    let fewer = length-without l i lt in
    ⊎_elim
    (λ same. absurd (other (sym (ap (λ j. get_or l j d) same)
    ∙ (let there : get_or l k d ≡ v = get_or_default l k d v low ∙ is in there))))
    (⊎_elim
    (λ less. (k, omega (arith, fewer, less, lt), before l i k v lt less ∙ is))
    (λ more. (k - 1, omega (arith, fewer, more, low), behind l i k v lt more ∙ is)))
    (cases_order k i)

pub room : (n : ℕ) (l : List ℕ) → ((v : ℕ) → v < n → Contains l v) → n ≤ length l
room zero l all = omega arith
room (suc n) l all =
    let last : Contains l n = all n (omega arith) in
    let i : ℕ = last.0 in
    let lt : i < length l = last.1 in
    let rest : n ≤ length (without l i) = room n (without l i)
    (λ v low. still_there l i n v lt (λ same. let is : get_or l i n ≡ n = last.2 in omega (arith, same, is, low))
    (all v (omega (arith, low)))) in
    let fewer = length-without l i lt in
    omega (arith, rest, fewer)

pub no_room : (n : ℕ) (l : List ℕ) (i d : ℕ) → length l ≡ n → ((v : ℕ) → v < n → Contains l v) → i < length l
    → n ≤ get_or l i d → ⊥
no_room n l i d count all lt other =
    let rest : n ≤ length (without l i) = room n (without l i)
    (λ v low. still_there l i d v lt (λ same. omega (arith, same, other, low)) (all v low)) in
    let fewer = length-without l i lt in
    omega (arith, rest, fewer, count)

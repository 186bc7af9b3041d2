-- Paths that ascend from each file to the next.
use Rattle.std.proofs.Common.{◌≡◌, ⊎_elim, ℕ, ◌+◌, ◌-◌, ◌<◌, true, false, List, length, get_or, Ordering, Less, Equal}
use Rattle.std.proofs.Common.{Greater, is_lt, is_ge, nat_cmp, refl, ap, sym, subst, arith}
use Rattle.std.specs.Cmp.Lexicographic.{slice_cmp}
use Rattle.std.proofs.lemmas.Bool.{cases_lt}
use Rattle.std.proofs.lemmas.Cmp.{nat_list_cmp_total}
use Rattle.std.proofs.lemmas.List.{get_or_default}
use Rattle.class_pool.specs.declared.fault.NamedClass.{NamedClass}

-- the path of the file at one place is less than that at another
abbrev pub IsLess : List NamedClass → ℕ → ℕ → NamedClass → Type 0
IsLess files i j d = is_lt (slice_cmp nat_cmp (get_or files i d).path (get_or files j d).path) ≡ true

pub less : (o : Ordering) → is_lt o ≡ true → o ≡ Less
less Less h = refl
less Equal h = absurd cc
less Greater h = absurd cc

not_ge : (o : Ordering) → is_ge o ≡ false → is_lt o ≡ true
not_ge Less h = refl
not_ge Equal h = absurd cc
not_ge Greater h = absurd cc

trans : (files : List NamedClass) (i j k : ℕ) (d : NamedClass) → IsLess files i j d → IsLess files j k d
    → IsLess files i k d
trans files i j k d first second = ap is_lt
    (nat_list_cmp_total.trans (get_or files i d).path (get_or files j d).path (get_or files k d).path (less _ first)
    (less _ second))

pub next_less : (files : List NamedClass) (n : ℕ) (x y d : NamedClass) → n < length files
    → is_ge (slice_cmp nat_cmp (get_or files (n - 1) x).path (get_or files n y).path) ≡ false → IsLess files (n - 1) n d
next_less files n x y d within h =
    let first : get_or files (n - 1) d
    ≡ get_or files (n - 1) x = get_or_default files (n - 1) d x (omega (arith, within)) in
    let second : get_or files n d ≡ get_or files n y = get_or_default files n d y within in
    rw (first, second) (not_ge _ h)

pub ascends_more : (files : List NamedClass) (n : ℕ) → ((i j : ℕ) (d : NamedClass) → i < j → j < n → IsLess files i j d)
    → ((d : NamedClass) → IsLess files (n - 1) n d)
    → (i j : ℕ) (d : NamedClass) → i < j → j < n + 1 → IsLess files i j d
ascends_more files n before next i j d low high =
    ⊎_elim
    (λ inside. before i j d low inside)
    (λ over.
    let same : j ≡ n = omega (arith, high, over) in
    subst (λ (k : ℕ). IsLess files i k d) (sym same)
    (⊎_elim
    (λ far. trans files i (n - 1) n d (before i (n - 1) d far (omega (arith, far))) (next d))
    (λ near. subst (λ (k : ℕ). IsLess files k n d) (omega (arith, near, low, same)) (next d))
    (cases_lt i (n - 1))))
    (cases_lt j n)

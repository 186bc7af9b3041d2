-- Numbers that are sorted and of which each is taken once.
use Rattle.std.proofs.Common.{◌≡◌, ℕ, zero, suc, ◌+◌, ◌<◌, ◌==◌, Bool, true, false, cond, List, [], ◌∷◌, not}
use Rattle.std.proofs.Common.{Result, Ok, Err, get_or, refl, sym, ap, subst, ◌∙◌, arith}
use Rattle.std.specs.Prelude.{IfOk, nat_eq}
use Rattle.std.specs.List.Retain.{DiffersFromLast, IsFiltered}
use Rattle.std.proofs.lemmas.List.Filters.{dedup_is}
use Rattle.std.specs.List.{AllPairs, Contains, dedup, filter}
use Rattle.std.specs.List.Sorted.{IsPermutation, IsSorted}
use Rattle.std.specs.Ordering.{is_lt, nat_cmp}
use Rattle.std.specs.declared.cmp.Ordering.TheVariants.{Equal, Greater, Less}
use Rattle.std.proofs.Math.Dec.{eqb}
use Rattle.std.proofs.lemmas.Bool.{eqb-true, le-ltb}
use Rattle.std.proofs.lemmas.Cmp.{nat_eq_equiv}
use Rattle.std.proofs.lemmas.List.Kept.{AllPairs-from_increasing, Contains-dedup_nat, Contains-from_dedup}
use Rattle.std.proofs.lemmas.List.Sorted.{Contains-permutation, IsPermutation-sym}
use Rattle.std.proofs.lemmas.Map.Keys.{IsStrictlyIncreasing-dedup}
use Rattle.std.proofs.lemmas.Map.Views.{Contains-from_any, list_any-from_Contains}
use Rattle.jv_base.proofs.Tests.{same_test}
use Rattle.class_model.specs.declared.class.Class.{Class}
use Rattle.require_sys.specs.Requires.{Item, ascending, needs_of, numbers}
use Rattle.item_numbers.specs.bodies.Wanting.{HasSame, Wanted, has, needs_from, wanting, wanting_nothing}
use Rattle.item_numbers.proofs.Ascending.{Rising, ascending_same, has_ascending, rising_ascending, unique}
use Rattle.require_sys.proofs.Parts.{from_all}

pub rising_from : (xs : List ℕ) → AllPairs (λ x y. x < y) xs → Rising xs
rising_from [] h = tt
rising_from (x ∷ xs) h = (
  from_all (λ y. x < y) xs (λ k d lt. h zero (suc k) d (omega arith) (omega (arith, lt))),
  rising_from xs (λ i j d lt within. h (suc i) (suc j) d (omega (arith, lt)) (omega (arith, within))),
)

found : (x : ℕ) (xs : List ℕ) → Contains xs x → has x xs ≡ true
found x xs h = list_any-from_Contains nat_eq_equiv x xs h

stands : (x : ℕ) (xs : List ℕ) → has x xs ≡ true → Contains xs x
stands x xs h = Contains-from_any {eq = nat_eq} (λ a b e. eqb-true a b e) x xs h

pub sorted_once : (wants sorted once : List ℕ) → IsPermutation wants sorted → IsSorted nat_cmp sorted
    → once ≡ dedup eqb sorted → once ≡ ascending wants
sorted_once wants sorted once perm sort is =
    is ∙ unique (dedup eqb sorted) (ascending wants)
    (rising_from (dedup eqb sorted) (AllPairs-from_increasing (dedup eqb sorted)
    (IsStrictlyIncreasing-dedup sorted sort)))
    (rising_ascending wants)
    (λ x. same_test (has x (dedup eqb sorted)) (has x wants)
    (λ h. found x wants (Contains-permutation sorted wants x (IsPermutation-sym wants sorted perm)
    (Contains-from_dedup eqb sorted x (stands x (dedup eqb sorted) h))))
    (λ h. found x (dedup eqb sorted) (Contains-dedup_nat sorted x
    (Contains-permutation wants sorted x perm (stands x wants h)))) ∙ sym (has_ascending x wants))

tied_or_greater : (b : Bool) → is_lt (cond b Equal Greater) ≡ false
tied_or_greater true = refl
tied_or_greater false = refl

-- numbers that are sorted stay so where each is taken once
pub once_sorted : (sorted once : List ℕ) → IsSorted nat_cmp sorted → IsFiltered (DiffersFromLast nat_eq) [] sorted once
    → IsSorted nat_cmp once
once_sorted sorted once sort filtered =
    subst (IsSorted nat_cmp) (sym (dedup_is nat_eq sorted once filtered))
    (λ k d low within.
    let less = AllPairs-from_increasing (dedup eqb sorted) (IsStrictlyIncreasing-dedup sorted sort) k (k + 1) d
    (omega arith) within in
    ap (λ b. is_lt (cond b Less (cond (get_or (dedup eqb sorted) (k + 1) d == get_or (dedup eqb sorted) k d) Equal
    Greater))) (le-ltb (get_or (dedup eqb sorted) (k + 1) d) (get_or (dedup eqb sorted) k d) (omega (arith, less)))
    ∙ tied_or_greater (get_or (dedup eqb sorted) (k + 1) d == get_or (dedup eqb sorted) k d))

-- what is gathered of what an item wants gives what it needs
pub gathered : (classes : List Class) (own : ℕ) (w : Wanted) (wants : List Item)
    → HasSame w (wanting (wanting_nothing classes) wants) → needs_from own w.numbers ≡ needs_of classes own wants
gathered classes own w wants same =
    ap (filter (λ x. not (x == own))) (ascending_same w.numbers (numbers classes wants) same.numbers)

pub gathered_then : {E : Type 0} (r : Result (List ℕ) E) (classes : List Class) (own : ℕ) (w : Wanted)
    (wants : List Item)
    → HasSame w (wanting (wanting_nothing classes) wants) → IfOk r (λ needs. needs ≡ needs_from own w.numbers)
    → IfOk r (λ needs. needs ≡ needs_of classes own wants)
gathered_then (Ok needs) classes own w wants same is = is ∙ gathered classes own w wants same
gathered_then (Err e) classes own w wants same is = tt

pub needs_then : {E : Type 0} (r : Result (List ℕ) E) (own : ℕ) (wants sorted once given : List ℕ)
    → IsPermutation wants sorted → IsSorted nat_cmp sorted → IsFiltered (DiffersFromLast nat_eq) [] sorted once
    → given ≡ once → IfOk r (λ others. others ≡ filter (λ x. not (x == own)) given)
    → IfOk r (λ needs. needs ≡ needs_from own wants)
needs_then (Ok others) own wants sorted once given perm sort filtered same is =
    is ∙ ap (filter (λ x. not (x == own)))
    (same ∙ sorted_once wants sorted once perm sort (dedup_is nat_eq sorted once filtered))
needs_then (Err e) own wants sorted once given perm sort filtered same is = tt

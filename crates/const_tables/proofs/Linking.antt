-- What the lists of predecessors tell.
use Rattle.std.proofs.Common.{ℕ, zero, suc, ◌+◌, ◌<◌, ◌≤◌, List, [], ◌∷◌, ◌++◌, Option, Some, Bool, true}
use Rattle.std.proofs.Common.{false, ◌≡◌, ◌≢◌, ◌⊎◌, inl, inr, refl, sym, ap, ◌∙◌, subst, arith}
use Rattle.std.specs.Prelude.{length, nat_eq, nat_le, nat_lt, not, replicate, slice_get, slice_set}
use Rattle.std.specs.Prelude.{◌&&◌, ◌||◌, if◌then◌else◌}
use Rattle.std.specs.List.{Contains, list_all, list_any}
use Rattle.std.proofs.lemmas.Bool.Decides.{eqb_tells, leb_tells}
use Rattle.std.proofs.lemmas.List.Folds.{list_all-append}
use Rattle.std.proofs.lemmas.Option.{get_or_from_slice_get, slice_get_within}
use Rattle.class_model.specs.declared.code.Code.{Code}
use Rattle.class_model.specs.declared.code.Ins.{Ins}
use Rattle.code_edit.specs.Flow.{successors, successors_by, successors_of}
use Rattle.edit_premises.proofs.Places.{get_below}
use Rattle.edit_tables.proofs.Telling.{Tells, and_both, both, in_list, list_has, tells}
use Rattle.jv_base.proofs.Lists.{found_at}
use Rattle.const_tables.specs.Predecessors.{linked, predecessors, row, with_link, with_links}

-- ---- lists of lists

set_long : (ls : List (List ℕ)) (x : ℕ) (l : List ℕ) → length (slice_set ls x l) ≡ length ls
set_long [] x l = refl
set_long (m ∷ ls) zero l = refl
set_long (m ∷ ls) (suc x) l = ap suc (set_long ls x l)

same_row : (ls : List (List ℕ)) (x : ℕ) (l : List ℕ) → x < length ls → row (slice_set ls x l) x ≡ l
same_row [] x l lt = absurd (omega (arith, lt))
same_row (m ∷ ls) zero l lt = refl
same_row (m ∷ ls) (suc x) l lt = same_row ls x l (omega (arith, lt))

other_row : (ls : List (List ℕ)) (x at : ℕ) (l : List ℕ) → at ≢ x
    → row (slice_set ls x l) at ≡ row ls at
other_row [] x at l n = refl
other_row (m ∷ ls) zero zero l n = absurd (n refl)
other_row (m ∷ ls) zero (suc at) l n = refl
other_row (m ∷ ls) (suc x) zero l n = refl
other_row (m ∷ ls) (suc x) (suc at) l n = other_row ls x at l (λ e. n (ap suc e))

link_long : (from to : ℕ) (ls : List (List ℕ)) → length (with_link from to ls) ≡ length ls
link_long from to ls = by (nat_lt to (length ls))
  where
    by : (b : Bool)
        → length (if b then slice_set ls to (row ls to ++ from ∷ []) else ls) ≡ length ls
    by true = set_long ls to (row ls to ++ from ∷ [])
    by false = refl

links_long : (from : ℕ) (tos : List ℕ) (ls : List (List ℕ))
    → length (with_links from tos ls) ≡ length ls
links_long from [] ls = refl
links_long from (to ∷ tos) ls = links_long from tos (with_link from to ls) ∙ link_long from to ls

-- ---- tests of all that a list has

module _ (test : ℕ → Bool) (at : ℕ) where
  abbrev all : List (List ℕ) → Bool
  all ls = list_all test (row ls at)

  -- where control may come from there, the test answers yes
  abbrev passes : ℕ → Bool → Bool
  passes from b = not b || test from

  and_true : (a : Bool) → a ≡ (a && true)
  and_true true = refl
  and_true false = refl

  one_tells : (from to : ℕ) (ls : List (List ℕ)) → at < length ls
      → all (with_link from to ls) ≡ (all ls && passes from (nat_eq at to))
  one_tells from to ls lt = by (eqb_tells at to) (leb_tells (suc to) (length ls))
    where
      put : (b : Bool) → nat_lt to (length ls) ≡ b → all (with_link from to ls)
          ≡ list_all test (row (if b then slice_set ls to (row ls to ++ from ∷ []) else ls) at)
      put b e = ap (λ c. list_all test
          (row (if c then slice_set ls to (row ls to ++ from ∷ []) else ls) at)) e

      one : (a b : Bool) → (a && (b && true)) ≡ (a && (not true || b))
      one true true = refl
      one true false = refl
      one false b = refl

      by : ((nat_eq at to ≡ true) × (at ≡ to)) ⊎ ((nat_eq at to ≡ false) × (at ≢ to))
          → ((nat_le (suc to) (length ls) ≡ true) × (suc to ≤ length ls))
          ⊎ ((nat_le (suc to) (length ls) ≡ false) × (length ls < suc to))
          → all (with_link from to ls) ≡ (all ls && passes from (nat_eq at to))
      by (inl p) (inl q) =
          put true q.0
          ∙ ap (λ k. list_all test (row (slice_set ls to (row ls to ++ from ∷ [])) k)) p.1
          ∙ ap (list_all test) (same_row ls to (row ls to ++ from ∷ []) (omega (arith, q.1)))
          ∙ list_all-append test (row ls to) (from ∷ [])
          ∙ one (list_all test (row ls to)) (test from)
          ∙ (λ i. list_all test (row ls (sym p.1 i)) && passes from (sym p.0 i))
      by (inl p) (inr q) = absurd (omega (arith, lt, p.1, q.1))
      by (inr p) (inl q) =
          put true q.0 ∙ ap (list_all test) (other_row ls to at (row ls to ++ from ∷ []) p.1)
          ∙ and_true (all ls) ∙ ap (λ b. all ls && passes from b) (sym p.0)
      by (inr p) (inr q) =
          put false q.0 ∙ and_true (all ls) ∙ ap (λ b. all ls && passes from b) (sym p.0)

  joins : (a x y t : Bool) → ((a && (not x || t)) && (not y || t)) ≡ (a && (not (x || y) || t))
  joins true true true true = refl
  joins true true true false = refl
  joins true true false true = refl
  joins true true false false = refl
  joins true false true true = refl
  joins true false true false = refl
  joins true false false t = refl
  joins false x y t = refl

  links_tell : (from : ℕ) (tos : List ℕ) (ls : List (List ℕ)) → at < length ls
      → all (with_links from tos ls) ≡ (all ls && passes from (list_any (nat_eq at) tos))
  links_tell from [] ls lt = and_true (all ls)
  links_tell from (to ∷ tos) ls lt =
      links_tell from tos (with_link from to ls)
      (subst (λ n. at < n) (sym (link_long from to ls)) lt)
      ∙ ap (λ b. b && passes from (list_any (nat_eq at) tos)) (one_tells from to ls lt)
      ∙ joins (all ls) (nat_eq at to) (list_any (nat_eq at) tos) (test from)

  module _ (n : ℕ) where
    abbrev passing : ℕ → List Ins → Bool
    passing k [] = true
    passing k (i ∷ ins) =
        passes k (list_any (nat_eq at) (successors_of n k i.op)) && passing (suc k) ins

    and_and : (a b c : Bool) → ((a && b) && c) ≡ (a && (b && c))
    and_and true b c = refl
    and_and false b c = refl

    linked_tells : (k : ℕ) (ins : List Ins) (ls : List (List ℕ)) → at < length ls
        → all (linked n k ins ls) ≡ (all ls && passing k ins)
    linked_tells k [] ls lt = and_true (all ls)
    linked_tells k (i ∷ ins) ls lt =
        linked_tells (suc k) ins (with_links k (successors_of n k i.op) ls)
        (subst (λ m. at < m) (sym (links_long k (successors_of n k i.op) ls)) lt)
        ∙ ap (λ b. b && passing (suc k) ins) (links_tell k (successors_of n k i.op) ls lt)
        ∙ and_and (all ls) (passes k (list_any (nat_eq at) (successors_of n k i.op)))
        (passing (suc k) ins)

    -- each instruction from which control may come passes
    abbrev AllPass : ℕ → List Ins → Type 0
    AllPass k ins = (j : ℕ) (i : Ins) → slice_get ins j ≡ Some i
        → list_any (nat_eq at) (successors_of n (k + j) i.op) ≡ true → test (k + j) ≡ true

    pass_there : (k : ℕ) (ins : List Ins) → passing k ins ≡ true → AllPass k ins
    pass_there k [] e j i x l = absurd cc
    pass_there k (y ∷ ins) e zero i x l =
        let same : y ≡ i = cc in
        let z : k + 0 ≡ k = omega arith in
        let led = subst (λ m. list_any (nat_eq at) (successors_of n m i.op) ≡ true) z l in
        subst (λ m. test m ≡ true) (sym z)
        (of (list_any (nat_eq at) (successors_of n k y.op)) (both _ _ e).0
        (ap (λ (o : Ins). list_any (nat_eq at) (successors_of n k o.op)) same ∙ led))
      where
        of : (b : Bool) → (not b || test k) ≡ true → b ≡ true → test k ≡ true
        of true p q = p
        of false p q = absurd cc
    pass_there k (y ∷ ins) e (suc j) i x l =
        let z : k + suc j ≡ suc k + j = omega arith in
        subst (λ m. test m ≡ true) (sym z)
        (pass_there (suc k) ins (both _ _ e).1 j i x
        (subst (λ m. list_any (nat_eq at) (successors_of n m i.op) ≡ true) z l))

    there_pass : (k : ℕ) (ins : List Ins) → AllPass k ins → passing k ins ≡ true
    there_pass k [] h = refl
    there_pass k (y ∷ ins) h =
        and_both _ _ (of (list_any (nat_eq at) (successors_of n k y.op)) refl)
        (there_pass (suc k) ins (λ j i x l. let z : k + suc j ≡ suc k + j = omega arith in
        subst (λ m. test m ≡ true) z (h (suc j) i x
        (subst (λ m. list_any (nat_eq at) (successors_of n m i.op) ≡ true) (sym z) l))))
      where
        of : (b : Bool) → list_any (nat_eq at) (successors_of n k y.op) ≡ b
            → (not b || test k) ≡ true
        of false q = refl
        of true q =
            let z : k + 0 ≡ k = omega arith in
            subst (λ m. test m ≡ true) z (h 0 y refl
            (subst (λ m. list_any (nat_eq at) (successors_of n m y.op) ≡ true) (sym z) q))

empty_long : (n : ℕ) → length (replicate {A = List ℕ} n []) ≡ n
empty_long zero = refl
empty_long (suc n) = ap suc (empty_long n)

empty_row : (n at : ℕ) → row (replicate n []) at ≡ []
empty_row zero at = refl
empty_row (suc n) zero = refl
empty_row (suc n) (suc at) = empty_row n at

contains_there : (xs : List ℕ) (x : ℕ) → Contains xs x → (k : ℕ) × (slice_get xs k ≡ Some x)
contains_there [] x h = absurd (let lt : h.0 < 0 = h.1 in omega (arith, lt))
contains_there (y ∷ ys) x (zero, lt, e) = (0, ap Some e)
contains_there (y ∷ ys) x (suc k, lt, e) =
    let r = contains_there ys x (k, omega (arith, lt), e) in (suc r.0, r.1)

module _ (test : ℕ → Bool) (code : Code) (at : ℕ) (lt : at < length code.ins) where
  abbrev n : ℕ
  n = length code.ins

  all_is : list_all test (row (predecessors code) at) ≡ passing test at n 0 code.ins
  all_is =
      linked_tells test at n 0 code.ins (replicate n [])
      (subst (λ m. at < m) (sym (empty_long n)) lt)
      ∙ ap (λ (xs : List ℕ). list_all test xs && passing test at n 0 code.ins) (empty_row n at)

  -- the test answers yes for each predecessor
  pub all_tell : Tells (list_all test (row (predecessors code) at))
      ((p : ℕ) → p < n → Contains (successors code p) at → test p ≡ true)
  all_tell = tells _ _
      (λ e p below c.
      let i = found_at code.ins p below in
      let there = contains_there (successors code p) at c in
      let z : 0 + p ≡ p = omega arith in
      subst (λ m. test m ≡ true) z
      (pass_there test at n 0 code.ins (sym all_is ∙ e) p i.0 i.1
      (subst (λ m. list_any (nat_eq at) (successors_of n m i.0.op) ≡ true) (sym z)
      (list_has at (successors_of n p i.0.op) there.0
      (ap (λ (o : Option Ins). slice_get (successors_by n p o) there.0) (sym i.1) ∙ there.1)))))
      (λ h. all_is ∙ there_pass test at n 0 code.ins (λ j i x l.
      let z : 0 + j ≡ j = omega arith in
      let r = in_list at (successors_of n j i.op)
      (subst (λ m. list_any (nat_eq at) (successors_of n m i.op) ≡ true) z l) in
      subst (λ m. test m ≡ true) (sym z)
      (h j (get_below code.ins j i x)
      (subst (λ (o : Option Ins). Contains (successors_by n j o) at) (sym x) (
        r.0,
        slice_get_within (successors_of n j i.op) r.0 at r.1,
        get_or_from_slice_get (successors_of n j i.op) r.0 at at r.1,
      )))))

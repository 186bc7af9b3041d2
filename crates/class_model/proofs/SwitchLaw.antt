-- The counts, keys and targets of switches, as numbers with a sign and as they are tested.
use Rattle.std.proofs.Common.{◌≡◌, ℕ, zero, suc, ◌+◌, ◌<◌, true, List, [], ◌∷◌, length, Option, Some, None, Result, Ok}
use Rattle.std.proofs.Common.{Err, ℤ, pos, negsuc, ◌+ℤ◌, ◌-ℤ◌, ◌<ℤ◌, ◌≤ℤ◌, refl, sym, ap, subst, arith}
use Rattle.std.specs.Prelude.{int_lt, int_le, unsigned_abs, AllPairs}
use Rattle.std.specs.Int.{w32, cast_signed}
use Rattle.std.specs.List.{AllByRecursion, AllZip, slice_index_or}
use Rattle.std.proofs.lemmas.Int.{ints}
use Rattle.std.proofs.lemmas.List.Kept.{AllPairs-cons}
use Rattle.jv_base.specs.Outcome.{◌>>=◌}
use Rattle.format_reading.specs.declared.fault.FormatKind.{FormatKind}
use Rattle.class_model.specs.declared.op.Case.{Case}
use Rattle.class_model.specs.InstructionStructure.{MatchOffset}
use Rattle.class_model.specs.Instructions.{branch_target, Leads4, IsCase}
use Rattle.class_model.specs.InstructionMeaning.{aimed, all_aimed, cases_aimed}
use Rattle.class_model.specs.ReadingCode.{ascends}
use Rattle.class_model.proofs.InstructionOperands.{below_32, Ascending}

-- ---- numbers with a sign

pub le_found : (a b : ℤ) → int_le a b ≡ true → a ≤ℤ b
le_found a b h = grind (arith, ints)

pub le_only : (a b : ℤ) → a ≤ℤ b → int_le a b ≡ true
le_only a b h = grind (arith, ints)

lt_found : (a b : ℤ) → int_lt a b ≡ true → a <ℤ b
lt_found a b h = grind (arith, ints)

pub lt_only : (a b : ℤ) → a <ℤ b → int_lt a b ≡ true
lt_only a b h = grind (arith, ints)

-- a number that isn't negative
not_negative : (z : ℤ) → pos 0 ≤ℤ z → pos (unsigned_abs z) ≡ z
not_negative (pos n) h = refl
not_negative (negsuc n) h = absurd (omega (arith, ints))

-- how many keys from one to another there are
pub count_found : (a b : ℤ) (n : ℕ) → a ≤ℤ b → n ≡ unsigned_abs (b -ℤ a) + 1 → pos n ≡ b -ℤ a +ℤ pos 1
count_found a b n le h = let e = not_negative (b -ℤ a) (omega (arith, ints)) in omega (arith, ints)

pub count_only : (a b : ℤ) (n : ℕ) → a ≤ℤ b → pos n ≡ b -ℤ a +ℤ pos 1 → n ≡ unsigned_abs (b -ℤ a) + 1
count_only a b n le h = let e = not_negative (b -ℤ a) (omega (arith, ints)) in omega (arith, ints)

-- ---- keys that ascend

abbrev pub KeysAscend : Case → Case → Type 0
KeysAscend one other = one.key <ℤ other.key

-- what holds at each place holds of each
all_rec : {X : Type 0} (P : X → Type 0) (xs : List X) → ((j : ℕ) (d : X) → j < length xs → P (slice_index_or xs j d))
    → AllByRecursion P xs
all_rec P [] h = tt
all_rec P (x ∷ xs) h = (h 0 x (omega arith), all_rec P xs (λ j d lt. h (suc j) d (omega (arith, lt))))

all_at : {X : Type 0} (P : X → Type 0) (xs : List X) → AllByRecursion P xs → (j : ℕ) (d : X) → j < length xs
    → P (slice_index_or xs j d)
all_at P [] h j d lt = absurd (omega (arith, lt))
all_at P (x ∷ xs) h zero d lt = h.0
all_at P (x ∷ xs) h (suc j) d lt = all_at P xs h.1 j d (omega (arith, lt))

-- before the first key any may stand
pub all_free : (cases : List Case) → AllByRecursion (λ (c : Case). Unit {0}) cases
all_free [] = tt
all_free (case ∷ cases) = (tt, all_free cases)

module _ (Leads : ℤ → ℕ → Type 0) (at : ℕ) where
  -- greater than the key before, if there is one
  abbrev Above : Option ℕ → ℤ → Type 0
  Above None z = Unit {0}
  Above (Some k) z = cast_signed w32 k <ℤ z

  ascends_only : (previous : Option ℕ) (key : ℕ) → Above previous (cast_signed w32 key) → ascends previous key ≡ true
  ascends_only None key h = refl
  ascends_only (Some k) key h = lt_only (cast_signed w32 k) (cast_signed w32 key) h

  pub ascending_only : (previous : Option ℕ) (pairs : List MatchOffset) (cases : List Case)
      → AllZip (IsCase Leads at) pairs cases → AllByRecursion (λ (c : Case). Above previous c.key) cases
      → AllPairs KeysAscend cases → Ascending previous pairs
  ascending_only previous [] cases z above pairs_ascend = tt
  ascending_only previous (pair ∷ pairs) [] z above pairs_ascend = absurd z
  ascending_only previous (pair ∷ pairs) (case ∷ cases) z above pairs_ascend = (
    z.0.key_fits,
    ascends_only previous pair.key (subst (λ (k : ℤ). Above previous k) z.0.key above.0),
    z.0.leads.0,
    ascending_only (Some pair.key) pairs cases z.1
        (all_rec (λ (c : Case). cast_signed w32 pair.key <ℤ c.key) cases
        (λ j d lt. subst (λ (k : ℤ). k <ℤ (slice_index_or cases j d).key) z.0.key
        (pairs_ascend 0 (suc j) d (omega arith) (omega (arith, lt)))))
        (λ i j d lt within. pairs_ascend (suc i) (suc j) d (omega (arith, lt)) (omega (arith, within))),
  )

  -- each later key is above
  later : (previous : ℕ) (k : ℤ) (pairs : List MatchOffset) (cases : List Case) → k ≤ℤ cast_signed w32 previous
      → AllZip (IsCase Leads at) pairs cases → Ascending (Some previous) pairs
      → AllByRecursion (λ (c : Case). k <ℤ c.key) cases
  later previous k [] [] le z h = tt
  later previous k [] (case ∷ cases) le z h = absurd z
  later previous k (pair ∷ pairs) [] le z h = absurd z
  later previous k (pair ∷ pairs) (case ∷ cases) le z h =
      let key = z.0.key in
      let step = lt_found (cast_signed w32 previous) (cast_signed w32 pair.key) h.1 in (
        subst (λ (n : ℤ). k <ℤ n) (sym key) (omega (arith, ints)),
        later pair.key k pairs cases
            (omega (arith, ints)) z.1 h.3,
      )

  pub ascending_found : (previous : Option ℕ) (pairs : List MatchOffset) (cases : List Case)
      → AllZip (IsCase Leads at) pairs cases → Ascending previous pairs → AllPairs KeysAscend cases
  ascending_found previous [] [] z h = λ i j d lt within. absurd (omega (arith, within))
  ascending_found previous [] (case ∷ cases) z h = absurd z
  ascending_found previous (pair ∷ pairs) [] z h = absurd z
  ascending_found previous (pair ∷ pairs) (case ∷ cases) z h =
      let key = z.0.key in
      AllPairs-cons KeysAscend case cases
      (all_at (KeysAscend case) cases
      (later pair.key case.key pairs cases
      (subst (λ (n : ℤ). n ≤ℤ cast_signed w32 pair.key) (sym key) (omega (arith, ints))) z.1 h.3))
      (ascending_found (Some pair.key) pairs cases z.1 h.3)

-- ---- targets

module _ (Leads : ℤ → ℕ → Type 0) (aim : ℤ → Result ℕ FormatKind) (at : ℕ) where
  -- the offsets of targets fit four bytes
  pub offsets_fit : (offsets cases : List ℕ) → AllZip (Leads4 Leads at) offsets cases → AllByRecursion below_32 offsets
  offsets_fit [] [] z = tt
  offsets_fit [] (c ∷ cs) z = absurd z
  offsets_fit (o ∷ os) [] z = absurd z
  offsets_fit (o ∷ os) (c ∷ cs) z = (z.0.0, offsets_fit os cs z.1)

  first_target : (offset : ℕ) (offsets cases : List ℕ) (r : Result ℕ FormatKind) (s : Result (List ℕ) FormatKind)
      → (r >>= (λ to. s >>= (λ others. Ok (to ∷ others)))) ≡ Ok cases
      → (to : ℕ) × (others : List ℕ) × (r ≡ Ok to) × (s ≡ Ok others) × (cases ≡ to ∷ others)
  first_target offset offsets cases (Ok to) (Ok others) h =
      (to, others, refl, refl, let e : to ∷ others ≡ cases = cc in sym e)
  first_target offset offsets cases (Ok to) (Err e) h = absurd cc
  first_target offset offsets cases (Err e) s h = absurd cc

  pub targets_found : ((target : ℤ) (n : ℕ) → aim target ≡ Ok n → Leads target n) → (offsets cases : List ℕ)
      → AllByRecursion below_32 offsets → all_aimed aim at offsets ≡ Ok cases → AllZip (Leads4 Leads at) offsets cases
  targets_found leads [] cases fit h =
      (let e : [] ≡ cases = cc in subst (λ (cs : List ℕ). AllZip (Leads4 Leads at) [] cs) e tt)
  targets_found leads (offset ∷ offsets) cases fit h =
      let f = first_target offset offsets cases (aimed aim at offset) (all_aimed aim at offsets) h in
      subst (λ (cs : List ℕ). AllZip (Leads4 Leads at) (offset ∷ offsets) cs) (sym f.4) (
        (
          fit.0,
          leads
              (branch_target at (cast_signed w32 offset)) f.0 f.2,
        ),
        targets_found leads offsets f.1 fit.1 f.3,
      )

  pub targets_only : ((target : ℤ) (n : ℕ) → Leads target n → aim target ≡ Ok n) → (offsets cases : List ℕ)
      → AllZip (Leads4 Leads at) offsets cases → all_aimed aim at offsets ≡ Ok cases
  targets_only aims [] [] z = refl
  targets_only aims [] (c ∷ cs) z = absurd z
  targets_only aims (o ∷ os) [] z = absurd z
  targets_only aims (o ∷ os) (c ∷ cs) z = let first = aims
      (branch_target at (cast_signed w32 o)) c z.0.1 in let others = targets_only aims os cs z.1 in rw
      (first, others) refl

  first_case : (key : ℤ) (cases : List Case) (r : Result ℕ FormatKind) (s : Result (List Case) FormatKind)
      → (r >>= (λ to. s >>= (λ others. Ok (record { key = key; to = to } ∷ others)))) ≡ Ok cases
      → (to : ℕ) × (others : List Case) × (r ≡ Ok to) × (s ≡ Ok others)
      × (cases ≡ record { key = key; to = to } ∷ others)
  first_case key cases (Ok to) (Ok others) h = (
    to,
    others,
    refl,
    refl,
    let e : (let C : Case = record { key = key; to = to } in C) ∷ others
        ≡ cases = cc in sym e,
  )
  first_case key cases (Ok to) (Err e) h = absurd cc
  first_case key cases (Err e) s h = absurd cc

  pub cases_found : ((target : ℤ) (n : ℕ) → aim target ≡ Ok n → Leads target n)
      → (previous : Option ℕ) (pairs : List MatchOffset) (cases : List Case) → Ascending previous pairs
      → cases_aimed aim at pairs ≡ Ok cases → AllZip (IsCase Leads at) pairs cases
  cases_found leads previous [] cases fit h =
      (let e : [] ≡ cases = cc in subst (λ (cs : List Case). AllZip (IsCase Leads at) [] cs) e tt)
  cases_found leads previous (pair ∷ pairs) cases fit h =
      let f = first_case (cast_signed w32 pair.key) cases (aimed aim at pair.offset) (cases_aimed aim at pairs) h in
      subst (λ (cs : List Case). AllZip (IsCase Leads at) (pair ∷ pairs) cs) (sym f.4) (
        record {
          key_fits = fit.0;
          key = refl;
          leads =
              (fit.2, leads (branch_target at (cast_signed w32 pair.offset)) f.0 f.2);
        },
        cases_found leads
            (Some pair.key) pairs f.1 fit.3 f.3,
      )

  case_is : (case : Case) (key : ℤ) → case.key ≡ key → (let C : Case = record { key = key; to = case.to } in C) ≡ case
  case_is case key e = λ i. record { key = sym e i; to = case.to }

  pub cases_only : ((target : ℤ) (n : ℕ) → Leads target n → aim target ≡ Ok n)
      → (pairs : List MatchOffset) (cases : List Case) → AllZip (IsCase Leads at) pairs cases
      → cases_aimed aim at pairs ≡ Ok cases
  cases_only aims [] [] z = refl
  cases_only aims [] (c ∷ cs) z = absurd z
  cases_only aims (p ∷ ps) [] z = absurd z
  cases_only aims (p ∷ ps) (c ∷ cs) z =
      let first = aims (branch_target at (cast_signed w32 p.offset)) c.to z.0.leads.1 in
      let others = cases_only aims ps cs z.1 in
      rw (first, others) (ap (λ (d : Case). let R : Result (List Case) FormatKind = Ok (d ∷ cs) in R)
      (case_is c (cast_signed w32 p.key) z.0.key))

-- Switches are read back.
use Rattle.std.proofs.Common.{◌≡◌, ℕ, suc, ◌+◌, ◌-◌, ◌^◌, ◌<◌, true, List, [], ◌∷◌, length, map, replicate, Some, None}
use Rattle.std.proofs.Common.{Result, Ok, ℤ, pos, negsuc, ◌+ℤ◌, ◌-ℤ◌, ◌<ℤ◌, ◌≤ℤ◌, refl, sym, ap, ◌∙◌, arith, SFits}
use Rattle.std.specs.Prelude.{AllPairs}
use Rattle.std.specs.Int.{w32, cast_unsigned, cast_signed}
use Rattle.std.specs.List.{AllByRecursion}
use Rattle.std.proofs.lemmas.Int.{to_z-of_z, ints}
use Rattle.std.proofs.lemmas.List.{length-replicate, length-map}
use Rattle.format_reading.specs.declared.fault.FormatKind.{FormatKind}
use Rattle.class_model.specs.declared.pool.Entry.{Entry}
use Rattle.class_model.specs.declared.op.Case.{Case}
use Rattle.class_model.specs.declared.op.Op.TheVariants as op
use Rattle.class_model.specs.Instructions.{branch_target}
use Rattle.class_model.specs.InstructionStructure.{MatchOffset, TableSwitch, LookupSwitch, pad_length}
use Rattle.class_model.specs.InstructionMeaning.{op_of, aimed, all_aimed, cases_aimed}
use Rattle.class_model.specs.ReadingCode.{table_length, ascends}
use Rattle.class_model.specs.WellFormed.{IsTableSwitch, IsLookupSwitch}
use Rattle.class_model.proofs.BackNumbers.{word_below}
use Rattle.class_model.proofs.BackInfos.{read_table, read_lookup, Ascending}
use Rattle.class_model.proofs.BackPlain.{IsBack}
use Rattle.class_model.proofs.BackTargets.{there}
use Rattle.class_model.proofs.SwitchLaw.{le_only, lt_only}

-- ---- keys

-- a number from one that fits four bytes up to the largest
fits_above : (z low : ℤ) → SFits w32 low → low ≤ℤ z → z <ℤ pos (2 ^ 31) → SFits w32 z
fits_above (pos n) low h le lt = record { sfits = omega (arith, ints) }
fits_above (negsuc n) (pos m) h le lt = absurd (omega (arith, ints))
fits_above (negsuc n) (negsuc m) h le lt = let g : m < 2147483648 = h.sfits in record { sfits = omega (arith, ints) }

-- the key of the last case
abbrev last : ℤ → List ℕ → ℤ
last low cases = low +ℤ pos (length cases) -ℤ pos 1

last_above : (low : ℤ) (n : ℕ) → 0 < n → low ≤ℤ (low +ℤ pos n -ℤ pos 1)
last_above low n some = omega (arith, ints)

last_below : (low : ℤ) (n : ℕ) → (low +ℤ pos n) <ℤ pos (2 ^ 31 + 1) → (low +ℤ pos n -ℤ pos 1) <ℤ pos (2 ^ 31)
last_below low n most = omega (arith, ints)

counted_from : (low : ℤ) (n : ℕ) → 0 < n → (low +ℤ pos n -ℤ pos 1) -ℤ low ≡ pos (n - 1)
counted_from low n some = omega (arith, ints)

module _ (n : ℕ) (aim : ℤ → Result ℕ FormatKind) (entries : List Entry) (place : ℕ → ℕ) (at : ℕ)
    (found : (to : ℕ) → to < n → aim (pos (place to)) ≡ Ok to)
    (near : (to : ℕ) → to < n → SFits w32 (pos (place to) -ℤ pos at)) where
  -- the distance to a target, and as it is written
  abbrev distance : ℕ → ℤ
  distance to = pos (place to) -ℤ pos at

  abbrev far : ℕ → ℕ
  far to = cast_unsigned w32 (distance to)

  far_fits : (to : ℕ) → to < n → far to < 2 ^ 32
  far_fits to lt = word_below (distance to) (near to lt)

  all_far : (cases : List ℕ) → AllByRecursion (λ to. to < n) cases → AllByRecursion (λ k. k < 2 ^ 32) (map far cases)
  all_far [] h = tt
  all_far (to ∷ cases) h = (far_fits to h.0, all_far cases h.1)

  -- it leads to the target
  aimed_back : (to : ℕ) → to < n → aimed aim at (far to) ≡ Ok to
  aimed_back to lt = ap (λ (z : ℤ). aim (branch_target at z)) (to_z-of_z w32 (distance to) (near to lt))
      ∙ ap aim (there at (place to)) ∙ found to lt

  all_aimed_back : (cases : List ℕ) → AllByRecursion (λ to. to < n) cases → all_aimed aim at (map far cases) ≡ Ok cases
  all_aimed_back [] h = refl
  all_aimed_back (to ∷ cases) h = rw (aimed_back to h.0, all_aimed_back cases h.1) refl

  pub table_back : (low : ℤ) (other : ℕ) (cases : List ℕ) → IsTableSwitch n low other cases → SFits w32 low
      → IsBack aim entries at (TableSwitch (replicate (pad_length at) 0) (far other) (cast_unsigned w32 low)
      (cast_unsigned w32 (last low cases)) (map far cases)) (op.TableSwitch low other cases)
  unfolding op_of
  table_back low other cases is fits =
      let above : low ≤ℤ last low cases = last_above low (length cases) is.least in
      let high : SFits w32 (last low cases) = fits_above (last low cases) low fits above
      (last_below low (length cases) is.most) in
      let low_back : cast_signed w32 (cast_unsigned w32 low) ≡ low = to_z-of_z w32 low fits in
      let high_back : cast_signed w32 (cast_unsigned w32 (last low cases))
      ≡ last low cases = to_z-of_z w32 (last low cases) high in
      let some : 0 < length cases = is.least in
      let count : table_length (cast_unsigned w32 low) (cast_unsigned w32 (last low cases)) ≡ length cases =
      rw (low_back, high_back, counted_from low (length cases) some) (omega (arith, some)) in
      record {
        read = read_table entries at (replicate (pad_length at) 0) (far other) (cast_unsigned w32 low)
            (cast_unsigned w32 (last low cases)) (map far cases)
            (length-replicate (pad_length at) 0) (far_fits other is.other_target) (word_below low fits)
            (word_below (last low cases) high)
            (rw (low_back, high_back) (le_only low (last low cases) above)) (length-map cases far ∙ sym count)
            (all_far cases is.targets);
        meant = rw (aimed_back other is.other_target, all_aimed_back cases is.targets, low_back) refl;
      }

  -- ---- lookupswitch

  -- a case as it is written
  abbrev pair_of : Case → MatchOffset
  pair_of c = record { key = cast_unsigned w32 c.key; offset = far c.to }

  cases_back : (cases : List Case) → AllByRecursion (λ (c : Case). c.to < n) cases
      → AllByRecursion (λ (c : Case). SFits w32 c.key) cases → cases_aimed aim at (map pair_of cases) ≡ Ok cases
  cases_back [] h k = refl
  cases_back (c ∷ cases) h k = rw (aimed_back c.to h.0, cases_back cases h.1 k.1, to_z-of_z w32 c.key k.0) refl

  rest_ascends : (c : Case) (cases : List Case) → AllPairs (λ (one next : Case). one.key <ℤ next.key) (c ∷ cases)
      → AllPairs (λ (one next : Case). one.key <ℤ next.key) cases
  rest_ascends c cases h = λ i j d lt le. h (suc i) (suc j) d (omega arith) (omega arith)

  first_ascends : (c e : Case) (cases : List Case) → AllPairs (λ (one next : Case). one.key <ℤ next.key) (c ∷ e ∷ cases)
      → c.key <ℤ e.key
  first_ascends c e cases h = h 0 1 c (omega arith) (omega arith)

  behind : (c : Case) (cases : List Case) → AllByRecursion (λ (c : Case). c.to < n) cases → SFits w32 c.key
      → AllByRecursion (λ (c : Case). SFits w32 c.key) cases
      → AllPairs (λ (one next : Case). one.key <ℤ next.key) (c ∷ cases)
      → Ascending (Some (cast_unsigned w32 c.key)) (map pair_of cases)
  behind c [] h one k a = tt
  behind c (e ∷ cases) h one k a =
      let key : ascends (Some (cast_unsigned w32 c.key)) (cast_unsigned w32 e.key) ≡ true =
      rw (to_z-of_z w32 c.key one, to_z-of_z w32 e.key k.0) (lt_only c.key e.key (first_ascends c e cases a)) in
      (word_below e.key k.0, far_fits e.to h.0, key, behind e cases h.1 k.0 k.1 (rest_ascends c (e ∷ cases) a))

  ascending : (cases : List Case) → AllByRecursion (λ (c : Case). c.to < n) cases
      → AllByRecursion (λ (c : Case). SFits w32 c.key) cases → AllPairs (λ (one next : Case). one.key <ℤ next.key) cases
      → Ascending None (map pair_of cases)
  ascending [] h k a = tt
  ascending (c ∷ cases) h k a = (word_below c.key k.0, far_fits c.to h.0, refl, behind c cases h.1 k.0 k.1 a)

  pub lookup_back : (other : ℕ) (cases : List Case) → IsLookupSwitch n other cases
      → AllByRecursion (λ (c : Case). SFits w32 c.key) cases → length cases < 2 ^ 31
      → IsBack aim entries at (LookupSwitch (replicate (pad_length at) 0) (far other) (map pair_of cases))
      (op.LookupSwitch other cases)
  unfolding op_of
  lookup_back other cases is fits few = record {
    read = read_lookup entries at (replicate (pad_length at) 0) (far other) (map pair_of cases)
        (length-replicate (pad_length at) 0) (far_fits other is.other_target)
        (rw (length-map cases pair_of) few) (ascending cases is.targets fits is.ascending);
    meant = rw (aimed_back other is.other_target, cases_back cases is.targets fits) refl;
  }

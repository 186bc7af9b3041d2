-- The acts that the passes find on a code without branches: none, but for those of slots.
use Rattle.std.proofs.Common.{◌≡◌, ◌<◌, ℕ, zero, suc, ℤ, Bool, true, false, List, [], ◌∷◌, Option, Some, None}
use Rattle.std.proofs.Common.{◌++◌, length, refl, sym, ap, subst, ◌∙◌, arith}
use Rattle.std.specs.Prelude.{slice_get, slice_index_or}
use Rattle.std.specs.List.{AllByRecursion, Contains}
use Rattle.std.specs.Option.{option_map_or}
use Rattle.std.proofs.lemmas.Option.{same_Some}
use Rattle.class_model.specs.declared.code.Code.{Code}
use Rattle.class_model.specs.declared.code.Ins.{Ins}
use Rattle.code_edit.specs.declared.act.Act.{Act}
use Rattle.code_edit.specs.declared.act.Pass.TheVariants.{Reach, Slots, Jumps}
use Rattle.code_edit.specs.ConstEdits.{AreConstActs, AreSlots, IsAsked, IsConstEdits, IsTaken, folds_below, target_by}
use Rattle.code_edit.specs.ConstEdits.{ByBound, is_beyond, target_of}
use Rattle.code_edit.specs.Deciding.{NoOperand, operands}
use Rattle.code_edit.specs.Flow.{successors_of}
use Rattle.code_edit.specs.Jumps.{is_goto}
use Rattle.code_edit.specs.Passes.{IsJumpsEdits, IsReachEdits, IsReached, TellsReached, aims_from, first, led_to, runs}
use Rattle.code_edit.specs.Passes.{skips_from, slots_edits}
use Rattle.pass_driver.specs.Stepped.{AreFound, AreSteps, step_after}
use Rattle.optimised_rows.specs.Rows.{no_act, steps_with}

-- ---- marks

-- so many marks
abbrev trues : ℕ → List Bool
trues zero = []
trues (suc n) = true ∷ trues n

long_trues : (n : ℕ) → length (trues n) ≡ n
long_trues zero = refl
long_trues (suc n) = ap suc (long_trues n)

in_trues : (n at : ℕ) → at < n → slice_index_or (trues n) at false ≡ true
in_trues zero at lt = absurd (omega (arith, lt))
in_trues (suc n) zero lt = refl
in_trues (suc n) (suc at) lt = in_trues n at (omega (arith, lt))

below_trues : (n at : ℕ) → slice_index_or (trues n) at false ≡ true → at < n
below_trues zero at e = absurd cc
below_trues (suc n) zero e = omega arith
below_trues (suc n) (suc at) e = omega (arith, below_trues n at e)

no_runs : (n at : ℕ) → [] ≡ runs at None (trues n)
no_runs zero at = refl
no_runs (suc n) at = no_runs n (suc at)

-- ---- slots that nothing has

none_in : (t : ℕ) → Contains [] t → ⊥
none_in t h = absurd (omega (arith, h.1))

no_slots : (Has : ℕ → Type 0) → ((slot : ℕ) → Has slot → ⊥) → AreSlots Has []
no_slots Has never = record {
  ascending = λ i j d lt within. absurd (omega (arith, within));
  are = λ slot. ((λ h. absurd (none_in slot h)), (λ h. absurd (never slot h)));
}

-- ---- the passes

-- nothing is known of a slot
abbrev unknown : ℕ → List (Option ℤ)
unknown slot = []

-- each chain of gotos ends where it begins
abbrev itself : ℕ → Option ℕ
itself at = Some at

-- the instruction is no branch and no switch
abbrev pub IsPlain : Ins → Type 0
IsPlain i = (operands i.op ≡ NoOperand) × (is_goto i.op ≡ false)

-- control goes on from an index to the next one
abbrev pub GoesOn : Code → ℕ → Type 0
GoesOn code at = (i : Ins) × (slice_get code.ins at ≡ Some i)
    × (slice_get (successors_of (length code.ins) at i.op) 0 ≡ Some (suc at))

-- a code without branches
pub record IsStraight (code : Code) : Type 0 where
  pub plain : AllByRecursion IsPlain code.ins
  pub on : (at : ℕ) → suc at < length code.ins → GoesOn code at
  pub few : is_beyond 0 (length code.ins) ≡ false
  pub folds : [] ≡ folds_below unknown code (length code.ins)
  pub aims : [] ≡ aims_from itself 0 code.ins ++ skips_from itself 0 code.ins

-- what takes no operand to choose where control goes
none_asks : (ins : List Ins) → AllByRecursion IsPlain ins → (at : ℕ) (i : Ins) → slice_get ins at ≡ Some i
    → operands i.op ≡ NoOperand
none_asks [] plain at i here = absurd cc
none_asks (x ∷ ins) plain zero i here =
    let same : x ≡ i = same_Some x i here in
    subst (λ (y : Ins). operands y.op ≡ NoOperand) same plain.0.0
none_asks (x ∷ ins) plain (suc at) i here = none_asks ins plain.1 at i here

-- no goto
none_leaves : (ins : List Ins) → AllByRecursion IsPlain ins → (at : ℕ)
    → option_map_or (λ (i : Ins). is_goto i.op) (slice_get ins at) false ≡ false
none_leaves [] plain at = refl
none_leaves (x ∷ ins) plain zero = plain.0.1
none_leaves (x ∷ ins) plain (suc at) = none_leaves ins plain.1 at

module _ (code : Code) (straight : IsStraight code) where
  all_reached : (at : ℕ) → at < length code.ins → IsReached code at
  all_reached zero lt = first refl
  all_reached (suc at) lt =
      let next = straight.on at lt in
      led_to at 0 next.0 (all_reached at (omega (arith, lt))) next.1 next.2

  marked : TellsReached code (trues (length code.ins))
  marked = record {
    long = long_trues (length code.ins);
    only = λ at e. all_reached at (below_trues (length code.ins) at e);
    all = λ at lt r. in_trues (length code.ins) at lt;
  }

  reach_finds : IsReachEdits code []
  reach_finds = (trues (length code.ins), marked, no_runs (length code.ins) 0)

  none_asked : (slot : ℕ) → IsAsked code slot → ⊥
  none_asked slot (at, i, here, some, from) = some (none_asks code.ins straight.plain at i here)

  none_taken : (slot : ℕ) → IsTaken unknown code slot → ⊥
  none_taken slot (at, to, i, here, folds, from) =
      let none = ap (λ c. target_by unknown code c at i.op) (none_asks code.ins straight.plain at i here) in
      let differ : Some to ≡ None = sym folds ∙ ap (target_of unknown code at) here ∙ none in
      cc

  const_acts : AreConstActs code []
  const_acts = record {
    known = unknown;
    largest = λ slot asked. absurd (none_asked slot asked);
    taken = [];
    taken_are = no_slots (IsTaken unknown code) none_taken;
    is = straight.folds;
  }

  const_finds : IsConstEdits code []
  const_finds = record {
    asked = [];
    asked_are = no_slots (IsAsked code) none_asked;
    is = subst (λ b. ByBound b code []) (sym straight.few) const_acts;
  }

  jumps_finds : IsJumpsEdits code []
  jumps_finds =
      (itself, (λ from lt. ((0, refl), none_leaves code.ins straight.plain from)), straight.aims)

  -- the steps behind slots
  pub behind_slots : AreFound (Jumps ∷ Reach ∷ []) (no_act Jumps ∷ no_act Reach ∷ []) code
  behind_slots = (refl, jumps_finds, (refl, reach_finds, tt))

  -- all six
  pub six_steps : (acts : List Act) → acts ≡ slots_edits code
      → AreFound (Jumps ∷ Reach ∷ []) (no_act Jumps ∷ no_act Reach ∷ [])
      (step_after (record { pass = Slots; acts = acts }) code) → AreSteps (steps_with acts) code
  six_steps acts cut behind =
      (refl, reach_finds, (refl, const_finds, (refl, reach_finds, (refl, cut, behind))))

-- The facts that const tells are of ints of 32 bits, in local variables that the code loads.
use Rattle.std.proofs.Common.{◌≡◌, ◌≢◌, ◌<◌, ◌≤◌, inl, inr, ℕ, zero, suc, ◌+◌, ◌-◌, ◌^◌, ◌||◌, ◌==◌, Bool, true, false, cond, List, [], ◌∷◌}
use Rattle.std.proofs.Common.{length, Option, Some, None, slice_get, nat_lt, refl, sym, ap, subst, ◌∙◌, arith}
use Rattle.std.specs.Prelude.{ℤ, pos, negsuc, IfSome, IsTrue}
use Rattle.std.specs.Int.{w32, cast_unsigned, int_wrapping_add}
use Rattle.std.specs.Int.RustNames.{FitsSigned}
use Rattle.std.specs.List.{All, AllByRecursion, flat_map}
use Rattle.std.specs.Ordering.{int_eq}
use Rattle.std.specs.Cmp.{signed_Decides}
use Rattle.std.proofs.Math.Facts.{sfits_to_z}
use Rattle.std.proofs.lemmas.Bool.{lt-ltb, ltb-true}
use Rattle.std.proofs.lemmas.List.Elements.{All-weaker}
use Rattle.std.proofs.lemmas.Nat.{mod_below}
use Rattle.std.proofs.lemmas.Option.{get_or_from_slice_get, same_Some, slice_get_within}
use Rattle.jv_base.proofs.Lists.{all_append, all_at, all_from}
use Rattle.class_laws.specs.ClassValues.{IsPushValue}
use Rattle.class_model.specs.OpValues.{IsOpValue}
use Rattle.class_model.specs.declared.code.Code.{Code}
use Rattle.class_model.specs.declared.code.Handler.{Handler}
use Rattle.class_model.specs.declared.code.Ins.{Ins}
use Rattle.class_model.specs.declared.op.Kind.TheVariants as kind
use Rattle.class_model.specs.declared.op.Op.{Op}
use Rattle.class_model.specs.declared.op.Op.TheVariants as op
use Rattle.code_edit.specs.ConstEdits.{AreConstActs, ByBound, IsAsked, IsConstEdits, IsLoad, IsTaken, Open, Run, Shut, TakesFrom}
use Rattle.code_edit.specs.ConstEdits.{fold_act, fold_target, folds_below, is_beyond, runs, target_by, target_of}
use Rattle.code_edit.specs.Deciding.{Count, NoOperand, operands}
use Rattle.code_edit.specs.Facts.{HoldsReached, IsAllReached, IsLargest, Yields, change_by, change_of, int_in}
use Rattle.code_edit.specs.Facts.{int_pushed, int_pushed_by, is_int, pushed_before, stored, told}
use Rattle.code_edit.specs.Flow.{is_target}
use Rattle.code_edit.specs.declared.act.Act.{Act}
use Rattle.code_edit.specs.declared.act.Act.TheVariants as act
use Rattle.code_edit.specs.declared.change.Change.{Change}
use Rattle.code_edit.specs.declared.change.Change.TheVariants.{Keeps, Adds, Clobbers}
use Rattle.witness_file.specs.WitnessLines.{IsValue}
use Rattle.pair_laws.proofs.OptimisedPairs.HeldCodes.{Holds}

-- ---- ints of 32 bits

pub value_fits : (v : ℤ) → FitsSigned w32 v → IsValue v
value_fits (pos n) f = let low : n < 2 ^ 31 = f.sfits in low
value_fits (negsuc n) f = let low : n < 2 ^ 31 = f.sfits in low

sum_fits : (a b : ℤ) → IsValue (int_wrapping_add w32 a b)
sum_fits a b = value_fits (int_wrapping_add w32 a b) (sfits_to_z
    (record { fits = mod_below (cast_unsigned w32 a + cast_unsigned w32 b) (2 ^ 32) (omega arith) }))

-- an int is one, as a test
abbrev small_int : ℤ → Bool
small_int (pos n) = nat_lt n (2 ^ 31)
small_int (negsuc n) = nat_lt n (2 ^ 31)

small_is : (v : ℤ) → IsValue v → small_int v ≡ true
small_is (pos n) h = lt-ltb n (2 ^ 31) h
small_is (negsuc n) h = lt-ltb n (2 ^ 31) h

value_is : (v : ℤ) → small_int v ≡ true → IsValue v
value_is (pos n) h = ltb-true n (2 ^ 31) h
value_is (negsuc n) h = ltb-true n (2 ^ 31) h

-- so is one that is known
abbrev is_small : Option ℤ → Bool
is_small None = true
is_small (Some v) = small_int v

-- an operation is in range
abbrev pub IsInRange : Op → Type 0
IsInRange o = IsOpValue o × IsPushValue o

-- ---- what a slot holds

module _ (code : Code) (values : Holds IsInRange code) (slot : ℕ) (known : List (Option ℤ))
    (largest : IsLargest code slot known) (reached : IsAllReached code) where
  -- what is known at an index is of 32 bits
  abbrev set : ℕ → Bool
  set at = is_small (int_in known at)

  abbrev facts : ℕ → ℤ → Bool
  facts = told known

  pushed_value : (o : Op) (v : ℤ) → IsPushValue o → int_pushed o ≡ Some v → IsValue v
  pushed_value (op.PushInt z) v fits is = value_fits v (subst (FitsSigned w32) (same_Some z v is) fits)
  pushed_value o v fits is = absurd cc

  pushed_at : (at : ℕ) (i : Option Ins) → slice_get code.ins at ≡ i → (v : ℤ) → int_pushed_by i ≡ Some v → IsValue v
  pushed_at at None there v is = absurd cc
  pushed_at at (Some i) there v is =
      pushed_value i.op v (all_at (λ (x : Ins). IsInRange x.op) code.ins at i values there).1 is

  before_value : (at : ℕ) (v : ℤ) → pushed_before code at ≡ Some v → IsValue v
  before_value at v is = by ((at == 0) || is_target code at) is
    where
      by : (b : Bool) → cond b None (int_pushed_by (slice_get code.ins (at - 1))) ≡ Some v → IsValue v
      by true h = absurd cc
      by false h = pushed_at (at - 1) (slice_get code.ins (at - 1)) refl v h

  -- what an instruction leaves in the slot is one where what it finds there is
  abbrev Leaves : ℕ → ℤ → Change → Type 0
  Leaves p v change = set p ≡ true → Yields facts p v change → IsValue v

  kept_value : (p : ℕ) (v : ℤ) (o : Option ℤ) → is_small o ≡ true → is_int o v ≡ true → IsValue v
  kept_value p v None small is = absurd cc
  kept_value p v (Some w) small is =
      value_is v (ap small_int (sym ((signed_Decides w v).0 is)) ∙ small)

  keeps : (p : ℕ) (v : ℤ) → Leaves p v Keeps
  keeps p v small h = kept_value p v (int_in known p) small h

  stores : (p : ℕ) (v : ℤ) (o : Option ℤ) → ((w : ℤ) → o ≡ Some w → IsValue w) → Leaves p v (stored o)
  stores p v None each small h = absurd h
  stores p v (Some w) each small h = subst IsValue (sym h) (each w refl)

  store_leaves : (b : Bool) (p : ℕ) (v : ℤ) (o : Option ℤ) → ((w : ℤ) → o ≡ Some w → IsValue w)
      → Leaves p v (cond b (stored o) Keeps)
  store_leaves true p v o each = stores p v o each
  store_leaves false p v o each = keeps p v

  clobber_leaves : (b : Bool) (p : ℕ) (v : ℤ) → Leaves p v (cond b Clobbers Keeps)
  clobber_leaves true p v small h = absurd h
  clobber_leaves false p v small h = keeps p v small h

  add_leaves : (b : Bool) (p : ℕ) (v by : ℤ) → Leaves p v (cond b (Adds by) Keeps)
  add_leaves true p v by small h = subst IsValue (sym h.2) (sum_fits h.0 by)
  add_leaves false p v by small h = keeps p v small h

  op_leaves : (o : Op) (p : ℕ) (v : ℤ) (pushed : Option ℤ) → ((w : ℤ) → pushed ≡ Some w → IsValue w)
      → Leaves p v (change_of o pushed slot)
  op_leaves (op.Store kind.Int to) p v pushed each = store_leaves (to == slot) p v pushed each
  op_leaves (op.Store kind.Long to) p v pushed each = clobber_leaves ((to == slot) || (to + 1 == slot)) p v
  op_leaves (op.Store kind.Ref to) p v pushed each = clobber_leaves (to == slot) p v
  op_leaves (op.Inc to by) p v pushed each = add_leaves (to == slot) p v by
  op_leaves o p v pushed each = keeps p v

  ins_leaves : (i : Option Ins) (p : ℕ) (v : ℤ) (pushed : Option ℤ) → ((w : ℤ) → pushed ≡ Some w → IsValue w)
      → Leaves p v (change_by i pushed slot)
  ins_leaves None p v pushed each = keeps p v
  ins_leaves (Some i) p v pushed each = op_leaves i.op p v pushed each

  itself : (v : ℤ) → int_eq v v ≡ true
  itself v = (signed_Decides v v).1 refl

  fact_is : (at : ℕ) (v : ℤ) → int_in known at ≡ Some v → facts at v ≡ true
  fact_is at v is = ap (λ (o : Option ℤ). is_int o v) is ∙ itself v

  -- where nothing is known there is nothing to show
  where_known : (at : ℕ) → ((v : ℤ) → int_in known at ≡ Some v → IsValue v) → set at ≡ true
  where_known at each = by (int_in known at) each
    where
      by : (o : Option ℤ) → ((v : ℤ) → o ≡ Some v → IsValue v) → is_small o ≡ true
      by None h = refl
      by (Some v) h = small_is v (h v refl)

  holds : HoldsReached code set
  holds = record {
    first = where_known 0 (λ v is. absurd (largest.supported.first v (fact_is 0 v is)));
    next = λ p at low small next. where_known at (λ v is.
        ins_leaves (slice_get code.ins p) p v (pushed_before code p) (before_value p) small
        (largest.supported.flows p at v low next (fact_is at v is)));
    handlers = All-weaker (λ (h : Handler). (c : ℤ) → IsTrue (facts h.entry c) → ⊥)
        (λ (h : Handler). (p : ℕ) → IsTrue (set p) → h.from ≤ p → p < h.to → IsTrue (set h.entry))
        (λ h none p small from to. where_known h.entry (λ v is. absurd (none v (fact_is h.entry v is)))) code.handlers
        largest.supported.handlers;
  }

  pub known_values : AllByRecursion (λ (o : Option ℤ). IfSome o IsValue) known
  known_values = all_from (λ (o : Option ℤ). IfSome o IsValue) known (λ k o at. one k o at)
    where
      one : (k : ℕ) (o : Option ℤ) → slice_get known k ≡ Some o → IfSome o IsValue
      one k None at = tt
      one k (Some v) at =
          let within : k < length code.ins =
          subst (λ (n : ℕ). k < n) largest.count (slice_get_within known k (Some v) at) in
          let is : int_in known k ≡ Some v = get_or_from_slice_get known k (Some v) None at in
          value_is v (ap is_small (sym is) ∙ reached k within set holds)

-- ---- runs of facts

-- a fact is of a local variable that has a number, and of an int of 32 bits
abbrev pub IsGoodFact : Act → Type 0
IsGoodFact (act.Fact from to slot value) = (slot < 2 ^ 32) × IsValue value
IsGoodFact a = Unit {0}

abbrev IsGoodRun : Run → Type 0
IsGoodRun Shut = Unit {0}
IsGoodRun (Open from v) = IsValue v

runs_good : (slot : ℕ) → slot < 2 ^ 32 → (i : ℕ) (run : Run) (known : List (Option ℤ)) → IsGoodRun run
    → AllByRecursion (λ (o : Option ℤ). IfSome o IsValue) known → AllByRecursion IsGoodFact (runs slot i run known)
runs_good slot low i Shut [] good values = tt
runs_good slot low i (Open from v) [] good values = ((low, good), tt)
runs_good slot low i Shut (None ∷ known) good values = runs_good slot low (i + 1) Shut known tt values.1
runs_good slot low i Shut (Some w ∷ known) good values = runs_good slot low (i + 1) (Open i w) known values.0 values.1
runs_good slot low i (Open from v) (None ∷ known) good values =
    ((low, good), runs_good slot low (i + 1) Shut known tt values.1)
runs_good slot low i (Open from v) (Some w ∷ known) good values =
    by (int_eq v w) (runs_good slot low (i + 1) (Open from v) known good values.1)
    (runs_good slot low (i + 1) (Open i w) known values.0 values.1)
  where
    by : (b : Bool) → AllByRecursion IsGoodFact (runs slot (i + 1) (Open from v) known)
        → AllByRecursion IsGoodFact (runs slot (i + 1) (Open i w) known)
        → AllByRecursion IsGoodFact (cond b (runs slot (i + 1) (Open from v) known)
        (act.Fact from (i - 1) slot v ∷ runs slot (i + 1) (Open i w) known))
    by true same other = same
    by false same other = ((low, good), other)

-- ---- all acts

flat_good : {X : Type 0} (f : X → List Act) (xs : List X)
    → ((k : ℕ) (x : X) → slice_get xs k ≡ Some x → AllByRecursion IsGoodFact (f x))
    → AllByRecursion IsGoodFact (flat_map f xs)
flat_good f [] each = tt
flat_good f (x ∷ xs) each =
    all_append IsGoodFact (f x) (flat_map f xs) (each 0 x refl) (flat_good f xs (λ k y at. each (suc k) y at))

module _ (code : Code) (values : Holds IsInRange code) (reached : IsAllReached code) where
  fold_good : (known : ℕ → List (Option ℤ)) (at : ℕ) (to : Option ℕ)
      → AllByRecursion IsGoodFact (fold_act known code at to)
  fold_good known at None = tt
  fold_good known at (Some to) = (tt, tt)

  folds_good : (known : ℕ → List (Option ℤ)) (n : ℕ) → AllByRecursion IsGoodFact (folds_below known code n)
  folds_good known zero = tt
  folds_good known (suc n) =
      all_append IsGoodFact (folds_below known code n) (fold_act known code n (fold_target known code n))
      (folds_good known n) (fold_good known n (fold_target known code n))

  load_low : (slot at : ℕ) → IsLoad code slot at → slot < 2 ^ 32
  load_low slot at (i, there, is) =
      let value : slot < 2 ^ 16 =
      subst IsOpValue is (all_at (λ (x : Ins). IsInRange x.op) code.ins at i values there).0 in
      omega (arith, value)

  taken_low : (slot at : ℕ) (i : Ins) → TakesFrom code at i slot → slot < 2 ^ 32
  taken_low slot at i (inl load) = load_low slot (at - 1) load
  taken_low slot at i (inr both) = load_low slot (at - 2) both.1

  has_operand : (known : ℕ → List (Option ℤ)) (at to : ℕ) (i : Ins) → slice_get code.ins at ≡ Some i
      → fold_target known code at ≡ Some to → operands i.op ≢ NoOperand
  has_operand known at to i there is none =
      let wrong : None ≡ Some to =
      sym (ap (λ (c : Count). target_by known code c at i.op) none)
      ∙ sym (ap (target_of known code at) there) ∙ is in
      cc

  taken_good : (known : ℕ → List (Option ℤ)) → ((slot : ℕ) → IsAsked code slot → IsLargest code slot (known slot))
      → (slot : ℕ) → IsTaken known code slot → AllByRecursion IsGoodFact (runs slot 0 Shut (known slot))
  taken_good known largest slot (at, to, i, there, is, takes) =
      runs_good slot (taken_low slot at i takes) 0 Shut (known slot) tt
      (known_values code values slot (known slot)
      (largest slot (at, i, there, has_operand known at to i there is, takes)) reached)

  acts_good : (acts : List Act) → AreConstActs code acts → AllByRecursion IsGoodFact acts
  acts_good acts h =
      subst (AllByRecursion IsGoodFact) (sym h.is)
      (all_append IsGoodFact (flat_map (λ slot. runs slot 0 Shut (h.known slot)) h.taken)
      (folds_below h.known code (length code.ins))
      (flat_good (λ slot. runs slot 0 Shut (h.known slot)) h.taken (λ k slot at.
      taken_good h.known h.largest slot ((h.taken_are.are slot).0
      (k, slice_get_within h.taken k slot at, get_or_from_slice_get h.taken k slot slot at))))
      (folds_good h.known (length code.ins)))

  by_bound : (b : Bool) (acts : List Act) → ByBound b code acts → AllByRecursion IsGoodFact acts
  by_bound true acts h = subst (AllByRecursion IsGoodFact) (sym h) tt
  by_bound false acts h = acts_good acts h

  pub facts_good : (acts : List Act) → IsConstEdits code acts → AllByRecursion IsGoodFact acts
  facts_good acts h = by_bound (is_beyond (length h.asked) (length code.ins)) acts h.is

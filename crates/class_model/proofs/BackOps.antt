-- Each instruction is read back.
use Rattle.std.proofs.Common.{◌≡◌, ℕ, ◌^◌, ◌<◌, true, false, List, length, Result, Ok, ℤ, pos, ◌-ℤ◌, refl, sym, ◌∙◌}
use Rattle.std.proofs.Common.{arith, SFits}
use Rattle.std.specs.Prelude.{IfSome}
use Rattle.std.specs.Int.{w16, w32}
use Rattle.std.specs.List.{AllByRecursion}
use Rattle.std.proofs.lemmas.Bool.{le-leb}
use Rattle.format_reading.specs.declared.fault.FormatKind.{FormatKind}
use Rattle.class_model.specs.declared.pool.Entry.{Entry}
use Rattle.class_model.specs.declared.constant.PoolConstant.{PoolConstant}
use Rattle.class_model.specs.declared.op.Op.{Op}
use Rattle.class_model.specs.declared.op.Op.TheVariants as op
use Rattle.class_model.specs.CanonicalCode.{op_info, op_constants}
use Rattle.class_model.specs.WellFormed.{IsGoodOp, HasFewWords}
use Rattle.class_model.specs.WriteLimits.{branch_to}
use Rattle.class_model.specs.Says.{IsSaid}
use Rattle.class_model.specs.OpValues.{IsOpValue}
use Rattle.class_model.proofs.BackPlain.{IsBack, plain_back, is_load, is_store, is_arith, is_neg, is_shift, is_logic}
use Rattle.class_model.proofs.BackPlain.{is_conv, is_return}
use Rattle.class_model.proofs.BackPushes.{push_int_back, push_long_back, push_text_back}
use Rattle.class_model.proofs.BackSlots.{load_back, store_back, inc_back}
use Rattle.class_model.proofs.BackMembers.{on_field, on_method, on_interface}
use Rattle.class_model.proofs.BackClasses.{new_array_back, new_back, of_type_back, multi_back}
use Rattle.class_model.proofs.BackTargets.{branch_back, if_zero_back, if_cmp_back}
use Rattle.class_model.proofs.BackSwitches.{table_back, lookup_back}

-- a lookupswitch has fewer cases than its count can tell
abbrev pub HasFewCases : Op → Type 0
HasFewCases (op.LookupSwitch other cases) = length cases < 2 ^ 31
HasFewCases _ = Unit {0}

-- what the place of an instruction has to be, for one of a code of n instructions
pub record IsWithin (n : ℕ) (aim : ℤ → Result ℕ FormatKind) (place : ℕ → ℕ) (at : ℕ) (o : Op) : Type 0 where
  pub found : (to : ℕ) → to < n → aim (pos (place to)) ≡ Ok to
  pub near : (to : ℕ) → to < n → SFits w32 (pos (place to) -ℤ pos at)
  pub branch : IfSome (branch_to o) (λ to. SFits w16 (pos (place to) -ℤ pos at))
  pub few : HasFewCases o

-- the instruction is one of a well-formed code, in its range, and the entries say its constants
pub record IsWritable (n : ℕ) (entries : List Entry) (pool : List PoolConstant) (o : Op) : Type 0 where
  pub good : IsGoodOp n o
  pub words : HasFewWords o
  pub value : IsOpValue o
  pub said : AllByRecursion (IsSaid entries pool) (op_constants o)

module _ (n : ℕ) (aim : ℤ → Result ℕ FormatKind) (entries : List Entry) (pool : List PoolConstant) (place : ℕ → ℕ)
    (at : ℕ) where
  -- as it is written
  abbrev Back : Op → Type 0
  Back o = IsBack aim entries at (op_info pool place at o) o

  -- an instruction that is written is read back
  pub op_back : (o : Op) → IsWritable n entries pool o → IsWithin n aim place at o → Back o
  op_back op.Nop w i = plain_back aim entries at 0x00 op.Nop (omega arith, refl)
  op_back op.PushNull w i = plain_back aim entries at 0x01 op.PushNull (omega arith, refl)
  op_back (op.PushInt z) w i = push_int_back aim entries at pool z w.said
  op_back (op.PushLong z) w i = push_long_back aim entries at pool z w.said
  op_back (op.PushText units) w i = push_text_back aim entries at pool units w.said
  op_back (op.Load k slot) w i = load_back aim entries at k slot w.value
  op_back (op.Store k slot) w i = store_back aim entries at k slot w.value
  op_back (op.Inc slot delta) w i = inc_back aim entries at slot delta w.value.0 w.value.1
  op_back (op.ALoad e) w i = plain_back aim entries at _ (op.ALoad e) (is_load e)
  op_back (op.AStore e) w i = plain_back aim entries at _ (op.AStore e) (is_store e)
  op_back op.Pop w i = plain_back aim entries at 0x57 op.Pop (omega arith, refl)
  op_back op.Pop2 w i = plain_back aim entries at 0x58 op.Pop2 (omega arith, refl)
  op_back op.Dup w i = plain_back aim entries at 0x59 op.Dup (omega arith, refl)
  op_back op.DupX1 w i = plain_back aim entries at 0x5A op.DupX1 (omega arith, refl)
  op_back op.DupX2 w i = plain_back aim entries at 0x5B op.DupX2 (omega arith, refl)
  op_back op.Dup2 w i = plain_back aim entries at 0x5C op.Dup2 (omega arith, refl)
  op_back op.Dup2X1 w i = plain_back aim entries at 0x5D op.Dup2X1 (omega arith, refl)
  op_back op.Dup2X2 w i = plain_back aim entries at 0x5E op.Dup2X2 (omega arith, refl)
  op_back op.Swap w i = plain_back aim entries at 0x5F op.Swap (omega arith, refl)
  op_back (op.Arith a k) w i = plain_back aim entries at _ (op.Arith a k) (is_arith a k)
  op_back (op.Neg k) w i = plain_back aim entries at _ (op.Neg k) (is_neg k)
  op_back (op.Shift s k) w i = plain_back aim entries at _ (op.Shift s k) (is_shift s k)
  op_back (op.Logic l k) w i = plain_back aim entries at _ (op.Logic l k) (is_logic l k)
  op_back (op.Conv c) w i = plain_back aim entries at _ (op.Conv c) (is_conv c)
  op_back op.LCmp w i = plain_back aim entries at 0x94 op.LCmp (omega arith, refl)
  op_back (op.IfZero c to) w i = if_zero_back aim entries place at c to (i.found to w.good) i.branch
  op_back (op.IfCmp c to) w i = if_cmp_back aim entries place at c to (i.found to w.good) i.branch
  op_back (op.IfRef true to) w i = branch_back aim entries place at 0xA5 (λ k. op.IfRef true k) to
      (omega arith) refl refl (i.found to w.good) i.branch
  op_back (op.IfRef false to) w i = branch_back aim entries place at 0xA6 (λ k. op.IfRef false k) to
      (omega arith) refl refl (i.found to w.good) i.branch
  op_back (op.IfNull true to) w i = branch_back aim entries place at 0xC6 (λ k. op.IfNull true k) to
      (omega arith) refl refl (i.found to w.good) i.branch
  op_back (op.IfNull false to) w i = branch_back aim entries place at 0xC7 (λ k. op.IfNull false k) to
      (omega arith) refl refl (i.found to w.good) i.branch
  op_back (op.Goto to) w i = branch_back aim entries place at 0xA7 op.Goto to (omega arith) refl refl
      (i.found to w.good) i.branch
  op_back (op.TableSwitch low other cases) w i =
      table_back n aim entries place at i.found i.near low other cases w.good w.value
  op_back (op.LookupSwitch other cases) w i =
      lookup_back n aim entries place at i.found i.near other cases w.good w.value i.few
  op_back (op.Return k) w i = plain_back aim entries at _ (op.Return k) (is_return k)
  op_back (op.GetStatic r) w i = on_field aim entries at pool 0xB2 op.GetStatic r
      (omega arith) refl refl w.said w.good w.value
  op_back (op.PutStatic r) w i = on_field aim entries at pool 0xB3 op.PutStatic r
      (omega arith) refl refl w.said w.good w.value
  op_back (op.GetField r) w i = on_field aim entries at pool 0xB4 op.GetField r
      (omega arith) refl refl w.said w.good w.value
  op_back (op.PutField r) w i = on_field aim entries at pool 0xB5 op.PutField r
      (omega arith) refl refl w.said w.good w.value
  op_back (op.InvokeVirtual r) w i =
      let no = w.good.1 in
      on_method aim entries at pool 0xB6 op.InvokeVirtual r (omega arith) refl refl refl
      (λ yes. absurd (let e : true ≡ false = sym yes ∙ no in cc)) w.said w.good.0 w.value
  op_back (op.InvokeSpecial r) w i = on_method aim entries at pool 0xB7 op.InvokeSpecial r (omega arith) refl refl refl
      (λ yes. refl) w.said w.good w.value
  op_back (op.InvokeStatic r) w i = on_method aim entries at pool 0xB8 op.InvokeStatic r (omega arith) refl refl refl
      (λ yes. refl) w.said w.good w.value
  op_back (op.InvokeInterface r) w i = on_interface aim entries at pool r w.said w.good.0 w.good.1 w.words w.value
  op_back (op.New name) w i = new_back aim entries at pool name w.said w.good
  op_back (op.NewArray b) w i = new_array_back aim entries at b w.good.0 w.good.1
  op_back (op.ANewArray ty) w i = of_type_back aim entries at pool 0xBD op.ANewArray ty (omega arith) refl refl refl
      (le-leb ty.dims 254 w.good.1) w.said w.good.0 w.value
  op_back op.ArrayLength w i = plain_back aim entries at 0xBE op.ArrayLength (omega arith, refl)
  op_back op.Throw w i = plain_back aim entries at 0xBF op.Throw (omega arith, refl)
  op_back (op.CheckCast ty) w i = of_type_back aim entries at pool 0xC0 op.CheckCast ty
      (omega arith) refl refl refl refl w.said w.good w.value
  op_back (op.InstanceOf ty) w i = of_type_back aim entries at pool 0xC1 op.InstanceOf ty
      (omega arith) refl refl refl refl w.said w.good w.value
  op_back (op.MultiNewArray ty dimensions) w i =
      multi_back aim entries at pool ty dimensions w.said w.good.0 w.good.1 w.good.2 w.value

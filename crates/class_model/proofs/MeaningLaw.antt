-- The meaning of an instruction is computed exactly where its bytes stand for the instruction.
use Rattle.std.proofs.Common.{◌≡◌, inl, inr, ℕ, ◌+◌, ◌<◌, ◌≤◌, Bool, true, false, ◌||◌, eqb, List, length, Option, Some}
use Rattle.std.proofs.Common.{None, Result, Ok, ℤ, refl, sym, ap, ◌∙◌, arith}
use Rattle.std.specs.Prelude.{is_some, option_map, option_and_then}
use Rattle.std.specs.Int.{w16, w32, cast_signed}
use Rattle.std.proofs.lemmas.Bool.{eqb-true, eq-eqb, cases_lt}
use Rattle.std.proofs.lemmas.Bool.Decides.{nat_tests}
use Rattle.jv_base.specs.Outcome.{◌>>=◌}
use Rattle.jv_base.specs.Types.{argument_words}
use Rattle.jv_base.specs.declared.types.FieldType.{FieldType}
use Rattle.jv_base.specs.declared.types.MethodType.{MethodType}
use Rattle.jv_base.proofs.Options.{mapped}
use Rattle.jv_base.proofs.Results.{same_ok, then_ok}
use Rattle.format_reading.specs.declared.fault.FormatKind.{FormatKind}
use Rattle.format_reading.specs.declared.fault.FormatKind.TheVariants as bad
use Rattle.class_model.specs.declared.pool.Entry.{Entry}
use Rattle.class_model.specs.declared.op.Op.{Op}
use Rattle.class_model.specs.declared.op.Op.TheVariants as op
use Rattle.class_model.specs.Opcodes.{plain_op, local_op, branch_op, array_type_of}
use Rattle.class_model.specs.Lookups.{due, type_at, interface_methodref_at, method_type_of}
use Rattle.class_model.specs.InstructionStructure.{MatchOffset, Info, Plain, Bipush, Sipush, Ldc, LdcWide, Local}
use Rattle.class_model.specs.InstructionStructure.{WideLocal, Iinc, WideIinc, Branch, GotoWide, TableSwitch}
use Rattle.class_model.specs.InstructionStructure.{LookupSwitch, MemberOperand, InvokeInterface, ClassOperand, NewArray}
use Rattle.class_model.specs.InstructionStructure.{MultiNewArray}
use Rattle.class_model.specs.Instructions.{branch_target, IsTableSwitch, IsLookupSwitch, IsOp}
use Rattle.class_model.specs.InstructionMeaning.{op_of_operand, loaded, loaded_wide, member_op, class_op, aimed}
use Rattle.class_model.specs.InstructionMeaning.{all_aimed}
use Rattle.class_model.specs.InstructionMeaning.{cases_aimed, count_of, op_of}
use Rattle.class_model.specs.ReadingCode.{is_count, count_at, are_dimensions}
use Rattle.class_model.proofs.NameLaw.{HaveUnits, due_is}
use Rattle.class_model.proofs.LookupLaw.{type_found, type_only, method_found, method_only}
use Rattle.class_model.proofs.OperandLaw.{loaded_found, loaded_only, wide_found, wide_only, member_found, member_only}
use Rattle.class_model.proofs.OperandLaw.{interface_found, interface_only, class_op_found, class_op_only}
use Rattle.class_model.proofs.SwitchLaw.{le_found, le_only, count_found, count_only, ascending_found, ascending_only}
use Rattle.class_model.proofs.SwitchLaw.{offsets_fit, targets_found, targets_only, cases_found, cases_only, all_free}
use Rattle.class_model.proofs.InstructionOperands.{IsTable, IsLookup}
use Rattle.class_model.proofs.InstructionRead.{IsRight}
use Rattle.class_model.proofs.InstructionOnly.{wide_load}

-- ---- invokeinterface and multianewarray

-- the count that a descriptor tells
count_is : (t : Option MethodType) (n : ℕ)
    → is_count (option_map (λ (ty : MethodType). argument_words ty.args + 1) t) n ≡ true
    → (ty : MethodType) × (t ≡ Some ty) × (n ≡ argument_words ty.args + 1)
count_is (Some ty) n h = (ty, refl, eqb-true n (argument_words ty.args + 1) h)
count_is None n h = absurd cc

-- so many dimensions
dimensions_found : (ty : FieldType) (n : ℕ) → are_dimensions (Some ty) n ≡ true → (0 < n) × (n ≤ ty.dims)
dimensions_found ty n h = (grind (arith, nat_tests), grind (arith, nat_tests))

dimensions_only : (ty : FieldType) (n : ℕ) → 0 < n → n ≤ ty.dims → are_dimensions (Some ty) n ≡ true
dimensions_only ty n some most = grind (arith, nat_tests)

-- a float or a double is the type of no array here
no_array : (n : ℕ) (b c : Bool) → eqb n 6 ≡ b → eqb n 7 ≡ c → is_some (array_type_of n) ≡ true → (b || c) ≡ false
no_array n true c e f h = absurd
    (let none : is_some (array_type_of n) ≡ false = ap (λ (k : ℕ). is_some (array_type_of k)) (eqb-true n 6 e) in cc)
no_array n false true e f h = absurd
    (let none : is_some (array_type_of n) ≡ false = ap (λ (k : ℕ). is_some (array_type_of k)) (eqb-true n 7 f) in cc)
no_array n false false e f h = refl

none_above : (n : ℕ) → 256 ≤ n → array_type_of n ≡ None
none_above n le = grind (arith, nat_tests)

array_small : (n : ℕ) → is_some (array_type_of n) ≡ true → n < 256
array_small n h = elim (cases_lt n 256) [ inl lt ↦ lt | inr le ↦ absurd (let none = none_above n le in cc) ]

-- what is made of something was made of it
there : {A B : Type 0} (f : A → B) (o : Option A) (y : B) → option_map f o ≡ Some y → is_some o ≡ true
there f (Some x) y h = refl
there f None y h = absurd cc

-- what leads somewhere fits
lookups_fit : (Leads : ℤ → ℕ → Type 0) (at : ℕ) (pad : List ℕ) (default : ℕ) (pairs : List MatchOffset) (o : Op)
    → IsLookupSwitch Leads at pad default pairs o → IsLookup at pad default pairs
lookups_fit Leads at pad default pairs o h = record {
  padded = h.padded;
  default_fits = h.other_leads.0;
  count_fits = h.count_fits;
  ascending = ascending_only Leads at None pairs h.cases h.cases_lead (all_free h.cases) h.ascending;
}

tables_fit : (Leads : ℤ → ℕ → Type 0) (aim : ℤ → Result ℕ FormatKind) (at : ℕ) (pad : List ℕ) (default low high : ℕ)
    (offsets : List ℕ) (o : Op) → IsTableSwitch Leads at pad default low high offsets o
    → IsTable at pad default low high offsets
tables_fit Leads aim at pad default low high offsets o h = record {
  padded = h.padded;
  default_fits = h.other_leads.0;
  low_fits = h.low_fits;
  high_fits = h.high_fits;
  range = le_only (cast_signed w32 low) (cast_signed w32 high) h.range;
  counted = count_only (cast_signed w32 low) (cast_signed w32 high) (length offsets) h.range h.counted;
  offsets_fit = offsets_fit Leads aim at offsets h.cases h.cases_lead;
}

-- ---- instructions

-- the operands of what stands for an instruction are right
pub op_right : (Leads : ℤ → ℕ → Type 0) (pool : List Entry) (at : ℕ) (info : Info) (o : Op) → IsOp Leads pool at info o
    → IsRight pool at info
op_right Leads pool at (Plain c) o h = ap is_some h
op_right Leads pool at (Bipush byte) o h = h.0
op_right Leads pool at (Sipush short) o h = h.0
op_right Leads pool at (Ldc index) o h = let l = loaded_only pool index o h.1 in (h.0, l.1, ap is_some l.0)
op_right Leads pool at (LdcWide c index) o h =
    let l = wide_only pool c index o h.1 in
    let is : (eqb c 0x13 || eqb c 0x14)
    ≡ true = elim h.1 [
      | inl k ↦ ap (λ (n : ℕ). eqb n 0x13 || eqb n 0x14) k.0
      | inr k ↦ ap
          (λ (n : ℕ). eqb n 0x13 || eqb n 0x14) k.0
    ] in
    (is, h.0, l.1, ap is_some l.0)
op_right Leads pool at (Local c index) o h = (h.0, there (λ make. make index) (local_op c) o h.1)
op_right Leads pool at (WideLocal c index) o h = (h.0, there (λ make. make index) (local_op c) o h.1)
op_right Leads pool at (Iinc index const) o h = (h.0, h.1)
op_right Leads pool at (WideIinc index const) o h = (h.0, h.1)
op_right Leads pool at (Branch c branch) o h = (h.0, there (λ make. make h.1) (branch_op c) o h.3)
op_right Leads pool at (GotoWide branch) o h = h.1.0
op_right Leads pool at (TableSwitch pad default low high offsets) o h = tables_fit Leads
    (λ target. Ok 0) at pad default low high offsets o h
op_right Leads pool at (LookupSwitch pad default pairs) o h = lookups_fit Leads at pad default pairs o h
op_right Leads pool at (MemberOperand c index) o h = let m = member_only pool c index h.0 o h.1 in (m.0, ap is_some m.1)
op_right Leads pool at (InvokeInterface index count) o h =
    let r = interface_only pool index h.reference h.refers in
    let t = method_only h.reference.ty h.ty h.typed h.descriptor in
    let wanted : count_at pool index ≡ Some (argument_words h.ty.args + 1) = rw (r, t) refl in
    record {
      index_fits = h.refers.0.index_fits;
      there = ap is_some r;
      count_fits = h.count_fits;
      counted = ap
          (λ w. is_count w count) wanted ∙ eq-eqb count (argument_words h.ty.args + 1) h.counted;
    }
op_right Leads pool at (ClassOperand c index) o h = let m = class_op_only pool c index o h in (m.0, ap is_some m.1)
op_right Leads pool at (NewArray atype) o h =
    let some = there (λ ty. op.NewArray ty) (array_type_of atype) o h in
    (array_small atype some, no_array atype (eqb atype 6) (eqb atype 7) refl refl some, some)
op_right Leads pool at (MultiNewArray index dimensions) o h =
    let t = type_only pool index h.ty h.typed in
    record {
      index_fits = h.index_fits;
      there = ap is_some t;
      dimensions_fit = omega
          (arith, h.most, h.typed.2.dimensions);
      made = ap (λ ty. are_dimensions ty dimensions) t
          ∙ dimensions_only h.ty dimensions h.least h.most;
    }

-- what stands for an instruction has it as its meaning
pub op_only : (Leads : ℤ → ℕ → Type 0) (aim : ℤ → Result ℕ FormatKind) (pool : List Entry) (at : ℕ) (info : Info)
    (o : Op) → ((target : ℤ) (n : ℕ) → Leads target n → aim target ≡ Ok n) → IsOp Leads pool at info o
    → op_of aim pool at info ≡ Ok o
unfolding op_of
op_only Leads aim pool at (Plain c) o aims h = ap (due bad.BadOperand) h
op_only Leads aim pool at (Bipush byte) o aims h = ap (λ (x : Op). let R : Result Op FormatKind = Ok x in R) (sym h.1)
op_only Leads aim pool at (Sipush short) o aims h = ap (λ (x : Op). let R : Result Op FormatKind = Ok x in R) (sym h.1)
op_only Leads aim pool at (Ldc index) o aims h = ap (due bad.BadOperand) (loaded_only pool index o h.1).0
op_only Leads aim pool at (LdcWide c index) o aims h = ap (due bad.BadOperand) (wide_only pool c index o h.1).0
op_only Leads aim pool at (Local c index) o aims h = ap (due bad.BadOperand) h.1
op_only Leads aim pool at (WideLocal c index) o aims h = ap (due bad.BadOperand) h.1
op_only Leads aim pool at (Iinc index const) o aims h = ap (λ (x : Op). let R : Result Op FormatKind = Ok x in R)
    (sym h.2)
op_only Leads aim pool at (WideIinc index const) o aims h = ap (λ (x : Op). let R : Result Op FormatKind = Ok x in R)
    (sym h.2)
op_only Leads aim pool at (Branch c branch) o aims h = let to = aims
    (branch_target at (cast_signed w16 branch)) h.1 h.2 in rw to (ap (due bad.BadOperand) h.3)
op_only Leads aim pool at (GotoWide branch) o aims h = let to = aims
    (branch_target at (cast_signed w32 branch)) h.0 h.1.1 in rw to
    (ap (λ (x : Op). let R : Result Op FormatKind = Ok x in R) (sym h.2))
op_only Leads aim pool at (TableSwitch pad default low high offsets) o aims h =
    let other = aims (branch_target at (cast_signed w32 default)) h.other h.other_leads.1 in
    let cases = targets_only Leads aim at aims offsets h.cases h.cases_lead in
    rw (other, cases) (ap (λ (x : Op). let R : Result Op FormatKind = Ok x in R) (sym h.is))
op_only Leads aim pool at (LookupSwitch pad default pairs) o aims h =
    let other = aims (branch_target at (cast_signed w32 default)) h.other h.other_leads.1 in
    let cases = cases_only Leads aim at aims pairs h.cases h.cases_lead in
    rw (other, cases) (ap (λ (x : Op). let R : Result Op FormatKind = Ok x in R) (sym h.is))
op_only Leads aim pool at (MemberOperand c index) o aims h = ap (due bad.BadOperand)
    (member_only pool c index h.0 o h.1).1
op_only Leads aim pool at (InvokeInterface index count) o aims h =
    let r = interface_only pool index h.reference h.refers in
    rw r (ap (λ (x : Op). let R : Result Op FormatKind = Ok x in R) (sym h.is))
op_only Leads aim pool at (ClassOperand c index) o aims h = ap (due bad.BadOperand) (class_op_only pool c index o h).1
op_only Leads aim pool at (NewArray atype) o aims h = ap (due bad.BadOperand) h
op_only Leads aim pool at (MultiNewArray index dimensions) o aims h =
    let t = type_only pool index h.ty h.typed in
    rw t (ap (λ (x : Op). let R : Result Op FormatKind = Ok x in R) (sym h.is))

-- what has a meaning, its operands being right, stands for it
pub op_found : (Leads : ℤ → ℕ → Type 0) (aim : ℤ → Result ℕ FormatKind) (pool : List Entry) (at : ℕ) (info : Info)
    (o : Op) → HaveUnits pool → ((target : ℤ) (n : ℕ) → aim target ≡ Ok n → Leads target n) → IsRight pool at info
    → op_of aim pool at info ≡ Ok o → IsOp Leads pool at info o
unfolding op_of
op_found Leads aim pool at (Plain c) o fit leads r h = due_is bad.BadOperand (plain_op c) o h
op_found Leads aim pool at (Bipush byte) o fit leads r h = (r, sym (same_ok _ o h))
op_found Leads aim pool at (Sipush short) o fit leads r h = (r, sym (same_ok _ o h))
op_found Leads aim pool at (Ldc index) o fit leads r h =
    (r.0, loaded_found pool index o (due_is bad.BadOperand (loaded pool index) o h))
op_found Leads aim pool at (LdcWide c index) o fit leads r h =
    (r.1, wide_found pool c index o (wide_load c r.0) (due_is bad.BadOperand (loaded_wide c pool index) o h))
op_found Leads aim pool at (Local c index) o fit leads r h =
    (r.0, due_is bad.BadOperand (option_map (λ make. make index) (local_op c)) o h)
op_found Leads aim pool at (WideLocal c index) o fit leads r h =
    (r.0, due_is bad.BadOperand (option_map (λ make. make index) (local_op c)) o h)
op_found Leads aim pool at (Iinc index const) o fit leads r h = (r.0, r.1, sym (same_ok _ o h))
op_found Leads aim pool at (WideIinc index const) o fit leads r h = (r.0, r.1, sym (same_ok _ o h))
op_found Leads aim pool at (Branch c branch) o fit leads r h =
    let t = then_ok (aim (branch_target at (cast_signed w16 branch))) (λ to. op_of_operand (branch_op c) to) o h in (
      r.0,
      t.0,
      leads (branch_target at (cast_signed w16 branch)) t.0 t.1,
      due_is bad.BadOperand
          (option_map (λ make. make t.0) (branch_op c)) o t.2,
    )
op_found Leads aim pool at (GotoWide branch) o fit leads r h =
    let t = then_ok (aim (branch_target at (cast_signed w32 branch))) (λ to. op_of_operand (Some op.Goto) to) o h in
    (t.0, (r, leads (branch_target at (cast_signed w32 branch)) t.0 t.1), sym (same_ok (op.Goto t.0) o t.2))
op_found Leads aim pool at (TableSwitch pad default low high offsets) o fit leads r h =
    let t = then_ok (aimed aim at default)
    (λ other. all_aimed aim at offsets >>= (λ cases. Ok (op.TableSwitch (cast_signed w32 low) other cases))) o h in
    let c = then_ok (all_aimed aim at offsets) (λ cases. Ok (op.TableSwitch (cast_signed w32 low) t.0 cases)) o t.2 in
    let range = le_found (cast_signed w32 low) (cast_signed w32 high) r.range in
    record {
      padded = r.padded;
      low_fits = r.low_fits;
      high_fits = r.high_fits;
      range = range;
      counted = count_found (cast_signed w32 low) (cast_signed w32 high) (length offsets) range r.counted;
      other = t.0;
      other_leads = (r.default_fits, leads (branch_target at (cast_signed w32 default)) t.0 t.1);
      cases = c.0;
      cases_lead = targets_found Leads aim at leads offsets c.0 r.offsets_fit c.1;
      is = sym (same_ok _ o c.2);
    }
op_found Leads aim pool at (LookupSwitch pad default pairs) o fit leads r h =
    let t = then_ok (aimed aim at default)
    (λ other. cases_aimed aim at pairs >>= (λ cases. Ok (op.LookupSwitch other cases))) o h in
    let c = then_ok (cases_aimed aim at pairs) (λ cases. Ok (op.LookupSwitch t.0 cases)) o t.2 in
    let lead = cases_found Leads aim at leads None pairs c.0 r.ascending c.1 in
    record {
      padded = r.padded;
      count_fits = r.count_fits;
      other = t.0;
      other_leads = (r.default_fits, leads (branch_target at (cast_signed w32 default)) t.0 t.1);
      cases = c.0;
      cases_lead = lead;
      ascending = ascending_found Leads at None pairs c.0 lead r.ascending;
      is = sym (same_ok _ o c.2);
    }
op_found Leads aim pool at (MemberOperand c index) o fit leads r h = member_found pool c index o fit r.0
    (due_is bad.BadOperand (member_op c pool index) o h)
op_found Leads aim pool at (InvokeInterface index count) o fit leads r h =
    let m = mapped (λ reference. op.InvokeInterface reference) (interface_methodref_at pool index) o
    (due_is bad.BadOperand
    (option_map (λ reference. op.InvokeInterface reference) (interface_methodref_at pool index)) o h) in
    let same : count_at pool index
    ≡ option_map (λ (ty : MethodType). argument_words ty.args + 1) (method_type_of m.0.ty) = ap
    (option_and_then count_of) m.1 in
    let c = count_is (method_type_of m.0.ty) count (ap (λ w. is_count w count) (sym same) ∙ r.counted) in
    let ty = method_found m.0.ty c.0 c.1 in
    record {
      reference = m.0;
      refers = interface_found pool index m.0 fit r.index_fits m.1;
      ty = c.0;
      typed = ty.0;
      descriptor = ty.1;
      count_fits = r.count_fits;
      counted = c.2;
      is = sym m.2;
    }
op_found Leads aim pool at (ClassOperand c index) o fit leads r h = class_op_found pool c index o fit r.0
    (due_is bad.BadOperand (class_op c pool index) o h)
op_found Leads aim pool at (NewArray atype) o fit leads r h = due_is bad.BadOperand
    (option_map (λ ty. op.NewArray ty) (array_type_of atype)) o h
op_found Leads aim pool at (MultiNewArray index dimensions) o fit leads r h =
    let m = mapped (λ ty. op.MultiNewArray ty dimensions) (type_at pool index) o
    (due_is bad.BadOperand (option_map (λ ty. op.MultiNewArray ty dimensions) (type_at pool index)) o h) in
    let d = dimensions_found m.0 dimensions (ap (λ ty. are_dimensions ty dimensions) (sym m.1) ∙ r.made) in
    record {
      index_fits = r.index_fits;
      ty = m.0;
      typed = type_found pool index m.0 fit m.1;
      least = d.0;
      most = d.1;
      is = sym m.2;
    }

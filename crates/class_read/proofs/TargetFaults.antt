-- Of the instructions of a code that were read only targets can be wrong.
use Rattle.std.proofs.Common.{◌≡◌, ℕ, ◌+◌, ◌≤◌, true, List, [], ◌∷◌, length, Option, Some, None, Result, Ok, Err, refl}
use Rattle.std.proofs.Common.{ap, ◌∙◌, arith}
use Rattle.std.specs.Prelude.{ℤ, pos, negsuc, is_some, option_map, position, nat_eq}
use Rattle.std.specs.List.{flat_map}
use Rattle.std.proofs.lemmas.List.{length-append}
use Rattle.std.specs.Int.{w16, w32, cast_signed}
use Rattle.jv_base.specs.Outcome.{◌>>=◌}
use Rattle.format_reading.specs.Fault.{fault}
use Rattle.format_reading.specs.declared.fault.FormatFault.{FormatFault}
use Rattle.format_reading.specs.declared.fault.FormatKind.{FormatKind}
use Rattle.format_reading.specs.declared.fault.FormatKind.TheVariants as bad
use Rattle.class_model.specs.declared.pool.Entry.{Entry}
use Rattle.class_model.specs.declared.op.Op.{Op}
use Rattle.class_model.specs.declared.op.Op.TheVariants as op
use Rattle.class_model.specs.Lookups.{due, type_at, interface_methodref_at}
use Rattle.class_model.specs.Opcodes.{plain_op, local_op, branch_op, array_type_of}
use Rattle.class_model.specs.InstructionStructure.{MatchOffset, Info, Plain, Bipush, Sipush, Ldc, LdcWide, Local}
use Rattle.class_model.specs.InstructionStructure.{WideLocal, Iinc, WideIinc, Branch, GotoWide, TableSwitch}
use Rattle.class_model.specs.InstructionStructure.{LookupSwitch, MemberOperand, InvokeInterface, ClassOperand, NewArray}
use Rattle.class_model.specs.InstructionStructure.{MultiNewArray, info_bytes, starts_of}
use Rattle.class_model.specs.Instructions.{branch_target}
use Rattle.class_model.specs.InstructionMeaning.{op_of, loaded, loaded_wide, op_of_operand, member_op, class_op, aimed}
use Rattle.class_model.specs.InstructionMeaning.{all_aimed, cases_aimed, branch, table_switch, lookup_switch, aim_at}
use Rattle.class_model.specs.ReadingCode.{op_then, ops_from, ops_of}
use Rattle.class_model.proofs.InstructionRead.{IsRight}
use Rattle.class_model.proofs.UntilLaw.{AreRight}
use Rattle.class_read.proofs.InstructionFaults.{TellsIn}
use Rattle.code_read.proofs.ReadMeant.{mapped_there}

-- only a target is wrong, if anything
abbrev pub OnlyTarget : {A : Type 0} → Result A FormatKind → Type 0
OnlyTarget (Ok x) = Unit {0}
OnlyTarget (Err k) = k ≡ bad.BadTarget

then_only : {A B : Type 0} (r : Result A FormatKind) (f : A → Result B FormatKind) → OnlyTarget r
    → ((x : A) → OnlyTarget (f x)) → OnlyTarget (r >>= f)
then_only (Ok x) f h g = g x
then_only (Err k) f h g = h

there_only : {A : Type 0} (o : Option A) → is_some o ≡ true → OnlyTarget (due bad.BadOperand o)
there_only (Some x) h = tt
there_only None h = absurd cc

made_only : (table : Option (ℕ → Op)) (n : ℕ) → is_some table ≡ true → OnlyTarget (op_of_operand table n)
made_only table n h = there_only (option_map (λ make. make n) table) (mapped_there (λ make. make n) table h)

module _ (aim : ℤ → Result ℕ FormatKind) (only : (target : ℤ) → OnlyTarget (aim target)) (at : ℕ) where
  branch_only : (table : Option (ℕ → Op)) (offset : ℤ) → is_some table ≡ true → OnlyTarget (branch aim at table offset)
  branch_only table offset h = then_only (aim (branch_target at offset)) (op_of_operand table)
      (only (branch_target at offset))
      (λ to. made_only table to h)

  aimed_only : (offset : ℕ) → OnlyTarget (aimed aim at offset)
  aimed_only offset = only (branch_target at (cast_signed w32 offset))

  all_only : (offsets : List ℕ) → OnlyTarget (all_aimed aim at offsets)
  all_only [] = tt
  all_only (offset ∷ offsets) = then_only (aimed aim at offset) _ (aimed_only offset)
      (λ to. then_only (all_aimed aim at offsets) _ (all_only offsets) (λ others. tt))

  cases_only : (pairs : List MatchOffset) → OnlyTarget (cases_aimed aim at pairs)
  cases_only [] = tt
  cases_only (pair ∷ pairs) = then_only (aimed aim at pair.offset) _ (aimed_only pair.offset)
      (λ to. then_only (cases_aimed aim at pairs) _ (cases_only pairs) (λ others. tt))

  table_only : (default low : ℕ) (offsets : List ℕ) → OnlyTarget (table_switch aim at default low offsets)
  table_only default low offsets = then_only (aimed aim at default) _ (aimed_only default)
      (λ other. then_only (all_aimed aim at offsets) _ (all_only offsets) (λ cases. tt))

  lookup_only : (default : ℕ) (pairs : List MatchOffset) → OnlyTarget (lookup_switch aim at default pairs)
  lookup_only default pairs = then_only (aimed aim at default) _ (aimed_only default)
      (λ other. then_only (cases_aimed aim at pairs) _ (cases_only pairs) (λ cases. tt))

  -- one that is right
  right_only : (pool : List Entry) (info : Info) → IsRight pool at info → OnlyTarget (op_of aim pool at info)
  unfolding op_of
  right_only pool (Plain c) h = there_only (plain_op c) h
  right_only pool (Bipush byte) h = tt
  right_only pool (Sipush short) h = tt
  right_only pool (Ldc index) h = there_only (loaded pool index) h.2
  right_only pool (LdcWide c index) h = there_only (loaded_wide c pool index) h.3
  right_only pool (Local c index) h = made_only (local_op c) index h.1
  right_only pool (WideLocal c index) h = made_only (local_op c) index h.1
  right_only pool (Iinc index const) h = tt
  right_only pool (WideIinc index const) h = tt
  right_only pool (Branch c offset) h = branch_only (branch_op c) (cast_signed w16 offset) h.1
  right_only pool (GotoWide offset) h = branch_only (Some op.Goto) (cast_signed w32 offset) refl
  right_only pool (TableSwitch pad default low high offsets) h = table_only default low offsets
  right_only pool (LookupSwitch pad default pairs) h = lookup_only default pairs
  right_only pool (MemberOperand c index) h = there_only (member_op c pool index) h.1
  right_only pool (InvokeInterface index count) h =
      there_only (option_map (λ reference. op.InvokeInterface reference) (interface_methodref_at pool index))
      (mapped_there (λ reference. op.InvokeInterface reference) (interface_methodref_at pool index) h.there)
  right_only pool (ClassOperand c index) h = there_only (class_op c pool index) h.1
  right_only pool (NewArray atype) h = there_only (option_map (λ ty. op.NewArray ty) (array_type_of atype))
      (mapped_there (λ ty. op.NewArray ty) (array_type_of atype) h.2)
  right_only pool (MultiNewArray index dimensions) h =
      there_only (option_map (λ ty. op.MultiNewArray ty dimensions) (type_at pool index))
      (mapped_there (λ ty. op.MultiNewArray ty dimensions) (type_at pool index) h.there)

-- ---- all of them

-- a wrong target, told from another first byte
abbrev pub target_behind : ℕ → Result (List Op) FormatFault → Result (List Op) FormatFault
target_behind from (Ok ops) = Ok ops
target_behind from (Err f) = Err (fault (from + f.offset) bad.BadTarget)

then_behind : (from at : ℕ) (r : Result Op FormatKind) (s : Result (List Op) FormatFault) → OnlyTarget r
    → op_then (from + at) r (target_behind from s) ≡ target_behind from (op_then (0 + at) r s)
then_behind from at (Ok o) (Ok os) h = refl
then_behind from at (Ok o) (Err f) h = refl
then_behind from at (Err k) s h =
    ap (λ (kind : FormatKind). let R : Result (List Op) FormatFault = Err (fault (from + at) kind) in R) h
    ∙ ap (λ (o : ℕ). let R : Result (List Op) FormatFault = Err (fault (from + o) bad.BadTarget) in R)
    (let e : at ≡ 0 + at = omega arith in e)

from_behind : (aim : ℤ → Result ℕ FormatKind) → ((target : ℤ) → OnlyTarget (aim target))
    → (pool : List Entry) (from at : ℕ) (infos : List Info) → AreRight pool at infos
    → ops_from aim pool from at infos ≡ target_behind from (ops_from aim pool 0 at infos)
unfolding ops_from
from_behind aim only pool from at [] right = refl
from_behind aim only pool from at (info ∷ infos) right =
    ap (op_then (from + at) (op_of aim pool at info))
    (from_behind aim only pool from (at + length (info_bytes info)) infos right.1)
    ∙ then_behind from at (op_of aim pool at info) (ops_from aim pool 0 (at + length (info_bytes info)) infos)
    (right_only aim only at pool info right.0)

found_only : (o : Option ℕ) → OnlyTarget (due bad.BadTarget o)
found_only (Some n) = tt
found_only None = refl

aim_only : (starts : List ℕ) (target : ℤ) → OnlyTarget (aim_at starts target)
aim_only starts (pos offset) = found_only (position (nat_eq offset) starts)
aim_only starts (negsuc n) = refl

-- the instructions of a code, or the first with a wrong target, told from another first byte
pub ops_behind : (pool : List Entry) (from : ℕ) (infos : List Info) → AreRight pool 0 infos
    → ops_of pool from infos ≡ target_behind from (ops_of pool 0 infos)
ops_behind pool from infos right = from_behind (aim_at (starts_of infos))
    (aim_only (starts_of infos)) pool from 0 infos right

-- its offset is one of the code
then_within : (end at : ℕ) (r : Result Op FormatKind) (s : Result (List Op) FormatFault) → at ≤ end
    → TellsIn (λ f. f.offset ≤ end) s → TellsIn (λ f. f.offset ≤ end) (op_then (0 + at) r s)
then_within end at (Ok o) (Ok os) le h = tt
then_within end at (Ok o) (Err f) le h = h
then_within end at (Err k) s le h = omega (arith, le)

pub targets_within : (aim : ℤ → Result ℕ FormatKind) (pool : List Entry) (end at : ℕ) (infos : List Info)
    → at + length (flat_map info_bytes infos) ≤ end → TellsIn (λ f. f.offset ≤ end) (ops_from aim pool 0 at infos)
unfolding ops_from
targets_within aim pool end at [] le = tt
targets_within aim pool end at (info ∷ infos) le =
    let size = length-append (info_bytes info) (flat_map info_bytes infos) in
    then_within end at (op_of aim pool at info) (ops_from aim pool 0 (at + length (info_bytes info)) infos)
    (omega (arith, le)) (targets_within aim pool end (at + length (info_bytes info)) infos
    (omega (arith, le, size)))

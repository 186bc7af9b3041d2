-- An instruction at a place of a code, and at the same place where other bytes stand in front of the code.
use Rattle.std.proofs.Common.{◌≡◌, ℕ, zero, suc, ◌+◌, ◌-◌, Bool, true, false, cond, eqb, ◌||◌, List, [], length, Option}
use Rattle.std.proofs.Common.{Some, None, Result, Ok, Err, refl, ap, ◌∙◌, arith}
use Rattle.std.specs.Prelude.{is_some}
use Rattle.jv_base.specs.Place.{Place}
use Rattle.format_reading.specs.declared.fault.FormatFault.{FormatFault}
use Rattle.format_reading.specs.declared.fault.FormatKind.{FormatKind}
use Rattle.format_reading.specs.Reader.{FormatReader, u1, u2, u4, bytes, lead, item, many}
use Rattle.class_model.specs.declared.pool.Entry.{Entry}
use Rattle.class_model.specs.InstructionStructure.{Info, pad_length, Bipush, Sipush, Local, WideLocal, Branch}
use Rattle.class_model.specs.Opcodes.{plain_op, local_op, branch_op, is_left_out_local, is_left_out_opcode}
use Rattle.class_model.specs.ReadingCode.{left_out, one_byte, two_bytes, iinc, wide_iinc, widened, goto_wide}
use Rattle.class_model.specs.ReadingCode.{table_length, table_high, table_switch, lookup_count, lookup_key}
use Rattle.class_model.specs.ReadingCode.{match_offsets, lookup_switch, invoke_interface, multi_new_array}
use Rattle.class_model.specs.ReadingCode.{is_member_opcode, is_class_opcode, begun, at_instruction, read_instruction}
use Rattle.class_read.proofs.ShiftedReaders.{behind, read_behind, Shifts, LeadShift, u1_shifts, u2_shifts, u4_shifts}
use Rattle.class_read.proofs.ShiftedReaders.{bytes_shift, give_shifts, lead_shifts, bind_shifts, item_shifts}
use Rattle.class_read.proofs.ShiftedReaders.{many_shift}

module _ (front : List ℕ) where
  -- two ways
  if_shifts : {B : Type 0} (b : Bool) (o u : Result (FormatReader B) FormatKind) → LeadShift front o o
      → LeadShift front u u
      → LeadShift front (cond b o u) (cond b o u)
  if_shifts true o u h k = h
  if_shifts false o u h k = k

  one_byte_shifts : (make : ℕ → Info) → Shifts front (one_byte make) (one_byte make)
  one_byte_shifts make = bind_shifts front u1 u1 _ _ (u1_shifts front) (λ x. give_shifts front _)

  two_bytes_shift : (make : ℕ → Info) → Shifts front (two_bytes make) (two_bytes make)
  two_bytes_shift make = bind_shifts front u2 u2 _ _ (u2_shifts front) (λ x. give_shifts front _)

  iinc_shifts : Shifts front iinc iinc
  iinc_shifts = bind_shifts front u1 u1 _ _ (u1_shifts front)
      (λ index. bind_shifts front u1 u1 _ _ (u1_shifts front) (λ const. give_shifts front _))

  wide_iinc_shifts : Shifts front wide_iinc wide_iinc
  wide_iinc_shifts = bind_shifts front u2 u2 _ _ (u2_shifts front)
      (λ index. bind_shifts front u2 u2 _ _ (u2_shifts front) (λ const. give_shifts front _))

  widened_shifts : (opcode : ℕ) → LeadShift front (widened opcode) (widened opcode)
  widened_shifts opcode =
      if_shifts (eqb opcode 0x84) _ _ wide_iinc_shifts
      (if_shifts (is_left_out_local opcode) _ _ (give_shifts front (left_out 0xC4))
      (if_shifts (is_some (local_op opcode)) _ _ (two_bytes_shift (λ index. WideLocal opcode index)) refl))

  goto_shifts : Shifts front goto_wide goto_wide
  goto_shifts = bind_shifts front u4 u4 _ _ (u4_shifts front) (λ x. give_shifts front _)

  table_shifts : (at : ℕ) → Shifts front (table_switch at) (table_switch at)
  table_shifts at =
      bind_shifts front (bytes (pad_length at)) (bytes (pad_length at)) _ _ (bytes_shift front (pad_length at)) (λ pad.
      bind_shifts front u4 u4 _ _ (u4_shifts front) (λ default.
      bind_shifts front u4 u4 _ _ (u4_shifts front) (λ low.
      bind_shifts front (item u4 (table_high low)) (item u4 (table_high low)) _ _
      (item_shifts front u4 (table_high low) (u4_shifts front)) (λ high.
      bind_shifts front (many (table_length low high) u4) (many (table_length low high) u4) _ _
      (many_shift front (table_length low high) u4 (u4_shifts front)) (λ offsets.
      give_shifts front _)))))

  pairs_shift : (n : ℕ) (previous : Option ℕ) → Shifts front (match_offsets n previous) (match_offsets n previous)
  unfolding match_offsets
  pairs_shift zero previous = give_shifts front []
  pairs_shift (suc n) previous =
      bind_shifts front (item u4 (lookup_key previous)) (item u4 (lookup_key previous)) _ _
      (item_shifts front u4 (lookup_key previous) (u4_shifts front)) (λ key.
      bind_shifts front u4 u4 _ _ (u4_shifts front) (λ offset.
      bind_shifts front (match_offsets n (Some key)) (match_offsets n (Some key)) _ _ (pairs_shift n (Some key))
      (λ others. give_shifts front _)))

  lookup_shifts : (at : ℕ) → Shifts front (lookup_switch at) (lookup_switch at)
  lookup_shifts at =
      bind_shifts front (bytes (pad_length at)) (bytes (pad_length at)) _ _ (bytes_shift front (pad_length at)) (λ pad.
      bind_shifts front u4 u4 _ _ (u4_shifts front) (λ default.
      bind_shifts front (item u4 lookup_count) (item u4 lookup_count) _ _
      (item_shifts front u4 lookup_count (u4_shifts front)) (λ n.
      bind_shifts front (match_offsets n None) (match_offsets n None) _ _ (pairs_shift n None)
      (λ pairs. give_shifts front _))))

  interface_shifts : (pool : List Entry) → Shifts front (invoke_interface pool) (invoke_interface pool)
  interface_shifts pool =
      bind_shifts front (item u2 _) (item u2 _) _ _ (item_shifts front u2 _ (u2_shifts front)) (λ index.
      bind_shifts front (item u1 _) (item u1 _) _ _ (item_shifts front u1 _ (u1_shifts front)) (λ count.
      bind_shifts front (item u1 _) (item u1 _) _ _ (item_shifts front u1 _ (u1_shifts front))
      (λ last. give_shifts front _)))

  arrays_shift : (pool : List Entry) → Shifts front (multi_new_array pool) (multi_new_array pool)
  arrays_shift pool =
      bind_shifts front (item u2 _) (item u2 _) _ _ (item_shifts front u2 _ (u2_shifts front)) (λ index.
      bind_shifts front (item u1 _) (item u1 _) _ _ (item_shifts front u1 _ (u1_shifts front))
      (λ dimensions. give_shifts front _))

  -- what an opcode begins
  begun_shifts : (pool : List Entry) (at opcode : ℕ) → LeadShift front (begun pool at opcode) (begun pool at opcode)
  begun_shifts pool at opcode =
      if_shifts (is_some (plain_op opcode)) _ _ (give_shifts front _)
      (if_shifts (eqb opcode 0x10) _ _ (one_byte_shifts (λ byte. Bipush byte))
      (if_shifts (eqb opcode 0x11) _ _ (two_bytes_shift (λ short. Sipush short))
      (if_shifts (eqb opcode 0x12) _ _ (item_shifts front u1 _ (u1_shifts front))
      (if_shifts (eqb opcode 0x13 || eqb opcode 0x14) _ _ (item_shifts front u2 _ (u2_shifts front))
      (if_shifts (is_some (local_op opcode)) _ _ (one_byte_shifts (λ index. Local opcode index))
      (if_shifts (eqb opcode 0x84) _ _ iinc_shifts
      (if_shifts (eqb opcode 0xC4) _ _ (lead_shifts front u1 u1 widened widened (u1_shifts front) widened_shifts)
      (if_shifts (is_some (branch_op opcode)) _ _ (two_bytes_shift (λ offset. Branch opcode offset))
      (if_shifts (eqb opcode 0xC8) _ _ goto_shifts
      (if_shifts (eqb opcode 0xAA) _ _ (table_shifts at)
      (if_shifts (eqb opcode 0xAB) _ _ (lookup_shifts at)
      (if_shifts (is_member_opcode opcode) _ _ (item_shifts front u2 _ (u2_shifts front))
      (if_shifts (eqb opcode 0xB9) _ _ (interface_shifts pool)
      (if_shifts (is_class_opcode opcode) _ _ (item_shifts front u2 _ (u2_shifts front))
      (if_shifts (eqb opcode 0xBC) _ _ (item_shifts front u1 _ (u1_shifts front))
      (if_shifts (eqb opcode 0xC5) _ _ (arrays_shift pool)
      (if_shifts (eqb opcode 0xBA || is_left_out_opcode opcode) _ _
      (give_shifts front (left_out opcode)) refl)))))))))))))))))

  -- each fault is one at the first byte
  at_shifts : {A : Type 0} (at : ℕ) (r : Result (A × Place) FormatFault)
      → at_instruction (length front + at) (read_behind front r) ≡ read_behind front (at_instruction at r)
  at_shifts at (Ok x) = refl
  at_shifts at (Err f) = refl

  -- an instruction is read as it is of the code alone
  pub instruction_shifts : (pool : List Entry) (from : ℕ) → from ≡ length front
      → Shifts front (read_instruction pool 0) (read_instruction pool from)
  unfolding read_instruction
  instruction_shifts pool from is p =
      let same : (length front + p.at) - from ≡ p.at - 0 = omega (arith, is) in
      ap (λ (at : ℕ). at_instruction (length front + p.at) (lead u1 (begun pool at) (behind front p))) same
      ∙ ap (at_instruction (length front + p.at))
      (lead_shifts front u1 u1 (begun pool (p.at - 0)) (begun pool (p.at - 0)) (u1_shifts front)
      (begun_shifts pool (p.at - 0)) p)
      ∙ at_shifts p.at (lead u1 (begun pool (p.at - 0)) p)

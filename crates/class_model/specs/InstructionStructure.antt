-- Instructions as they are written: the opcode, and operands by their names (JVMS 6.5).
use Rattle.std.specs.Prelude.{ℕ, ◌+◌, ◌-◌, ◌%◌, List, [], ◌∷◌, ◌++◌, length}
use Rattle.std.specs.Int.{w16, w32, to_be_bytes}
use Rattle.std.specs.List.{flat_map}
use Rattle.class_model.specs.OpcodeNames.{BIPUSH, SIPUSH, LDC, IINC, TABLESWITCH, LOOKUPSWITCH, INVOKEINTERFACE}
use Rattle.class_model.specs.OpcodeNames.{NEWARRAY, WIDE, MULTIANEWARRAY, GOTO_W}

-- a match and its offset, in lookupswitch (JVMS 6.5.lookupswitch)
pub record MatchOffset : Type 0 where
  pub key : ℕ
  pub offset : ℕ

-- an instruction; where several opcodes have these operands, the opcode comes first (JVMS 6.5)
pub data Info : Type 0 where
  Plain : (opcode : ℕ) → Info
  Bipush : (byte : ℕ) → Info
  Sipush : (short : ℕ) → Info
  Ldc : (index : ℕ) → Info
  LdcWide : (opcode index : ℕ) → Info
  Local : (opcode index : ℕ) → Info
  WideLocal : (opcode index : ℕ) → Info
  Iinc : (index const : ℕ) → Info
  WideIinc : (index const : ℕ) → Info
  Branch : (opcode branch : ℕ) → Info
  GotoWide : (branch : ℕ) → Info
  TableSwitch : (pad : List ℕ) → (default low high : ℕ) → (offsets : List ℕ) → Info
  LookupSwitch : (pad : List ℕ) → (default : ℕ) → (pairs : List MatchOffset) → Info
  MemberOperand : (opcode index : ℕ) → Info
  InvokeInterface : (index count : ℕ) → Info
  ClassOperand : (opcode index : ℕ) → Info
  NewArray : (atype : ℕ) → Info
  MultiNewArray : (index dimensions : ℕ) → Info

-- the bytes of a match and its offset (JVMS 6.5.lookupswitch)
abbrev pub match_offset : MatchOffset → List ℕ
match_offset pair = to_be_bytes w32 pair.key ++ to_be_bytes w32 pair.offset

-- the bytes of an instruction (JVMS 6.5)
abbrev pub info_bytes : Info → List ℕ
info_bytes (Plain opcode) = opcode ∷ []
info_bytes (Bipush byte) = BIPUSH ∷ byte ∷ []
info_bytes (Sipush short) = SIPUSH ∷ to_be_bytes w16 short
info_bytes (Ldc index) = LDC ∷ index ∷ []
info_bytes (LdcWide opcode index) = opcode ∷ to_be_bytes w16 index
info_bytes (Local opcode index) = opcode ∷ index ∷ []
info_bytes (WideLocal opcode index) = WIDE ∷ opcode ∷ to_be_bytes w16 index
info_bytes (Iinc index const) = IINC ∷ index ∷ const ∷ []
info_bytes (WideIinc index const) = WIDE ∷ IINC ∷ (to_be_bytes w16 index ++ to_be_bytes w16 const)
info_bytes (Branch opcode branch) = opcode ∷ to_be_bytes w16 branch
info_bytes (GotoWide branch) = GOTO_W ∷ to_be_bytes w32 branch
info_bytes (TableSwitch pad default low high offsets) = TABLESWITCH ∷ (pad ++ (to_be_bytes w32 default
    ++ (to_be_bytes w32 low ++ (to_be_bytes w32 high ++ flat_map (to_be_bytes w32) offsets))))
info_bytes (LookupSwitch pad default pairs) = LOOKUPSWITCH ∷ (pad ++ (to_be_bytes w32 default
    ++ (to_be_bytes w32 (length pairs) ++ flat_map match_offset pairs)))
info_bytes (MemberOperand opcode index) = opcode ∷ to_be_bytes w16 index
info_bytes (InvokeInterface index count) = INVOKEINTERFACE ∷ (to_be_bytes w16 index ++ count ∷ 0 ∷ [])
info_bytes (ClassOperand opcode index) = opcode ∷ to_be_bytes w16 index
info_bytes (NewArray atype) = NEWARRAY ∷ atype ∷ []
info_bytes (MultiNewArray index dimensions) = MULTIANEWARRAY ∷ (to_be_bytes w16 index ++ dimensions ∷ [])

-- how many bytes pad a switch at an offset: its default begins at a multiple of four
-- (JVMS 6.5.tableswitch, 6.5.lookupswitch)
abbrev pub pad_length : ℕ → ℕ
pad_length at = 3 - at % 4

-- where each of these begins, the first at an offset (JVMS 4.7.3)
abbrev pub starts_from : ℕ → List Info → List ℕ
starts_from at [] = []
starts_from at (info ∷ infos) = at ∷ starts_from (at + length (info_bytes info)) infos

-- where each instruction of a code begins (JVMS 4.7.3)
abbrev pub starts_of : List Info → List ℕ
starts_of infos = starts_from 0 infos

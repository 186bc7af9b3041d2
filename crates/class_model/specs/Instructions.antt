-- Which instruction its bytes stand for (JVMS 4.9.1, 6.5).
use Rattle.std.specs.Prelude.{◌≡◌, ◌⊎◌, ℕ, ◌+◌, ◌^◌, ◌<◌, ◌≤◌, ℤ, pos, ◌+ℤ◌, ◌-ℤ◌, ◌<ℤ◌, ◌≤ℤ◌, Bool, true, false, ◌||◌}
use Rattle.std.specs.Prelude.{List, [], ◌∷◌, ◌++◌, length, slice_get, Option, Some, option_map, AllPairs, IsTrue, ◌==◌}
use Rattle.std.specs.Int.{w8, w16, w32, to_be_bytes, cast_signed}
use Rattle.std.specs.List.{AllZip, flat_map}
use Rattle.jv_base.specs.Types.{method_text, IsMethodType, argument_words}
use Rattle.jv_base.specs.declared.types.FieldType.{FieldType}
use Rattle.jv_base.specs.declared.types.MethodType.{MethodType}
use Rattle.format_reading.specs.Spelling.{AllStand}
use Rattle.class_model.specs.declared.pool.Entry.{Entry}
use Rattle.class_model.specs.declared.pool.Entry.TheVariants as entry
use Rattle.class_model.specs.declared.op.MemberRef.{MemberRef}
use Rattle.class_model.specs.declared.op.Case.{Case}
use Rattle.class_model.specs.declared.op.Op.{Op}
use Rattle.class_model.specs.declared.op.Op.TheVariants as op
use Rattle.class_model.specs.declared.class.LeftKind.{LeftKind}
use Rattle.class_model.specs.declared.class.LeftKind.TheVariants as left
use Rattle.class_model.specs.Pool.{IsClassAt}
use Rattle.class_model.specs.ConstantPool.{IsTypeAt, IsFieldrefAt, IsMethodrefAt, IsInterfaceMethodrefAt}
use Rattle.class_model.specs.ConstantPool.{string_units_at}
use Rattle.class_model.specs.Opcodes.{plain_op, local_op, branch_op, field_op, method_op, takes_interface_method}
use Rattle.class_model.specs.Opcodes.{type_op, array_type_of, is_left_out_local, is_left_out_array_type}
use Rattle.class_model.specs.Opcodes.{is_left_out_opcode}
use Rattle.class_model.specs.InstructionStructure.{MatchOffset, Info, Plain, Bipush, Sipush, Ldc, LdcWide, Local}
use Rattle.class_model.specs.InstructionStructure.{WideLocal, Iinc, WideIinc, Branch, GotoWide, TableSwitch}
use Rattle.class_model.specs.InstructionStructure.{LookupSwitch, MemberOperand, InvokeInterface, ClassOperand, NewArray}
use Rattle.class_model.specs.InstructionStructure.{MultiNewArray, info_bytes, pad_length}
use Rattle.class_model.specs.OpcodeNames.{LDC, LDC_W, LDC2_W, INVOKEDYNAMIC, NEW, NEWARRAY, ANEWARRAY, WIDE}

-- ---- operands

-- what an opcode makes of its operand is the instruction
abbrev pub Makes : {A : Type 0} → Option (A → Op) → A → Op → Type 0
Makes table operand o = option_map (λ make. make operand) table ≡ Some o

-- the constant that ldc and ldc_w load: an int or a string (JVMS 6.5.ldc; a class or a float is left out)
abbrev pub IsLoaded : List Entry → ℕ → Op → Type 0
IsLoaded pool index o = ((n : ℤ) × (slice_get pool index ≡ Some (entry.Integer n)) × (o ≡ op.PushInt n))
    ⊎ ((units : List ℕ) × (string_units_at pool index ≡ Some units) × (o ≡ op.PushText units))

-- the constant that ldc2_w loads: a long (JVMS 6.5.ldc2_w; a double is left out)
abbrev pub IsLoadedLong : List Entry → ℕ → Op → Type 0
IsLoadedLong pool index o = (n : ℤ) × (slice_get pool index ≡ Some (entry.Long n)) × (o ≡ op.PushLong n)

-- the instruction on a field or a method, the interface methods of invokeinterface aside (JVMS 4.9.1, 6.5)
abbrev pub IsMember : List Entry → ℕ → ℕ → MemberRef → Op → Type 0
IsMember pool opcode index reference o = IsFieldrefAt pool index reference × Makes (field_op opcode) reference o
    ⊎ IsMethodrefAt pool index reference × Makes (method_op opcode) reference o
    ⊎ IsInterfaceMethodrefAt pool index reference × IsTrue (takes_interface_method opcode)
    × Makes (method_op opcode) reference o

-- invokeinterface: count is the number of argument words with the object's (JVMS 6.5.invokeinterface)
pub record IsInvokeInterface (pool : List Entry) (index count : ℕ) (o : Op) : Type 0 where
  pub reference : MemberRef
  pub refers : IsInterfaceMethodrefAt pool index reference
  pub ty : MethodType
  pub typed : IsMethodType ty
  pub descriptor : reference.ty ≡ method_text ty
  pub count_fits : count < 2 ^ 8
  pub counted : count ≡ argument_words ty.args + 1
  pub is : o ≡ op.InvokeInterface reference

-- an array has at most 255 dimensions, so the elements of a new one have at most 254 (JVMS 4.9.1, anewarray)
abbrev pub IsElementOf : ℕ → FieldType → Type 0
IsElementOf opcode ty = opcode ≡ ANEWARRAY → ty.dims ≤ 254

-- new, of a class; anewarray, checkcast and instanceof, of a class or an array type (JVMS 4.9.1, 6.5)
abbrev pub IsOfType : List Entry → ℕ → ℕ → Op → Type 0
IsOfType pool opcode index o = ((name : List ℕ) × (opcode ≡ NEW) × IsClassAt pool index name × (o ≡ op.New name))
    ⊎ ((ty : FieldType) × (index < 2 ^ 16) × IsTypeAt pool index ty × IsElementOf opcode ty
    × Makes (type_op opcode) ty o)

-- multianewarray (JVMS 4.9.1, 6.5.multianewarray)
pub record IsMultiNewArray (pool : List Entry) (index dimensions : ℕ) (o : Op) : Type 0 where
  pub index_fits : index < 2 ^ 16
  pub ty : FieldType
  pub typed : IsTypeAt pool index ty
  pub least : 0 < dimensions
  pub most : dimensions ≤ ty.dims
  pub is : o ≡ op.MultiNewArray ty dimensions

-- ---- targets

-- Leads says to which instruction an offset of the code leads

-- where a branch leads: a signed number of bytes on from the first of its own instruction (JVMS 6.5)
abbrev pub branch_target : ℕ → ℤ → ℤ
branch_target at branch = pos at +ℤ branch

module _ (Leads : ℤ → ℕ → Type 0) (at : ℕ) where
  -- a branch offset of four bytes leads to an instruction (JVMS 6.5.tableswitch, 6.5.lookupswitch, 6.5.goto_w)
  abbrev pub Leads4 : ℕ → ℕ → Type 0
  Leads4 offset to = (offset < 2 ^ 32) × Leads (branch_target at (cast_signed w32 offset)) to

  -- a match with its offset is a case (JVMS 6.5.lookupswitch)
  pub record IsCase (pair : MatchOffset) (case : Case) : Type 0 where
    pub key_fits : pair.key < 2 ^ 32
    pub key : case.key ≡ cast_signed w32 pair.key
    pub leads : Leads4 pair.offset case.to

  -- tableswitch (JVMS 6.5.tableswitch)
  pub record IsTableSwitch (pad : List ℕ) (default low high : ℕ) (offsets : List ℕ) (o : Op) : Type 0 where
    pub padded : length pad ≡ pad_length at
    pub low_fits : low < 2 ^ 32
    pub high_fits : high < 2 ^ 32
    pub range : cast_signed w32 low ≤ℤ cast_signed w32 high
    pub counted : pos (length offsets) ≡ cast_signed w32 high -ℤ cast_signed w32 low +ℤ pos 1
    pub other : ℕ
    pub other_leads : Leads4 default other
    pub cases : List ℕ
    pub cases_lead : AllZip Leads4 offsets cases
    pub is : o ≡ op.TableSwitch (cast_signed w32 low) other cases

  -- lookupswitch: the keys ascend (JVMS 6.5.lookupswitch)
  pub record IsLookupSwitch (pad : List ℕ) (default : ℕ) (pairs : List MatchOffset) (o : Op) : Type 0 where
    pub padded : length pad ≡ pad_length at
    pub count_fits : length pairs < 2 ^ 31
    pub other : ℕ
    pub other_leads : Leads4 default other
    pub cases : List Case
    pub cases_lead : AllZip IsCase pairs cases
    pub ascending : AllPairs (λ (one other : Case). one.key <ℤ other.key) cases
    pub is : o ≡ op.LookupSwitch other cases

-- ---- instructions

-- the bytes of an instruction at an offset of a code stand for an instruction (JVMS 6.5)
abbrev pub IsOp : (ℤ → ℕ → Type 0) → List Entry → ℕ → Info → Op → Type 0
IsOp Leads pool at (Plain opcode) o = plain_op opcode ≡ Some o
IsOp Leads pool at (Bipush byte) o = (byte < 2 ^ 8) × (o ≡ op.PushInt (cast_signed w8 byte))
IsOp Leads pool at (Sipush short) o = (short < 2 ^ 16) × (o ≡ op.PushInt (cast_signed w16 short))
IsOp Leads pool at (Ldc index) o = (index < 2 ^ 8) × IsLoaded pool index o
IsOp Leads pool at (LdcWide opcode index) o = (index < 2 ^ 16)
    × ((opcode ≡ LDC_W) × IsLoaded pool index o ⊎ (opcode ≡ LDC2_W) × IsLoadedLong pool index o)
IsOp Leads pool at (Local opcode index) o = (index < 2 ^ 8) × Makes (local_op opcode) index o
IsOp Leads pool at (WideLocal opcode index) o = (index < 2 ^ 16) × Makes (local_op opcode) index o
IsOp Leads pool at (Iinc index const) o = (index < 2 ^ 8) × (const < 2 ^ 8) × (o ≡ op.Inc index (cast_signed w8 const))
IsOp Leads pool at (WideIinc index const) o = (index < 2 ^ 16) × (const < 2 ^ 16)
    × (o ≡ op.Inc index (cast_signed w16 const))
IsOp Leads pool at (Branch opcode branch) o = (branch < 2 ^ 16)
    × (to : ℕ) × Leads (branch_target at (cast_signed w16 branch)) to × Makes (branch_op opcode) to o
IsOp Leads pool at (GotoWide branch) o = (to : ℕ) × Leads4 Leads at branch to × (o ≡ op.Goto to)
IsOp Leads pool at (TableSwitch pad default low high offsets) o = IsTableSwitch Leads at pad default low high offsets o
IsOp Leads pool at (LookupSwitch pad default pairs) o = IsLookupSwitch Leads at pad default pairs o
IsOp Leads pool at (MemberOperand opcode index) o = (reference : MemberRef) × IsMember pool opcode index reference o
IsOp Leads pool at (InvokeInterface index count) o = IsInvokeInterface pool index count o
IsOp Leads pool at (ClassOperand opcode index) o = IsOfType pool opcode index o
IsOp Leads pool at (NewArray atype) o = option_map op.NewArray (array_type_of atype) ≡ Some o
IsOp Leads pool at (MultiNewArray index dimensions) o = IsMultiNewArray pool index dimensions o

-- where instructions begin: a target is the number of the one that begins there (JVMS 4.9.1)
abbrev pub Begins : List ℕ → ℤ → ℕ → Type 0
Begins starts target to = (offset : ℕ) × (target ≡ pos offset) × (slice_get starts to ≡ Some offset)

-- ---- what is left out (the project's own: no value of an instruction has it)

-- the entry is a class, a float or a double, which no instruction loads here
abbrev pub is_left_out_load : Entry → Bool
is_left_out_load (entry.Class name_index) = true
is_left_out_load (entry.LeftOut tag) = tag == 4 || tag == 6
is_left_out_load _ = false

-- the index leads to such an entry
abbrev pub IsLeftOutLoad : List Entry → ℕ → Type 0
IsLeftOutLoad pool index = (e : Entry) × (slice_get pool index ≡ Some e) × IsTrue (is_left_out_load e)

-- the bytes up to the one by which an instruction is known to be left out, and its kind
abbrev pub IsLeftOut : List Entry → List ℕ → LeftKind → Type 0
IsLeftOut pool bytes left.Opcode =
    ((opcode : ℕ) × IsTrue (is_left_out_opcode opcode) × (bytes ≡ opcode ∷ []))
    ⊎ ((opcode : ℕ) × IsTrue (is_left_out_local opcode) × (bytes ≡ WIDE ∷ opcode ∷ []))
    ⊎ ((atype : ℕ) × IsTrue (is_left_out_array_type atype) × (bytes ≡ NEWARRAY ∷ atype ∷ []))
IsLeftOut pool bytes left.Constant =
    (bytes ≡ INVOKEDYNAMIC ∷ [])
    ⊎ ((index : ℕ) × (index < 2 ^ 8) × IsLeftOutLoad pool index × (bytes ≡ LDC ∷ index ∷ []))
    ⊎ ((index : ℕ) × (index < 2 ^ 16) × IsLeftOutLoad pool index × (bytes ≡ LDC_W ∷ to_be_bytes w16 index))
    ⊎ ((index : ℕ) × (index < 2 ^ 16) × IsLeftOutLoad pool index × (bytes ≡ LDC2_W ∷ to_be_bytes w16 index))
IsLeftOut pool bytes _ = ⊥

-- an instruction before one that is left out: its targets aren't asked for
abbrev pub IsReadable : List Entry → ℕ → Info → Op → Type 0
IsReadable pool at info o = IsOp (λ target to. Unit {0}) pool at info o

-- instructions, then one that is left out, and then any bytes
pub record IsLeftOutCode (pool : List Entry) (code : List ℕ) (kind : LeftKind) : Type 0 where
  pub infos : List Info
  pub ops : List Op
  pub before : AllStand info_bytes (IsReadable pool) 0 infos ops
  pub bytes : List ℕ
  pub left_out : IsLeftOut pool bytes kind
  pub rest : List ℕ
  pub is : code ≡ flat_map info_bytes infos ++ (bytes ++ rest)

-- The bytes of an instruction are read as it, by the shapes of instructions.
use Rattle.std.proofs.Common.{◌≡◌, ℕ, ◌^◌, ◌<◌, Bool, true, false, cond, eqb, List, [], ◌∷◌, ◌++◌, length, Option, Some}
use Rattle.std.proofs.Common.{None, Result, Ok, Err, refl, sym, ap, ◌∙◌, append_assoc, arith}
use Rattle.std.specs.Prelude.{is_some, slice_get, int_le}
use Rattle.std.specs.Int.{w16, w32, cast_signed, to_be_bytes}
use Rattle.std.specs.List.{flat_map, AllByRecursion}
use Rattle.std.proofs.lemmas.Bool.{lt-ltb}
use Rattle.std.proofs.lemmas.List.Concat.{flat_map-cons}
use Rattle.jv_base.specs.declared.types.FieldType.{FieldType}
use Rattle.jv_base.specs.declared.types.Base.{Base}
use Rattle.format_reading.specs.declared.fault.FormatKind.{FormatKind}
use Rattle.format_reading.specs.declared.fault.FormatKind.TheVariants as bad
use Rattle.format_reading.specs.Reader.{FormatReader, u1, u2, u4, bytes, lead, bind, item, many}
use Rattle.class_model.specs.declared.pool.Entry.{Entry}
use Rattle.class_model.specs.declared.op.MemberRef.{MemberRef}
use Rattle.class_model.specs.declared.op.Op.{Op}
use Rattle.class_model.specs.Lookups.{test, interface_methodref_at, type_at}
use Rattle.class_model.specs.Opcodes.{plain_op, is_left_out_array_type, array_type_of}
use Rattle.class_model.specs.InstructionStructure.{MatchOffset, match_offset, Info, Plain, Bipush, Sipush, Ldc, LdcWide}
use Rattle.class_model.specs.InstructionStructure.{WideLocal, Iinc, WideIinc, Branch, TableSwitch, LookupSwitch}
use Rattle.class_model.specs.InstructionStructure.{MemberOperand, InvokeInterface, ClassOperand, NewArray}
use Rattle.class_model.specs.InstructionStructure.{MultiNewArray, info_bytes, pad_length}
use Rattle.class_model.specs.InstructionMeaning.{loaded, loaded_wide, member_op, class_op}
use Rattle.class_model.specs.ReadingCode.{Read, instruction, begun, widened, whole, one_byte, two_bytes, is_left_out_at}
use Rattle.class_model.specs.ReadingCode.{ldc, ldc_wide, iinc, wide_iinc, table_switch, table_length, table_high}
use Rattle.class_model.specs.ReadingCode.{lookup_switch, lookup_count, lookup_key, ascends, match_offsets, member}
use Rattle.class_model.specs.ReadingCode.{class_operand, invoke_interface, count_at, is_count, array_type_read}
use Rattle.class_model.specs.ReadingCode.{multi_new_array, are_dimensions, load_read, if_meant}
use Rattle.class_model.proofs.BackReaders.{Gets, gets_text, gets_give, gets_u1, gets_u2, gets_u4, gets_bytes, gets_bind}
use Rattle.class_model.proofs.BackReaders.{gets_lead, gets_item, gets_map, gets_many}

pub if_yes : {A : Type 0} (b : Bool) (x y : A) → b ≡ true → cond b x y ≡ x
if_yes true x y h = refl
if_yes false x y h = absurd cc

-- the bytes of the instruction are read as it, at this offset of a code
abbrev pub IsRead : List Entry → ℕ → Info → Type 0
IsRead pool at info = Gets (lead u1 (begun pool at)) (info_bytes info) (instruction info)

module _ (pool : List Entry) (at : ℕ) where
  -- what follows an opcode
  behind : (opcode : ℕ) (r : FormatReader Read) (rest : List ℕ) (y : Read) → opcode < 256 → begun pool at opcode ≡ Ok r
      → Gets r rest y → Gets (lead u1 (begun pool at)) (opcode ∷ rest) y
  behind opcode r rest y lt e g = gets_lead u1 (begun pool at) (opcode ∷ []) rest opcode r y (gets_u1 opcode lt) e g

  pub read_plain : (opcode : ℕ) → opcode < 256 → is_some (plain_op opcode) ≡ true → IsRead pool at (Plain opcode)
  read_plain opcode lt h = behind opcode (whole (Plain opcode)) [] _ lt (if_yes (is_some (plain_op opcode)) _ _ h)
      (gets_give (instruction (Plain opcode)))

  -- one operand of a byte
  pub read_byte : (make : ℕ → Info) (opcode operand : ℕ) → opcode < 256 → begun pool at opcode ≡ Ok (one_byte make)
      → operand < 256
      → Gets (lead u1 (begun pool at)) (opcode ∷ operand ∷ []) (instruction (make operand))
  read_byte make opcode operand lt e fits = behind opcode (one_byte make) (operand ∷ []) _ lt e
      (gets_map u1 (λ n. instruction (make n)) (operand ∷ []) operand (gets_u1 operand fits))

  -- one operand of two bytes
  pub read_two : (make : ℕ → Info) (opcode operand : ℕ) → opcode < 256 → begun pool at opcode ≡ Ok (two_bytes make)
      → operand < 2 ^ 16
      → Gets (lead u1 (begun pool at)) (opcode ∷ to_be_bytes w16 operand) (instruction (make operand))
  read_two make opcode operand lt e fits = behind opcode (two_bytes make) (to_be_bytes w16 operand) _ lt e
      (gets_map u2 (λ n. instruction (make n)) (to_be_bytes w16 operand) operand (gets_u2 operand fits))

  pub read_bipush : (byte : ℕ) → byte < 256 → IsRead pool at (Bipush byte)
  read_bipush byte fits = read_byte (λ n. Bipush n) 0x10 byte (omega arith) refl fits

  pub read_sipush : (short : ℕ) → short < 2 ^ 16 → IsRead pool at (Sipush short)
  read_sipush short fits = read_two (λ n. Sipush n) 0x11 short (omega arith) refl fits

  -- a constant that is loaded
  loads : (opcode index : ℕ) (meaning : Option Op) (info : Info) (o : Op)
      → is_left_out_at (slice_get pool index) ≡ false → meaning ≡ Some o
      → load_read pool opcode index meaning info ≡ Ok (instruction info)
  loads opcode index meaning info o h k = rw (h, k) refl

  pub read_ldc : (index : ℕ) (o : Op) → index < 256 → is_left_out_at (slice_get pool index) ≡ false
      → loaded pool index ≡ Some o → IsRead pool at (Ldc index)
  read_ldc index o fits h k =
      behind 0x12 (ldc pool) (index ∷ []) _ (omega arith) refl
      (gets_item u1 (λ n. load_read pool 0x12 n (loaded pool n) (Ldc n)) (index ∷ []) index _ (gets_u1 index fits)
      (loads 0x12 index (loaded pool index) (Ldc index) o h k))

  pub read_ldc_wide : (opcode index : ℕ) (o : Op) → opcode < 256 → begun pool at opcode ≡ Ok (ldc_wide pool opcode)
      → index < 2 ^ 16 → is_left_out_at (slice_get pool index) ≡ false → loaded_wide opcode pool index ≡ Some o
      → IsRead pool at (LdcWide opcode index)
  read_ldc_wide opcode index o lt e fits h k =
      behind opcode (ldc_wide pool opcode) (to_be_bytes w16 index) _ lt e
      (gets_item u2 (λ n. load_read pool opcode n (loaded_wide opcode pool n) (LdcWide opcode n))
      (to_be_bytes w16 index) index _ (gets_u2 index fits)
      (loads opcode index (loaded_wide opcode pool index) (LdcWide opcode index) o h k))

  pub read_wide_local : (opcode index : ℕ) → opcode < 256 → widened opcode ≡ Ok (two_bytes (λ n. WideLocal opcode n))
      → index < 2 ^ 16 → IsRead pool at (WideLocal opcode index)
  read_wide_local opcode index lt e fits =
      behind 0xC4 (lead u1 widened) (opcode ∷ to_be_bytes w16 index) _ (omega arith) refl
      (gets_lead u1 widened (opcode ∷ []) (to_be_bytes w16 index) opcode (two_bytes (λ n. WideLocal opcode n)) _
      (gets_u1 opcode lt) e
      (gets_map u2 (λ n. instruction (WideLocal opcode n)) (to_be_bytes w16 index) index (gets_u2 index fits)))

  pub read_iinc : (index const : ℕ) → index < 256 → const < 256 → IsRead pool at (Iinc index const)
  read_iinc index const one two =
      behind 0x84 iinc (index ∷ const ∷ []) _ (omega arith) refl
      (gets_bind u1 (λ n. bind u1 (λ k. whole (Iinc n k))) (index ∷ []) (const ∷ []) index _ (gets_u1 index one)
      (gets_map u1 (λ k. instruction (Iinc index k)) (const ∷ []) const (gets_u1 const two)))

  pub read_wide_iinc : (index const : ℕ) → index < 2 ^ 16 → const < 2 ^ 16 → IsRead pool at (WideIinc index const)
  read_wide_iinc index const one two =
      behind 0xC4 (lead u1 widened) (0x84 ∷ (to_be_bytes w16 index ++ to_be_bytes w16 const)) _ (omega arith) refl
      (gets_lead u1 widened (0x84 ∷ []) (to_be_bytes w16 index ++ to_be_bytes w16 const) 0x84 wide_iinc _
      (gets_u1 0x84 (omega arith)) refl
      (gets_bind u2 (λ n. bind u2 (λ k. whole (WideIinc n k))) (to_be_bytes w16 index) (to_be_bytes w16 const) index _
      (gets_u2 index one)
      (gets_map u2 (λ k. instruction (WideIinc index k)) (to_be_bytes w16 const) const (gets_u2 const two))))

  pub read_branch : (opcode offset : ℕ) → opcode < 256 → begun pool at opcode ≡ Ok (two_bytes (λ n. Branch opcode n))
      → offset < 2 ^ 16 → IsRead pool at (Branch opcode offset)
  read_branch opcode offset lt e fits = read_two (λ n. Branch opcode n) opcode offset lt e fits

  -- an operand that has a meaning
  meant : {A B : Type 0} (o : Option A) (x : A) (y : B) → o ≡ Some x → if_meant o y ≡ Ok y
  meant o x y h = rw h refl

  pub read_member : (opcode index : ℕ) (o : Op) → opcode < 256 → begun pool at opcode ≡ Ok (member pool opcode)
      → index < 2 ^ 16 → member_op opcode pool index ≡ Some o → IsRead pool at (MemberOperand opcode index)
  read_member opcode index o lt e fits h =
      behind opcode (member pool opcode) (to_be_bytes w16 index) _ lt e
      (gets_item u2 (λ n. if_meant (member_op opcode pool n) (instruction (MemberOperand opcode n)))
      (to_be_bytes w16 index) index _ (gets_u2 index fits)
      (meant (member_op opcode pool index) o (instruction (MemberOperand opcode index)) h))

  pub read_class : (opcode index : ℕ) (o : Op) → opcode < 256 → begun pool at opcode ≡ Ok (class_operand pool opcode)
      → index < 2 ^ 16 → class_op opcode pool index ≡ Some o → IsRead pool at (ClassOperand opcode index)
  read_class opcode index o lt e fits h =
      behind opcode (class_operand pool opcode) (to_be_bytes w16 index) _ lt e
      (gets_item u2 (λ n. if_meant (class_op opcode pool n) (instruction (ClassOperand opcode n)))
      (to_be_bytes w16 index) index _ (gets_u2 index fits)
      (meant (class_op opcode pool index) o (instruction (ClassOperand opcode index)) h))

  pub read_new_array : (atype : ℕ) (b : Base) → atype < 256 → is_left_out_array_type atype ≡ false
      → array_type_of atype ≡ Some b → IsRead pool at (NewArray atype)
  read_new_array atype b fits h k =
      let is : array_type_read atype ≡ Ok (instruction (NewArray atype)) = rw (h, k) refl in
      behind 0xBC (item u1 array_type_read) (atype ∷ []) _ (omega arith) refl
      (gets_item u1 array_type_read (atype ∷ []) atype _ (gets_u1 atype fits) is)

  -- a number that passes a test
  passes : (b : Bool) (n : ℕ) (kind : FormatKind) → b ≡ true
      → (let R : Result ℕ FormatKind = cond b (Ok n) (Err kind) in R) ≡ Ok n
  passes b n kind h = rw h refl

  pub read_multi : (index dimensions : ℕ) (ty : FieldType) → index < 2 ^ 16 → type_at pool index ≡ Some ty
      → dimensions < 256 → are_dimensions (Some ty) dimensions ≡ true → IsRead pool at (MultiNewArray index dimensions)
  read_multi index dimensions ty fits h small k =
      let right : are_dimensions (type_at pool index) dimensions ≡ true = ap (λ o. are_dimensions o dimensions) h ∙ k in
      behind 0xC5 (multi_new_array pool) (to_be_bytes w16 index ++ dimensions ∷ []) _ (omega arith) refl
      (gets_bind (item u2 (λ n. if_meant (type_at pool n) n)) _ (to_be_bytes w16 index) (dimensions ∷ []) index _
      (gets_item u2 (λ n. if_meant (type_at pool n) n) (to_be_bytes w16 index) index index (gets_u2 index fits)
      (meant (type_at pool index) ty index h))
      (gets_map (item u1 _) (λ n. instruction (MultiNewArray index n)) (dimensions ∷ []) dimensions
      (gets_item u1 (λ n. cond (are_dimensions (type_at pool index) n) (Ok n) (Err bad.BadOperand))
      (dimensions ∷ []) dimensions dimensions (gets_u1 dimensions small)
      (passes _ dimensions bad.BadOperand right))))

  pub read_invoke_interface : (index count : ℕ) (reference : MemberRef) → index < 2 ^ 16
      → interface_methodref_at pool index ≡ Some reference → count < 256 → is_count (count_at pool index) count ≡ true
      → IsRead pool at (InvokeInterface index count)
  read_invoke_interface index count reference fits h small k =
      behind 0xB9 (invoke_interface pool) (to_be_bytes w16 index ++ count ∷ 0 ∷ []) _ (omega arith) refl
      (gets_bind (item u2 (λ n. if_meant (interface_methodref_at pool n) n)) _ (to_be_bytes w16 index)
      (count ∷ 0 ∷ []) index _
      (gets_item u2 (λ n. if_meant (interface_methodref_at pool n) n) (to_be_bytes w16 index) index index
      (gets_u2 index fits) (meant (interface_methodref_at pool index) reference index h))
      (gets_bind (item u1 (λ n. cond (is_count (count_at pool index) n) (Ok n) (Err bad.BadOperand))) _ (count ∷ [])
      (0 ∷ []) count _
      (gets_item u1 (λ n. cond (is_count (count_at pool index) n) (Ok n) (Err bad.BadOperand)) (count ∷ []) count count
      (gets_u1 count small) (passes _ count bad.BadOperand k))
      (gets_map (item u1 (λ n. test bad.BadOperand (eqb n 0))) (λ last. instruction (InvokeInterface index count))
      (0 ∷ []) tt
      (gets_item u1 (λ n. test bad.BadOperand (eqb n 0)) (0 ∷ []) 0 tt (gets_u1 0 (omega arith)) refl))))

  -- ---- switches

  pub read_table : (pad : List ℕ) (default low high : ℕ) (offsets : List ℕ) → length pad ≡ pad_length at
      → default < 2 ^ 32 → low < 2 ^ 32 → high < 2 ^ 32
      → int_le (cast_signed w32 low) (cast_signed w32 high) ≡ true → length offsets ≡ table_length low high
      → AllByRecursion (λ n. n < 2 ^ 32) offsets → IsRead pool at (TableSwitch pad default low high offsets)
  read_table pad default low high offsets padded one two three range counted fit =
      behind 0xAA (table_switch at) _ _ (omega arith) refl
      (gets_bind (bytes (pad_length at)) _ pad _ pad _ (gets_bytes (pad_length at) pad padded)
      (gets_bind u4 _ (to_be_bytes w32 default) _ default _ (gets_u4 default one)
      (gets_bind u4 _ (to_be_bytes w32 low) _ low _ (gets_u4 low two)
      (gets_bind (item u4 (table_high low)) _ (to_be_bytes w32 high) _ high _
      (gets_item u4 (table_high low) (to_be_bytes w32 high) high high (gets_u4 high three)
      (passes _ high bad.BadOperand range))
      (gets_map (many (table_length low high) u4) (λ ns. instruction (TableSwitch pad default low high ns))
      (flat_map (to_be_bytes w32) offsets) offsets
      (gets_many (table_length low high) offsets counted fit))))))

-- the keys ascend behind one that may have come before, and all numbers fit
abbrev pub Ascending : Option ℕ → List MatchOffset → Type 0
Ascending previous [] = Unit {0}
Ascending previous (pair ∷ pairs) = (pair.key < 2 ^ 32) × (pair.offset < 2 ^ 32) × (ascends previous pair.key ≡ true)
    × Ascending (Some pair.key) pairs

pub gets_pairs : (pairs : List MatchOffset) (previous : Option ℕ) → Ascending previous pairs
    → Gets (match_offsets (length pairs) previous) (flat_map match_offset pairs) pairs
unfolding match_offsets
gets_pairs [] previous h = gets_give []
gets_pairs (pair ∷ pairs) previous h =
    let key = to_be_bytes w32 pair.key in
    let offset = to_be_bytes w32 pair.offset in
    let rest = flat_map match_offset pairs in
    gets_text _ (key ++ (offset ++ rest)) (flat_map match_offset (pair ∷ pairs)) (pair ∷ pairs)
    (sym (flat_map-cons match_offset pair pairs ∙ append_assoc key offset rest))
    (gets_bind (item u4 (lookup_key previous)) _ key (offset ++ rest) pair.key (pair ∷ pairs)
    (gets_item u4 (lookup_key previous) key pair.key pair.key (gets_u4 pair.key h.0)
    (passes [] 0 (ascends previous pair.key) pair.key bad.BadOperand h.2))
    (gets_bind u4 _ offset rest pair.offset (pair ∷ pairs) (gets_u4 pair.offset h.1)
    (gets_map (match_offsets (length pairs) (Some pair.key)) (λ (others : List MatchOffset). pair ∷ others) rest pairs
    (gets_pairs pairs (Some pair.key) h.3))))

pub read_lookup : (pool : List Entry) (at : ℕ) (pad : List ℕ) (default : ℕ) (pairs : List MatchOffset)
    → length pad ≡ pad_length at → default < 2 ^ 32 → length pairs < 2 ^ 31 → Ascending None pairs
    → IsRead pool at (LookupSwitch pad default pairs)
read_lookup pool at pad default pairs padded one few ascending =
    behind pool at 0xAB (lookup_switch at) _ _ (omega arith) refl
    (gets_bind (bytes (pad_length at)) _ pad _ pad _ (gets_bytes (pad_length at) pad padded)
    (gets_bind u4 _ (to_be_bytes w32 default) _ default _ (gets_u4 default one)
    (gets_bind (item u4 lookup_count) _ (to_be_bytes w32 (length pairs)) _ (length pairs) _
    (gets_item u4 lookup_count (to_be_bytes w32 (length pairs)) (length pairs) (length pairs)
    (gets_u4 (length pairs) (omega arith)) (passes pool at _ (length pairs) bad.BadOperand (lt-ltb _ _ few)))
    (gets_map (match_offsets (length pairs) None) (λ ps. instruction (LookupSwitch pad default ps))
    (flat_map match_offset pairs) pairs
    (gets_pairs pairs None ascending)))))

-- The bytes of a code as it is written are bytes.
use Rattle.std.proofs.Common.{◌≡◌, ℕ, zero, suc, ◌+◌, ◌*◌, ◌<◌, ◌≤◌, Bool, true, false, cond, ◌&&◌, leb, ltb, List, []}
use Rattle.std.proofs.Common.{◌∷◌, ◌++◌, length, Option, Some, ℤ, pos, negsuc, ◌+ℤ◌, refl, sym, ap, subst, arith}
use Rattle.std.specs.Prelude.{replicate, slice_index, option_map}
use Rattle.std.specs.Int.{w8, w16, w32, to_be_bytes, cast_unsigned}
use Rattle.std.specs.Option.{unwrap_or}
use Rattle.std.specs.List.{AllByRecursion, flat_map}
use Rattle.std.proofs.lemmas.Bool.{leb-true, ltb-true, and_parts}
use Rattle.format_reading.proofs.Exact.{IsBytes}
use Rattle.jv_base.specs.Types.{argument_words}
use Rattle.jv_base.specs.declared.types.MethodType.{MethodType}
use Rattle.jv_base.specs.declared.types.Base.{Base}
use Rattle.jv_base.specs.declared.types.Base.TheVariants as base
use Rattle.class_model.specs.declared.constant.PoolConstant.{PoolConstant}
use Rattle.class_model.specs.declared.constant.PoolConstant.TheVariants.{Integer, Long, Str}
use Rattle.class_model.specs.declared.code.Ins.{Ins}
use Rattle.class_model.specs.declared.op.Kind.{Kind}
use Rattle.class_model.specs.declared.op.Kind.TheVariants as kind
use Rattle.class_model.specs.declared.op.Cond.{Cond}
use Rattle.class_model.specs.declared.op.Cond.TheVariants as cond_of
use Rattle.class_model.specs.declared.op.Op.{Op}
use Rattle.class_model.specs.declared.op.Op.TheVariants as op
use Rattle.class_model.specs.Between.{int_between}
use Rattle.class_model.specs.InstructionStructure.{MatchOffset, match_offset, Info, Plain, Bipush, Sipush, Ldc, LdcWide}
use Rattle.class_model.specs.InstructionStructure.{Local, WideLocal, Iinc, WideIinc, Branch, GotoWide, TableSwitch}
use Rattle.class_model.specs.InstructionStructure.{LookupSwitch, MemberOperand, InvokeInterface, ClassOperand, NewArray}
use Rattle.class_model.specs.InstructionStructure.{MultiNewArray, info_bytes, pad_length}
use Rattle.class_model.specs.InstructionMeaning.{count_of}
use Rattle.class_model.specs.CanonicalPool.{index_of}
use Rattle.class_model.specs.CanonicalCode.{kind_number, cond_number, array_type_code, load_constant, is_short}
use Rattle.class_model.specs.CanonicalCode.{is_lconst, op_info, size_of, infos_from, code_bytes}
use Rattle.class_model.specs.WellFormed.{IsGoodOp, HasFewWords}
use Rattle.class_model.specs.OpValues.{IsOpValue}
use Rattle.class_model.proofs.LookupLaw.{method_only}
use Rattle.class_model.proofs.BackNumbers.{byte_fits, byte_below}
use Rattle.class_model.proofs.BackPlain.{is_load, is_store, is_arith, is_neg, is_shift, is_logic, is_conv, is_return}
use Rattle.class_laws.proofs.SpelledLists.{all_both}

-- a byte
abbrev pub IsByte : ℕ → Type 0
IsByte b = b < 256

abbrev pub AreBytes : List ℕ → Type 0
AreBytes bs = AllByRecursion IsByte bs

pub bytes_are : (bs : List ℕ) → AreBytes bs → IsBytes bs
bytes_are [] h i = omega arith
bytes_are (b ∷ bs) h zero = h.0
bytes_are (b ∷ bs) h (suc i) = bytes_are bs h.1 i

-- ---- numbers

pub two : (n : ℕ) → AreBytes (to_be_bytes w16 n)
two n = (omega arith, (omega arith, tt))

pub four : (n : ℕ) → AreBytes (to_be_bytes w32 n)
four n = (omega arith, (omega arith, (omega arith, (omega arith, tt))))

zeros : (n : ℕ) → AreBytes (replicate n 0)
zeros zero = tt
zeros (suc n) = (omega arith, zeros n)

fours : (ns : List ℕ) → AreBytes (flat_map (to_be_bytes w32) ns)
fours [] = tt
fours (n ∷ ns) = all_both IsByte (to_be_bytes w32 n) (flat_map (to_be_bytes w32) ns) (four n) (fours ns)

pairs_are : (ps : List MatchOffset) → AreBytes (flat_map match_offset ps)
pairs_are [] = tt
pairs_are (p ∷ ps) = all_both IsByte (match_offset p) (flat_map match_offset ps)
    (all_both IsByte (to_be_bytes w32 p.key) (to_be_bytes w32 p.offset) (four p.key) (four p.offset)) (pairs_are ps)

-- ---- one instruction

-- its numbers of one byte fit
abbrev FitsBytes : Info → Type 0
FitsBytes (Plain opcode) = opcode < 256
FitsBytes (Bipush byte) = byte < 256
FitsBytes (Sipush short) = Unit {0}
FitsBytes (Ldc index) = index < 256
FitsBytes (LdcWide opcode index) = opcode < 256
FitsBytes (Local opcode index) = (opcode < 256) × (index < 256)
FitsBytes (WideLocal opcode index) = opcode < 256
FitsBytes (Iinc index const) = (index < 256) × (const < 256)
FitsBytes (WideIinc index const) = Unit {0}
FitsBytes (Branch opcode branch) = opcode < 256
FitsBytes (GotoWide branch) = Unit {0}
FitsBytes (TableSwitch pad default low high offsets) = AreBytes pad
FitsBytes (LookupSwitch pad default pairs) = AreBytes pad
FitsBytes (MemberOperand opcode index) = opcode < 256
FitsBytes (InvokeInterface index count) = count < 256
FitsBytes (ClassOperand opcode index) = opcode < 256
FitsBytes (NewArray atype) = atype < 256
FitsBytes (MultiNewArray index dimensions) = dimensions < 256

join : (xs ys : List ℕ) → AreBytes xs → AreBytes ys → AreBytes (xs ++ ys)
join xs ys h k = all_both IsByte xs ys h k

info_is : (info : Info) → FitsBytes info → AreBytes (info_bytes info)
info_is (Plain opcode) h = (h, tt)
info_is (Bipush byte) h = (omega arith, (h, tt))
info_is (Sipush short) h = (omega arith, two short)
info_is (Ldc index) h = (omega arith, (h, tt))
info_is (LdcWide opcode index) h = (h, two index)
info_is (Local opcode index) h = (h.0, (h.1, tt))
info_is (WideLocal opcode index) h = (omega arith, (h, two index))
info_is (Iinc index const) h = (omega arith, (h.0, (h.1, tt)))
info_is (WideIinc index const) h =
    (omega arith, (omega arith, join (to_be_bytes w16 index) (to_be_bytes w16 const) (two index) (two const)))
info_is (Branch opcode branch) h = (h, two branch)
info_is (GotoWide branch) h = (omega arith, four branch)
info_is (TableSwitch pad default low high offsets) h = (
  omega arith,
  join pad _ h
      (join (to_be_bytes w32 default)
      (to_be_bytes w32 low ++ (to_be_bytes w32 high ++ flat_map (to_be_bytes w32) offsets)) (four default)
      (join (to_be_bytes w32 low) (to_be_bytes w32 high ++ flat_map (to_be_bytes w32) offsets) (four low)
      (join (to_be_bytes w32 high) (flat_map (to_be_bytes w32) offsets) (four high) (fours offsets)))),
)
info_is (LookupSwitch pad default pairs) h = (
  omega arith,
  join pad _ h
      (join (to_be_bytes w32 default) (to_be_bytes w32 (length pairs) ++ flat_map match_offset pairs) (four default)
      (join (to_be_bytes w32 (length pairs)) (flat_map match_offset pairs) (four (length pairs)) (pairs_are pairs))),
)
info_is (MemberOperand opcode index) h = (h, two index)
info_is (InvokeInterface index count) h =
    (omega arith, join (to_be_bytes w16 index) (count ∷ 0 ∷ []) (two index) (h, (omega arith, tt)))
info_is (ClassOperand opcode index) h = (h, two index)
info_is (NewArray atype) h = (omega arith, (h, tt))
info_is (MultiNewArray index dimensions) h =
    (omega arith, join (to_be_bytes w16 index) (dimensions ∷ []) (two index) (h, tt))

-- ---- as it is written

-- iconst_<i>
small_numeral : (n : ℤ) → int_between (negsuc 0) (pos 5) n ≡ true → cast_unsigned w8 (n +ℤ pos 3) < 256
small_numeral (pos zero) h = omega arith
small_numeral (pos (suc zero)) h = omega arith
small_numeral (pos (suc (suc zero))) h = omega arith
small_numeral (pos (suc (suc (suc zero)))) h = omega arith
small_numeral (pos (suc (suc (suc (suc zero))))) h = omega arith
small_numeral (pos (suc (suc (suc (suc (suc zero)))))) h = omega arith
small_numeral (pos (suc (suc (suc (suc (suc (suc n))))))) h = let g = leb-true _ _ h in absurd (omega arith)
small_numeral (negsuc zero) h = omega arith
small_numeral (negsuc (suc n)) h = let t = and_parts
    (leb (suc n) 0) true h in let g : suc n ≤ 0 = leb-true _ _ t.0 in absurd (omega arith)

numeral_by : (b : Bool) (n : ℤ) → is_lconst n ≡ b
    → FitsBytes (cond b (Plain (0x09 + cast_unsigned w8 n)) (LdcWide 0x14 0))
numeral_by true (pos zero) e = omega arith
numeral_by true (pos (suc zero)) e = omega arith
numeral_by true (pos (suc (suc n))) e =
    let t = and_parts (leb 0 (suc (suc n))) (leb (suc (suc n)) 1) e in
    let g : suc (suc n) ≤ 1 = leb-true _ _ t.1 in
    absurd (omega arith)
numeral_by true (negsuc n) e = absurd cc
numeral_by false n e = omega arith

load_by : (b : Bool) (index : ℕ) → leb index 255 ≡ b → FitsBytes (cond b (Ldc index) (LdcWide 0x13 index))
load_by true index e = let g : index ≤ 255 = leb-true _ _ e in omega arith
load_by false index e = omega arith

int_by : (a b c : Bool) (pool : List PoolConstant) (n : ℤ) → int_between (negsuc 0) (pos 5) n ≡ a
    → int_between (negsuc 127) (pos 127) n ≡ b
    → FitsBytes (cond a (Plain (cast_unsigned w8 (n +ℤ pos 3)))
    (cond b (Bipush (cast_unsigned w8 n)) (cond c (Sipush (cast_unsigned w16 n)) (load_constant pool (Integer n)))))
int_by true b c pool n e f = small_numeral n e
int_by false true c pool n e f = byte_below n (byte_fits n f)
int_by false false true pool n e f = tt
int_by false false false pool n e f = load_by (leb (index_of pool (Integer n)) 255) (index_of pool (Integer n)) refl

long_by : (b : Bool) (pool : List PoolConstant) (n : ℤ) → is_lconst n ≡ b
    → FitsBytes (cond b (Plain (0x09 + cast_unsigned w8 n)) (LdcWide 0x14 (index_of pool (Long n))))
long_by true pool n e = numeral_by true n e
long_by false pool n e = omega arith

kind_small : (k : Kind) → kind_number k ≤ 4
kind_small kind.Int = omega arith
kind_small kind.Long = omega arith
kind_small kind.Ref = omega arith

slot_by : (a b : Bool) (opcode first : ℕ) (k : Kind) (slot : ℕ) → opcode < 64 → first < 64 → ltb slot 4 ≡ a
    → ltb slot 256 ≡ b
    → FitsBytes (cond a (Plain (first + (4 * kind_number k + slot)))
    (cond b (Local (opcode + kind_number k) slot) (WideLocal (opcode + kind_number k) slot)))
slot_by true b opcode first k slot o f e g = let s : slot < 4 = ltb-true _ _ e in let m = kind_small k in omega
    (arith, s, m, f)
slot_by false true opcode first k slot o f e g = let s : slot < 256 = ltb-true _ _ g in let m = kind_small k in
    (omega (arith, m, o), s)
slot_by false false opcode first k slot o f e g = let m = kind_small k in omega (arith, m, o)

inc_by : (b : Bool) (slot : ℕ) (delta : ℤ) → (ltb slot 256 && int_between (negsuc 127) (pos 127) delta) ≡ b
    → FitsBytes (cond b (Iinc slot (cast_unsigned w8 delta)) (WideIinc slot (cast_unsigned w16 delta)))
inc_by true slot delta e = let t = and_parts (ltb slot 256) (int_between (negsuc 127) (pos 127) delta) e in
    (ltb-true slot 256 t.0, byte_below delta (byte_fits delta t.1))
inc_by false slot delta e = tt

cond_small : (c : Cond) → cond_number c ≤ 5
cond_small cond_of.Eq = omega arith
cond_small cond_of.Ne = omega arith
cond_small cond_of.Lt = omega arith
cond_small cond_of.Ge = omega arith
cond_small cond_of.Gt = omega arith
cond_small cond_of.Le = omega arith

either_small : (b : Bool) (x y : ℕ) → x < 256 → y < 256 → cond b x y < 256
either_small true x y h k = h
either_small false x y h k = k

array_small : (b : Base) → array_type_code b < 256
array_small base.Boolean = omega arith
array_small base.Byte = omega arith
array_small base.Char = omega arith
array_small base.Short = omega arith
array_small base.Int = omega arith
array_small base.Long = omega arith
array_small base.Float = omega arith
array_small base.Double = omega arith
array_small (base.Class name) = omega arith

module _ (pool : List PoolConstant) (place : ℕ → ℕ) (at : ℕ) where
  pub op_is : (n : ℕ) (o : Op) → IsGoodOp n o → HasFewWords o → IsOpValue o → FitsBytes (op_info pool place at o)
  op_is n op.Nop good words value = omega arith
  op_is n op.PushNull good words value = omega arith
  op_is n (op.PushInt z) good words value = int_by (int_between (negsuc 0) (pos 5) z)
      (int_between (negsuc 127) (pos 127) z) (is_short z) pool z refl refl
  op_is n (op.PushLong z) good words value = long_by (is_lconst z) pool z refl
  op_is n (op.PushText units) good words value = load_by (leb (index_of pool (Str units)) 255)
      (index_of pool (Str units)) refl
  op_is n (op.Load k slot) good words value = slot_by (ltb slot 4) (ltb slot 256) 0x15 0x1A k slot (omega arith)
      (omega arith) refl refl
  op_is n (op.Store k slot) good words value = slot_by (ltb slot 4) (ltb slot 256) 0x36 0x3B k slot (omega arith)
      (omega arith) refl refl
  op_is n (op.Inc slot delta) good words value = inc_by
      (ltb slot 256 && int_between (negsuc 127) (pos 127) delta) slot delta refl
  op_is n (op.ALoad e) good words value = (is_load e).0
  op_is n (op.AStore e) good words value = (is_store e).0
  op_is n op.Pop good words value = omega arith
  op_is n op.Pop2 good words value = omega arith
  op_is n op.Dup good words value = omega arith
  op_is n op.DupX1 good words value = omega arith
  op_is n op.DupX2 good words value = omega arith
  op_is n op.Dup2 good words value = omega arith
  op_is n op.Dup2X1 good words value = omega arith
  op_is n op.Dup2X2 good words value = omega arith
  op_is n op.Swap good words value = omega arith
  op_is n (op.Arith a k) good words value = (is_arith a k).0
  op_is n (op.Neg k) good words value = (is_neg k).0
  op_is n (op.Shift s k) good words value = (is_shift s k).0
  op_is n (op.Logic l k) good words value = (is_logic l k).0
  op_is n (op.Conv c) good words value = (is_conv c).0
  op_is n op.LCmp good words value = omega arith
  op_is n (op.IfZero c to) good words value = omega (arith, cond_small c)
  op_is n (op.IfCmp c to) good words value = omega (arith, cond_small c)
  op_is n (op.IfRef eq to) good words value = either_small eq 0xA5 0xA6 (omega arith) (omega arith)
  op_is n (op.IfNull null to) good words value = either_small null 0xC6 0xC7 (omega arith) (omega arith)
  op_is n (op.Goto to) good words value = omega arith
  op_is n (op.TableSwitch low other cases) good words value = zeros (pad_length at)
  op_is n (op.LookupSwitch other cases) good words value = zeros (pad_length at)
  op_is n (op.Return k) good words value = (is_return k).0
  op_is n (op.GetStatic r) good words value = omega arith
  op_is n (op.PutStatic r) good words value = omega arith
  op_is n (op.GetField r) good words value = omega arith
  op_is n (op.PutField r) good words value = omega arith
  op_is n (op.InvokeVirtual r) good words value = omega arith
  op_is n (op.InvokeSpecial r) good words value = omega arith
  op_is n (op.InvokeStatic r) good words value = omega arith
  op_is n (op.InvokeInterface r) good words value =
      let d = good.0.descriptor in
      let small : argument_words d.0.args ≤ 254 = words d.0 d.1 d.2 in
      let count : count_of r ≡ Some (argument_words d.0.args + 1) = ap
      (option_map (λ (t : MethodType). argument_words t.args + 1)) (method_only r.ty d.0 d.1 d.2) in
      subst (λ (o : Option ℕ). unwrap_or o 0 < 256) (sym count) (omega (arith, small))
  op_is n (op.New name) good words value = omega arith
  op_is n (op.NewArray b) good words value = array_small b
  op_is n (op.ANewArray ty) good words value = omega arith
  op_is n op.ArrayLength good words value = omega arith
  op_is n op.Throw good words value = omega arith
  op_is n (op.CheckCast ty) good words value = omega arith
  op_is n (op.InstanceOf ty) good words value = omega arith
  op_is n (op.MultiNewArray ty dimensions) good words value = omega (arith, good.0.dimensions, good.2)

-- ---- all of them

module _ (n : ℕ) (pool : List PoolConstant) (all : List ℕ) where
  infos_are : (ins : List Ins) (at : ℕ) → AllByRecursion (λ (i : Ins). IsGoodOp n i.op) ins
      → AllByRecursion (λ (i : Ins). HasFewWords i.op) ins → AllByRecursion (λ (i : Ins). IsOpValue i.op) ins
      → AreBytes (flat_map info_bytes (infos_from pool all at ins))
  infos_are [] at good words values = tt
  infos_are (i ∷ ins) at good words values =
      let info = op_info pool (slice_index all) at i.op in
      join (info_bytes info) (flat_map info_bytes (infos_from pool all (at + size_of pool at i.op) ins))
      (info_is info (op_is pool (slice_index all) at n i.op good.0 words.0 values.0))
      (infos_are ins (at + size_of pool at i.op) good.1 words.1 values.1)

  -- the bytes of a code
  pub code_is_bytes : (ins : List Ins) → AllByRecursion (λ (i : Ins). IsGoodOp n i.op) ins
      → AllByRecursion (λ (i : Ins). HasFewWords i.op) ins → AllByRecursion (λ (i : Ins). IsOpValue i.op) ins
      → IsBytes (code_bytes pool all ins)
  unfolding code_bytes
  code_is_bytes ins good words values = bytes_are (code_bytes pool all ins) (infos_are ins 0 good words values)

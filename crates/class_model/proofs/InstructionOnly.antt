-- An instruction that is right, or one that is left out, is read where it stands.
use Rattle.std.proofs.Common.{◌≡◌, ◌⊎◌, inl, inr, ℕ, ◌+◌, ◌-◌, ◌<◌, ◌≤◌, Bool, true, false, cond, eqb, ◌||◌, List, []}
use Rattle.std.proofs.Common.{◌∷◌, ◌++◌, length, Option, Some, None, Ok, refl, sym, ap, subst, ◌∙◌, arith}
use Rattle.std.specs.Prelude.{is_some, slice_get, option_map, option_and_then, nat_le}
use Rattle.std.specs.Int.{w8, w16, w32, to_be_bytes}
use Rattle.std.proofs.lemmas.Bool.{eqb-true, cases_lt}
use Rattle.std.proofs.lemmas.Bool.Decides.{nat_tests}
use Rattle.jv_base.specs.Place.{Place}
use Rattle.jv_base.specs.declared.types.FieldType.{FieldType}
use Rattle.format_reading.specs.Spelling.{Spells}
use Rattle.format_reading.proofs.Exact.{Exact, Takes, Both, Below}
use Rattle.class_model.specs.declared.pool.Entry.{Entry}
use Rattle.class_model.specs.declared.op.Op.{Op}
use Rattle.class_model.specs.declared.op.Op.TheVariants as op
use Rattle.class_model.specs.declared.op.MemberRef.{MemberRef}
use Rattle.class_model.specs.Between.{between}
use Rattle.class_model.specs.Opcodes.{plain_op, ending_op, local_op, branch_op, field_op, method_op, type_op}
use Rattle.class_model.specs.Opcodes.{array_type_of, is_left_out_local, is_left_out_array_type, is_left_out_opcode}
use Rattle.class_model.specs.Lookups.{value_of, class_at, type_at}
use Rattle.class_model.specs.InstructionStructure.{Info, Plain, Bipush, Sipush, Ldc, LdcWide, Local, WideLocal, Iinc}
use Rattle.class_model.specs.InstructionStructure.{WideIinc, Branch, GotoWide, TableSwitch, LookupSwitch, MemberOperand}
use Rattle.class_model.specs.InstructionStructure.{InvokeInterface, ClassOperand, NewArray, MultiNewArray, info_bytes}
use Rattle.class_model.specs.InstructionMeaning.{loaded, loaded_wide, member_op, member_made, class_op, can_be_operand}
use Rattle.class_model.specs.InstructionMeaning.{of_type}
use Rattle.class_model.specs.ReadingCode.{Read, instruction, left_out, is_left_out_at, load_read, at_instruction}
use Rattle.class_model.specs.ReadingCode.{read_instruction, is_member_opcode, is_class_opcode}
use Rattle.class_model.proofs.InstructionForms.{Form, Alone, OfByte, OfShort, OfLoad, OfWideLoad, OfLocal, OfIinc}
use Rattle.class_model.proofs.InstructionForms.{OfWide, OfBranch, OfWideGoto, OfTable, OfLookup, OfMember, OfInterface}
use Rattle.class_model.proofs.InstructionForms.{OfClass, OfArray, OfArrays, OfNone, form_of, all_below, below_at}
use Rattle.class_model.proofs.InstructionForms.{implied, WideForm, WideOfIinc, WideOfNone, WideOfLocal, wide_form_of}
use Rattle.class_model.proofs.InstructionOperands.{Operands, WideOperands, BehindOpcode, opcode_bytes, opcode_exact}
use Rattle.class_model.proofs.InstructionOperands.{is_meant}
use Rattle.class_model.proofs.InstructionRead.{IsRight, LeftInfo, LeftOpcode, LeftLocal, LeftArray, LeftLoad}
use Rattle.class_model.proofs.InstructionRead.{LeftWideLoad, left_bytes, left_opcode, IsLeft, IsRead, byte_is, head_is}
use Rattle.class_model.proofs.InstructionRead.{read_found}

-- ---- the forms of opcodes that tables tell

-- which form it is
abbrev is_local_form : Form → Bool
is_local_form OfLocal = true
is_local_form _ = false

abbrev is_branch_form : Form → Bool
is_branch_form OfBranch = true
is_branch_form _ = false

abbrev is_member_form : Form → Bool
is_member_form OfMember = true
is_member_form _ = false

abbrev is_class_form : Form → Bool
is_class_form OfClass = true
is_class_form _ = false

abbrev is_none_form : Form → Bool
is_none_form OfNone = true
is_none_form _ = false

abbrev is_wide_none : WideForm → Bool
is_wide_none WideOfNone = true
is_wide_none _ = false

abbrev is_wide_local : WideForm → Bool
is_wide_local WideOfLocal = true
is_wide_local _ = false

local_is : (f : Form) → is_local_form f ≡ true → f ≡ OfLocal
local_is OfLocal h = refl
local_is _ h = absurd cc

branch_is : (f : Form) → is_branch_form f ≡ true → f ≡ OfBranch
branch_is OfBranch h = refl
branch_is _ h = absurd cc

member_is : (f : Form) → is_member_form f ≡ true → f ≡ OfMember
member_is OfMember h = refl
member_is _ h = absurd cc

class_is : (f : Form) → is_class_form f ≡ true → f ≡ OfClass
class_is OfClass h = refl
class_is _ h = absurd cc

none_is : (f : Form) → is_none_form f ≡ true → f ≡ OfNone
none_is OfNone h = refl
none_is _ h = absurd cc

wide_none_is : (f : WideForm) → is_wide_none f ≡ true → f ≡ WideOfNone
wide_none_is WideOfNone h = refl
wide_none_is _ h = absurd cc

wide_local_is : (f : WideForm) → is_wide_local f ≡ true → f ≡ WideOfLocal
wide_local_is WideOfLocal h = refl
wide_local_is _ h = absurd cc

-- a test that a number passes only below 256
small_if : (c : ℕ) (test : Bool) → (256 ≤ c → test ≡ false) → test ≡ true → c < 256
small_if c test above h = elim
    (cases_lt c 256) [ inl lt ↦ lt | inr le ↦ absurd (let e : test ≡ false = above le in cc) ]

local_small : (c : ℕ) → is_some (local_op c) ≡ true → c < 256
local_small c h = small_if c (is_some (local_op c)) (λ le. grind (arith, nat_tests)) h

branch_small : (c : ℕ) → is_some (branch_op c) ≡ true → c < 256
branch_small c h = small_if c (is_some (branch_op c)) (λ le. grind (arith, nat_tests)) h

member_small : (c : ℕ) → is_member_opcode c ≡ true → c < 256
member_small c h = small_if c (is_member_opcode c) (λ le. grind (arith, nat_tests)) h

class_small : (c : ℕ) → is_class_opcode c ≡ true → c < 256
class_small c h = small_if c (is_class_opcode c) (λ le. grind (arith, nat_tests)) h

pub above : (c low high : ℕ) → high < c → between low high c ≡ false
above c low high lt = grind (arith, nat_tests)

pub none_ends : (c : ℕ) → 256 ≤ c → ending_op c ≡ None
none_ends c le = grind (arith, nat_tests)

pub none_alone : (c : ℕ) → 256 ≤ c → plain_op c ≡ None
none_alone c le =
    let f0 : nat_le c 0x0A ≡ false = grind (arith, nat_tests) in
    let f1 = above c 0x1A 0x2D (omega (arith, le)) in
    let f2 = above c 0x2E 0x35 (omega (arith, le)) in
    let f3 = above c 0x3B 0x4E (omega (arith, le)) in
    let f4 = above c 0x4F 0x56 (omega (arith, le)) in
    let f5 = above c 0x57 0x5F (omega (arith, le)) in
    let f6 = above c 0x60 0x77 (omega (arith, le)) in
    let f7 = above c 0x78 0x83 (omega (arith, le)) in
    let f8 = above c 0x85 0x94 (omega (arith, le)) in
    rw (f0, f1, f2, f3, f4, f5, f6, f7, f8) (none_ends c le)

plain_small : (c : ℕ) → is_some (plain_op c) ≡ true → c < 256
plain_small c h = small_if c (is_some (plain_op c)) (λ le. ap is_some (none_alone c le)) h

left_local_small : (c : ℕ) → is_left_out_local c ≡ true → c < 256
left_local_small c h = small_if c (is_left_out_local c) (λ le. grind (arith, nat_tests)) h

pub none_small : (c : ℕ) → (eqb c 0xBA || is_left_out_opcode c) ≡ true → c < 256
none_small c h = small_if c (eqb c 0xBA || is_left_out_opcode c) (λ le. grind (arith, nat_tests)) h

local_form : (c : ℕ) → is_some (local_op c) ≡ true → form_of c ≡ OfLocal
unfolding all_below form_of
local_form c h = local_is (form_of c)
    (implied (is_some (local_op c)) _
    (below_at 256 (λ n. cond (is_some (local_op n)) (is_local_form (form_of n)) true) c (local_small c h) refl) h)

branch_form : (c : ℕ) → is_some (branch_op c) ≡ true → form_of c ≡ OfBranch
unfolding all_below form_of
branch_form c h = branch_is (form_of c)
    (implied (is_some (branch_op c)) _
    (below_at 256 (λ n. cond (is_some (branch_op n)) (is_branch_form (form_of n)) true) c (branch_small c h) refl) h)

member_form : (c : ℕ) → is_member_opcode c ≡ true → form_of c ≡ OfMember
unfolding all_below form_of
member_form c h = member_is (form_of c)
    (implied (is_member_opcode c) _
    (below_at 256 (λ n. cond (is_member_opcode n) (is_member_form (form_of n)) true) c (member_small c h) refl) h)

class_form : (c : ℕ) → is_class_opcode c ≡ true → form_of c ≡ OfClass
unfolding all_below form_of
class_form c h = class_is (form_of c)
    (implied (is_class_opcode c) _
    (below_at 256 (λ n. cond (is_class_opcode n) (is_class_form (form_of n)) true) c (class_small c h) refl) h)

none_form : (c : ℕ) → (eqb c 0xBA || is_left_out_opcode c) ≡ true → form_of c ≡ OfNone
unfolding all_below form_of
none_form c h = none_is (form_of c)
    (implied (eqb c 0xBA || is_left_out_opcode c) _
    (below_at 256 (λ n. cond (eqb n 0xBA || is_left_out_opcode n) (is_none_form (form_of n)) true) c
    (none_small c h) refl) h)

wide_none_form : (c : ℕ) → is_left_out_local c ≡ true → wide_form_of c ≡ WideOfNone
unfolding all_below wide_form_of
wide_none_form c h = wide_none_is (wide_form_of c)
    (implied (is_left_out_local c) _
    (below_at 256 (λ n. cond (is_left_out_local n) (is_wide_none (wide_form_of n)) true) c
    (left_local_small c h) refl) h)

wide_local_form : (c : ℕ) → is_some (local_op c) ≡ true → wide_form_of c ≡ WideOfLocal
unfolding all_below wide_form_of
wide_local_form c h = wide_local_is (wide_form_of c)
    (implied (is_some (local_op c)) _
    (below_at 256 (λ n. cond (is_some (local_op n)) (is_wide_local (wide_form_of n)) true) c (local_small c h) refl) h)

plain_form : (c : ℕ) → is_some (plain_op c) ≡ true → form_of c ≡ Alone
unfolding form_of
plain_form c h = rw h refl

-- ---- what stands behind an opcode

-- the opcode of a member instruction
member_opcode : (c : ℕ) (pool : List Entry) (index : ℕ) → is_some (member_op c pool index) ≡ true
    → is_member_opcode c ≡ true
member_opcode c pool index h = by (field_op c) (method_op c) h
  where
    by : (f m : Option (MemberRef → Op)) → is_some (member_made f m c pool index) ≡ true
        → (is_some f || is_some m) ≡ true
    by (Some f) m h = refl
    by None (Some m) h = refl
    by None None h = absurd cc

-- the opcode of an instruction on a class
class_opcode : (c : ℕ) (pool : List Entry) (index : ℕ) → is_some (class_op c pool index) ≡ true
    → is_class_opcode c ≡ true
class_opcode c pool index h = by (eqb c 0xBB) (type_at pool index) h
  where
    made : (b : Bool) (t : Option (FieldType → Op)) (ty : FieldType)
        → is_some (cond b (option_map (λ make. make ty) t) None) ≡ true → is_some t ≡ true
    made true (Some make) ty h = refl
    made true None ty h = absurd cc
    made false t ty h = absurd cc

    by : (b : Bool) (ty : Option FieldType)
        → is_some (cond b (option_map (λ name. op.New name) (value_of (class_at pool index)))
        (option_and_then (of_type c) ty)) ≡ true → (b || is_some (type_op c)) ≡ true
    by true ty h = refl
    by false (Some ty) h = made (can_be_operand c ty) (type_op c) ty h
    by false None h = absurd cc

-- an opcode and its operands
abbrev Parts : List Entry → ℕ → ℕ → List ℕ → Read → Type 0
Parts pool at = Spells opcode_bytes (Both (to_be_bytes w8) (Below 256) (BehindOpcode pool at))

-- the operands of an opcode's form
parts : (pool : List Entry) (at o c : ℕ) (t u : List ℕ) (y : Read) (f : Form) → c < 256 → form_of c ≡ f → u ≡ t
    → ((k : ℕ) → Operands pool at c f k t y) → Parts pool at o (c ∷ u) y
parts pool at o c t u y f lt e same h = (
  (c, t),
  ap (λ (v : List ℕ). c ∷ v) same
      ∙ sym (head_is c t t lt refl),
  (
    c,
    (lt, refl),
    subst (λ (g : Form). Operands pool at c g (o + length (to_be_bytes w8 c)) t y) (sym e)
        (h (o + length (to_be_bytes w8 c))),
  ),
)

-- behind wide
wide_parts : (pool : List Entry) (at o c : ℕ) (t u : List ℕ) (y : Read) (f : WideForm) → c < 256 → wide_form_of c ≡ f
    → u ≡ t → ((k : ℕ) → WideOperands c f k t y) → Parts pool at o (0xC4 ∷ c ∷ u) y
unfolding form_of
wide_parts pool at o c t u y f lt e same h =
    parts pool at o 0xC4 (to_be_bytes w8 c ++ t) (c ∷ u) y OfWide (omega arith) refl
    (ap (λ (v : List ℕ). c ∷ v) same ∙ sym (head_is c t t lt refl))
    (λ k. (
      (c, t),
      refl,
      (
        c,
        (lt, refl),
        subst (λ (g : WideForm). WideOperands c g (k + length (to_be_bytes w8 c)) t y)
            (sym e) (h (k + length (to_be_bytes w8 c))),
      ),
    ))

loads : (pool : List Entry) (c index : ℕ) (meaning : Option Op) (info : Info)
    → is_left_out_at (slice_get pool index) ≡ false → is_some meaning ≡ true
    → load_read pool c index meaning info ≡ Ok (instruction info)
loads pool c index meaning info h k = rw h (is_meant meaning (instruction info) k)

leaves : (pool : List Entry) (c index : ℕ) (meaning : Option Op) (info : Info)
    → is_left_out_at (slice_get pool index) ≡ true → load_read pool c index meaning info ≡ Ok (left_out c)
leaves pool c index meaning info h = rw h refl

-- ldc_w or ldc2_w
pub wide_load : (c : ℕ) → (eqb c 0x13 || eqb c 0x14) ≡ true → (c ≡ 0x13) ⊎ (c ≡ 0x14)
wide_load c h = by (eqb c 0x13) refl h
  where
    by : (b : Bool) → eqb c 0x13 ≡ b → (b || eqb c 0x14) ≡ true → (c ≡ 0x13) ⊎ (c ≡ 0x14)
    by true e h = inl (eqb-true c 0x13 e)
    by false e h = inr (eqb-true c 0x14 h)

wide_load_form : (c : ℕ) → (eqb c 0x13 || eqb c 0x14) ≡ true → (c < 256) × (form_of c ≡ OfWideLoad)
unfolding form_of
wide_load_form c h = elim
    (wide_load c h) [ inl e ↦ (omega (arith, e), ap form_of e) | inr e ↦ (omega (arith, e), ap form_of e) ]

-- an instruction that is right
right_parts : (pool : List Entry) (at o : ℕ) (info : Info) → IsRight pool at info
    → Parts pool at o (info_bytes info) (instruction info)
unfolding form_of wide_form_of
right_parts pool at o (Plain c) h = parts pool at o c [] [] _ Alone (plain_small c h) (plain_form c h) refl
    (λ k. (tt, refl, refl))
right_parts pool at o (Bipush byte) h = parts pool at o 0x10 (to_be_bytes w8 byte) (byte ∷ []) _ OfByte
    (omega arith) refl (sym (byte_is byte h)) (λ k. (byte, refl, (byte, (h, refl), refl)))
right_parts pool at o (Sipush short) h = parts pool at o 0x11 (to_be_bytes w16 short) _ _ OfShort
    (omega arith) refl refl (λ k. (short, refl, (short, (h, refl), refl)))
right_parts pool at o (Ldc index) h =
    parts pool at o 0x12 (to_be_bytes w8 index) (index ∷ []) _ OfLoad (omega arith) refl (sym (byte_is index h.0))
    (λ k. (index, refl, (index, (h.0, refl), loads pool 0x12 index (loaded pool index) (Ldc index) h.1 h.2)))
right_parts pool at o (LdcWide c index) h =
    let f = wide_load_form c h.0 in
    parts pool at o c (to_be_bytes w16 index) _ _ OfWideLoad f.0 f.1 refl
    (λ k. (
      index,
      refl,
      (
        index,
        (h.1, refl),
        loads pool c index (loaded_wide c pool index)
            (LdcWide c index) h.2 h.3,
      ),
    ))
right_parts pool at o (Local c index) h = parts pool at o c (to_be_bytes w8 index) (index ∷ []) _ OfLocal
    (local_small c h.1) (local_form c h.1) (sym (byte_is index h.0)) (λ k. (index, refl, (index, (h.0, refl), refl)))
right_parts pool at o (WideLocal c index) h = wide_parts pool at o c (to_be_bytes w16 index) _ _ WideOfLocal
    (local_small c h.1) (wide_local_form c h.1) refl (λ k. (index, refl, (index, (h.0, refl), refl)))
right_parts pool at o (Iinc index const) h =
    parts pool at o 0x84 (to_be_bytes w8 index ++ to_be_bytes w8 const) (index ∷ const ∷ []) _ OfIinc (omega arith) refl
    (sym (head_is index _ _ h.0 (byte_is const h.1))) (λ k. ((index, const), refl, (h.0, h.1, refl)))
right_parts pool at o (WideIinc index const) h =
    wide_parts pool at o 0x84 (to_be_bytes w16 index ++ to_be_bytes w16 const) _ _ WideOfIinc (omega arith) refl refl
    (λ k. ((index, const), refl, (h.0, h.1, refl)))
right_parts pool at o (Branch c branch) h = parts pool at o c (to_be_bytes w16 branch) _ _ OfBranch (branch_small c h.1)
    (branch_form c h.1) refl (λ k. (branch, refl, (branch, (h.0, refl), refl)))
right_parts pool at o (GotoWide branch) h = parts pool at o 0xC8 (to_be_bytes w32 branch) _ _ OfWideGoto
    (omega arith) refl refl (λ k. (branch, refl, (branch, (h, refl), refl)))
right_parts pool at o (TableSwitch pad default low high offsets) h = parts pool at o 0xAA _ _ _ OfTable
    (omega arith) refl refl (λ k. ((pad, (default, (low, (high, offsets)))), refl, (h, refl)))
right_parts pool at o (LookupSwitch pad default pairs) h = parts pool at o 0xAB _ _ _ OfLookup (omega arith) refl refl
    (λ k. ((pad, (default, pairs)), refl, (h, refl)))
right_parts pool at o (MemberOperand c index) h =
    let m = member_opcode c pool index h.1 in
    parts pool at o c (to_be_bytes w16 index) _ _ OfMember (member_small c m) (member_form c m) refl
    (λ k. (index, refl, (index, (h.0, refl), is_meant (member_op c pool index) _ h.1)))
right_parts pool at o (InvokeInterface index count) h =
    parts pool at o 0xB9 (to_be_bytes w16 index ++ (to_be_bytes w8 count ++ to_be_bytes w8 0)) _ _ OfInterface
    (omega arith) refl (ap (λ (u : List ℕ). to_be_bytes w16 index ++ (u ++ to_be_bytes w8 0))
    (sym (byte_is count h.count_fits)))
    (λ k. ((index, count), refl, (h, refl)))
right_parts pool at o (ClassOperand c index) h =
    let m = class_opcode c pool index h.1 in
    parts pool at o c (to_be_bytes w16 index) _ _ OfClass (class_small c m) (class_form c m) refl
    (λ k. (index, refl, (index, (h.0, refl), is_meant (class_op c pool index) _ h.1)))
right_parts pool at o (NewArray atype) h =
    parts pool at o 0xBC (to_be_bytes w8 atype) (atype ∷ []) _ OfArray (omega arith) refl (sym (byte_is atype h.0))
    (λ k. (
      atype,
      refl,
      (
        atype,
        (h.0, refl),
        (rw h.1 (is_meant (array_type_of atype)
            (instruction (NewArray atype)) h.2)),
      ),
    ))
right_parts pool at o (MultiNewArray index dimensions) h =
    parts pool at o 0xC5 (to_be_bytes w16 index ++ to_be_bytes w8 dimensions) _ _ OfArrays (omega arith) refl
    (ap (λ (u : List ℕ). to_be_bytes w16 index ++ u) (sym (byte_is dimensions h.dimensions_fit)))
    (λ k. ((index, dimensions), refl, (h, refl)))

array_small : (atype : ℕ) → is_left_out_array_type atype ≡ true → atype < 256
array_small atype h = small_if atype (is_left_out_array_type atype) (λ le. grind (arith, nat_tests)) h

-- one that is left out
left_parts : (pool : List Entry) (at o : ℕ) (left : LeftInfo) → IsLeft pool left
    → Parts pool at o (left_bytes left) (left_out (left_opcode left))
unfolding form_of
left_parts pool at o (LeftOpcode c) h = parts pool at o c [] [] _ OfNone (none_small c h) (none_form c h) refl
    (λ k. (tt, refl, refl))
left_parts pool at o (LeftLocal c) h = wide_parts pool at o c [] [] _ WideOfNone (left_local_small c h)
    (wide_none_form c h) refl (λ k. (tt, refl, refl))
left_parts pool at o (LeftArray atype) h =
    parts pool at o 0xBC (to_be_bytes w8 atype) (atype ∷ []) _ OfArray (omega arith) refl
    (sym (byte_is atype (array_small atype h)))
    (λ k. (atype, refl, (atype, (array_small atype h, refl), (rw h refl))))
left_parts pool at o (LeftLoad index) h =
    parts pool at o 0x12 (to_be_bytes w8 index) (index ∷ []) _ OfLoad (omega arith) refl (sym (byte_is index h.0))
    (λ k. (index, refl, (index, (h.0, refl), leaves pool 0x12 index (loaded pool index) (Ldc index) h.1)))
left_parts pool at o (LeftWideLoad c index) h =
    let f = wide_load_form c h.0 in
    parts pool at o c (to_be_bytes w16 index) _ _ OfWideLoad f.0 f.1 refl
    (λ k. (index, refl, (index, (h.1, refl), leaves pool c index (loaded_wide c pool index) (LdcWide c index) h.2)))

read_parts : (pool : List Entry) (at o : ℕ) (text : List ℕ) (y : Read) → IsRead pool at text y → Parts pool at o text y
read_parts pool at o text y (inl h) = subst (λ (t : List ℕ). Parts pool at o t y) (sym h.2)
    (subst (λ (r : Read). Parts pool at o (info_bytes h.0) r) (sym h.1) (right_parts pool at o h.0 h.3))
read_parts pool at o text y (inr h) = subst (λ (t : List ℕ). Parts pool at o t y) (sym h.2)
    (subst (λ (r : Read). Parts pool at o (left_bytes h.0) r) (sym h.1) (left_parts pool at o h.0 h.3))

-- what is right, or left out, is read where it stands
pub read_only : (pool : List Entry) (from : ℕ) (p : Place) (text : List ℕ) (y : Read) (q : Place)
    → IsRead pool (p.at - from) text y → Takes p text q → read_instruction pool from p ≡ Ok (y, q)
unfolding read_instruction
read_only pool from p text y q h k = ap (at_instruction p.at)
    ((opcode_exact pool (p.at - from)).only p text y q (read_parts pool (p.at - from) p.at text y h) k)

-- an instruction is read exactly where it is right, or left out
pub read_exact : (pool : List Entry) (from : ℕ)
    → Exact (read_instruction pool from) (λ at text y. IsRead pool (at - from) text y)
read_exact pool from = record { found = read_found pool from; only = read_only pool from }

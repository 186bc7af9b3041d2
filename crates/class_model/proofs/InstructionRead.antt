-- What is read of an instruction: its bytes, and that its operands are right; or what is left out.
use Rattle.std.proofs.Common.{◌≡◌, ◌⊎◌, inl, inr, ℕ, ◌-◌, ◌^◌, ◌<◌, Bool, true, false, cond, eqb, ◌||◌, List, [], ◌∷◌}
use Rattle.std.proofs.Common.{◌++◌, Option, Result, Ok, Err, refl, sym, ap, subst, ◌∙◌, arith}
use Rattle.std.specs.Prelude.{is_some, slice_get}
use Rattle.std.specs.Int.{w8, w16, to_be_bytes}
use Rattle.std.proofs.lemmas.Bool.{eqb-true}
use Rattle.jv_base.specs.Place.{Place}
use Rattle.format_reading.specs.Reader.{u1, lead}
use Rattle.format_reading.specs.Spelling.{Spells}
use Rattle.format_reading.specs.declared.fault.FormatFault.{FormatFault}
use Rattle.format_reading.specs.declared.fault.FormatKind.{FormatKind}
use Rattle.format_reading.proofs.Exact.{Takes, IsBytes, Both, Below}
use Rattle.class_model.specs.declared.pool.Entry.{Entry}
use Rattle.class_model.specs.Opcodes.{plain_op, local_op, branch_op, array_type_of, is_left_out_local}
use Rattle.class_model.specs.Opcodes.{is_left_out_array_type, is_left_out_opcode}
use Rattle.class_model.specs.InstructionStructure.{Info, Plain, Bipush, Sipush, Ldc, LdcWide, Local, WideLocal, Iinc}
use Rattle.class_model.specs.InstructionStructure.{WideIinc, Branch, GotoWide, TableSwitch, LookupSwitch, MemberOperand}
use Rattle.class_model.specs.InstructionStructure.{InvokeInterface, ClassOperand, NewArray, MultiNewArray, info_bytes}
use Rattle.class_model.specs.InstructionMeaning.{loaded, loaded_wide, member_op, class_op}
use Rattle.class_model.specs.ReadingCode.{Read, instruction, left_out, if_meant, is_left_out_at, load_read}
use Rattle.class_model.specs.ReadingCode.{array_type_read, begun, at_instruction, read_instruction}
use Rattle.class_model.proofs.InstructionForms.{Form, Alone, OfByte, OfShort, OfLoad, OfWideLoad, OfLocal, OfIinc}
use Rattle.class_model.proofs.InstructionForms.{OfWide, OfBranch, OfWideGoto, OfTable, OfLookup, OfMember, OfInterface}
use Rattle.class_model.proofs.InstructionForms.{OfClass, OfArray, OfArrays, OfNone, NoForm, form_of, passes}
use Rattle.class_model.proofs.InstructionForms.{form_passes, WideForm, WideOfIinc, WideOfNone, WideOfLocal, NoWideForm}
use Rattle.class_model.proofs.InstructionForms.{wide_form_of, wide_passes, wide_form_passes}
use Rattle.class_model.proofs.InstructionOperands.{IsTable, IsLookup, IsInterface, IsArrays, Operands, WideOperands}
use Rattle.class_model.proofs.InstructionOperands.{BehindOpcode, opcode_bytes, opcode_exact, meant_ok}

-- ---- what is read

-- the operands of an instruction at an offset of a code are right, targets aside
abbrev pub IsRight : List Entry → ℕ → Info → Type 0
IsRight pool at (Plain c) = is_some (plain_op c) ≡ true
IsRight pool at (Bipush byte) = byte < 256
IsRight pool at (Sipush short) = short < 2 ^ 16
IsRight pool at (Ldc index) = (index < 256) × (is_left_out_at (slice_get pool index) ≡ false)
    × (is_some (loaded pool index) ≡ true)
IsRight pool at (LdcWide c index) = ((eqb c 0x13 || eqb c 0x14) ≡ true) × (index < 2 ^ 16)
    × (is_left_out_at (slice_get pool index) ≡ false) × (is_some (loaded_wide c pool index) ≡ true)
IsRight pool at (Local c index) = (index < 256) × (is_some (local_op c) ≡ true)
IsRight pool at (WideLocal c index) = (index < 2 ^ 16) × (is_some (local_op c) ≡ true)
IsRight pool at (Iinc index const) = (index < 256) × (const < 256)
IsRight pool at (WideIinc index const) = (index < 2 ^ 16) × (const < 2 ^ 16)
IsRight pool at (Branch c branch) = (branch < 2 ^ 16) × (is_some (branch_op c) ≡ true)
IsRight pool at (GotoWide branch) = branch < 2 ^ 32
IsRight pool at (TableSwitch pad default low high offsets) = IsTable at pad default low high offsets
IsRight pool at (LookupSwitch pad default pairs) = IsLookup at pad default pairs
IsRight pool at (MemberOperand c index) = (index < 2 ^ 16) × (is_some (member_op c pool index) ≡ true)
IsRight pool at (InvokeInterface index count) = IsInterface pool index count
IsRight pool at (ClassOperand c index) = (index < 2 ^ 16) × (is_some (class_op c pool index) ≡ true)
IsRight pool at (NewArray atype) = (atype < 256) × (is_left_out_array_type atype ≡ false)
    × (is_some (array_type_of atype) ≡ true)
IsRight pool at (MultiNewArray index dimensions) = IsArrays pool index dimensions

-- the bytes up to the one by which an instruction is known to be left out
pub data LeftInfo : Type 0 where
  LeftOpcode : (opcode : ℕ) → LeftInfo
  LeftLocal : (opcode : ℕ) → LeftInfo
  LeftArray : (atype : ℕ) → LeftInfo
  LeftLoad : (index : ℕ) → LeftInfo
  LeftWideLoad : (opcode index : ℕ) → LeftInfo

abbrev pub left_bytes : LeftInfo → List ℕ
left_bytes (LeftOpcode c) = c ∷ []
left_bytes (LeftLocal c) = 0xC4 ∷ c ∷ []
left_bytes (LeftArray atype) = 0xBC ∷ atype ∷ []
left_bytes (LeftLoad index) = 0x12 ∷ index ∷ []
left_bytes (LeftWideLoad c index) = c ∷ to_be_bytes w16 index

abbrev pub left_opcode : LeftInfo → ℕ
left_opcode (LeftOpcode c) = c
left_opcode (LeftLocal c) = 0xC4
left_opcode (LeftArray atype) = 0xBC
left_opcode (LeftLoad index) = 0x12
left_opcode (LeftWideLoad c index) = c

-- they are left out
abbrev pub IsLeft : List Entry → LeftInfo → Type 0
IsLeft pool (LeftOpcode c) = (eqb c 0xBA || is_left_out_opcode c) ≡ true
IsLeft pool (LeftLocal c) = is_left_out_local c ≡ true
IsLeft pool (LeftArray atype) = is_left_out_array_type atype ≡ true
IsLeft pool (LeftLoad index) = (index < 256) × (is_left_out_at (slice_get pool index) ≡ true)
IsLeft pool (LeftWideLoad c index) = ((eqb c 0x13 || eqb c 0x14) ≡ true) × (index < 2 ^ 16)
    × (is_left_out_at (slice_get pool index) ≡ true)

-- the text is an instruction that is right, or one that is left out
abbrev pub IsRead : List Entry → ℕ → List ℕ → Read → Type 0
IsRead pool at text y = ((info : Info) × (y ≡ instruction info) × (text ≡ info_bytes info) × IsRight pool at info)
    ⊎ ((left : LeftInfo) × (y ≡ left_out (left_opcode left)) × (text ≡ left_bytes left) × IsLeft pool left)

-- ---- what the operands of a form are

-- a byte is its own spelling
pub byte_is : (n : ℕ) → n < 256 → to_be_bytes w8 n ≡ n ∷ []
byte_is n lt = ap (λ k. k ∷ []) (omega arith)

-- an opcode before its operands
pub head_is : (c : ℕ) (t u : List ℕ) → c < 256 → t ≡ u → to_be_bytes w8 c ++ t ≡ c ∷ u
head_is c t u lt e = ap (λ (k : List ℕ). k ++ t) (byte_is c lt) ∙ ap (λ (k : List ℕ). c ∷ k) e

-- the same of an opcode that is known
known_head : (c k : ℕ) (t u : List ℕ) → c < 256 → eqb c k ≡ true → t ≡ u → to_be_bytes w8 c ++ t ≡ k ∷ u
known_head c k t u lt is e = head_is c t u lt e ∙ ap (λ (n : ℕ). n ∷ u) (eqb-true c k is)

loaded_by : {A : Type 0} (b : Bool) (opcode : ℕ) (meaning : Option A) (info : Info) (y : Read)
    → cond b (let R : Result Read FormatKind = Ok (left_out opcode) in R) (if_meant meaning (instruction info)) ≡ Ok y
    → ((b ≡ true) × (y ≡ left_out opcode)) ⊎ ((b ≡ false) × (is_some meaning ≡ true) × (y ≡ instruction info))
loaded_by true opcode meaning info y h = inl (refl, let e : left_out opcode ≡ y = cc in sym e)
loaded_by false opcode meaning info y h = let m = meant_ok meaning (instruction info) y h in inr (refl, m.0, sym m.1)

load_read_is : (pool : List Entry) (c lo x : ℕ) (t : List ℕ) (y : Read) → c < 256 → eqb c 0x12 ≡ true
    → t ≡ to_be_bytes w8 lo → lo < 256 → x ≡ lo → load_read pool 0x12 x (loaded pool x) (Ldc x) ≡ Ok y → (at : ℕ)
    → IsRead pool at (to_be_bytes w8 c ++ t) y
load_read_is pool c lo x t y lt is t-is fits x-is h at =
    let bytes : to_be_bytes w8 c ++ t
    ≡ 0x12 ∷ x ∷ [] = known_head c 0x12 t (x ∷ []) lt is
    (t-is ∙ byte_is lo fits ∙ ap (λ (n : ℕ). n ∷ []) (sym x-is)) in
    let small : x < 256 = omega (arith, fits, x-is) in
    elim (loaded_by (is_left_out_at (slice_get pool x)) 0x12 (loaded pool x) (Ldc x) y h) [
      | inl l ↦ inr (LeftLoad x, l.1, bytes, (small, l.0))
      | inr r ↦ inl (Ldc x, r.2, bytes, (small, r.0, r.1))
    ]

wide_load_read_is : (pool : List Entry) (c lo x : ℕ) (t : List ℕ) (y : Read) → c < 256
    → (eqb c 0x13 || eqb c 0x14) ≡ true → t ≡ to_be_bytes w16 lo → lo < 2 ^ 16 → x ≡ lo
    → load_read pool c x (loaded_wide c pool x) (LdcWide c x) ≡ Ok y → (at : ℕ)
    → IsRead pool at (to_be_bytes w8 c ++ t) y
wide_load_read_is pool c lo x t y lt is t-is fits x-is h at =
    let bytes : to_be_bytes w8 c ++ t
    ≡ c ∷ to_be_bytes w16 x = head_is c t (to_be_bytes w16 x) lt (t-is ∙ ap (to_be_bytes w16) (sym x-is)) in
    let small : x < 2 ^ 16 = omega (arith, fits, x-is) in
    elim (loaded_by (is_left_out_at (slice_get pool x)) c (loaded_wide c pool x) (LdcWide c x) y h) [
      | inl l ↦ inr (LeftWideLoad c x, l.1, bytes, (is, small, l.0))
      | inr r ↦ inl (LdcWide c x, r.2, bytes, (is, small, r.0, r.1))
    ]

array_read_is : (pool : List Entry) (c lo x : ℕ) (t : List ℕ) (y : Read) → c < 256 → eqb c 0xBC ≡ true
    → t ≡ to_be_bytes w8 lo → lo < 256 → x ≡ lo → array_type_read x ≡ Ok y → (at : ℕ)
    → IsRead pool at (to_be_bytes w8 c ++ t) y
array_read_is pool c lo x t y lt is t-is fits x-is h at =
    let bytes : to_be_bytes w8 c ++ t
    ≡ 0xBC ∷ x ∷ [] = known_head c 0xBC t (x ∷ []) lt is
    (t-is ∙ byte_is lo fits ∙ ap (λ (n : ℕ). n ∷ []) (sym x-is)) in
    let small : x < 256 = omega (arith, fits, x-is) in
    elim (loaded_by (is_left_out_array_type x) 0xBC (array_type_of x) (NewArray x) y h) [
      | inl l ↦ inr (LeftArray x, l.1, bytes, l.0)
      | inr r ↦ inl (NewArray x, r.2, bytes, (small, r.0, r.1))
    ]

-- an index that means something
meant_read_is : {A : Type 0} (pool : List Entry) (at lo x : ℕ) (o : ℕ → Option A) (make : ℕ → Info) (text : List ℕ)
    (y : Read) → lo < 2 ^ 16 → x ≡ lo → if_meant (o x) (instruction (make x)) ≡ Ok y
    → (text ≡ info_bytes (make lo)) → ((n : ℕ) → n < 2 ^ 16 → is_some (o n) ≡ true → IsRight pool at (make n))
    → IsRead pool at text y
meant_read_is pool at lo x o make text y fits x-is h bytes right =
    let m = meant_ok (o x) (instruction (make x)) y h in
    inl (
      make lo,
      sym m.1 ∙ ap (λ (n : ℕ). instruction (make n)) x-is,
      bytes,
      right lo fits
          (ap (λ (n : ℕ). is_some (o n)) (sym x-is) ∙ m.0),
    )

wide_right_of : (pool : List Entry) (at c d : ℕ) (f : WideForm) → c < 256 → eqb c 0xC4 ≡ true → d < 256
    → wide_passes d f ≡ true → (o : ℕ) (t : List ℕ) (y : Read) → WideOperands d f o t y
    → IsRead pool at (to_be_bytes w8 c ++ (to_be_bytes w8 d ++ t)) y
unfolding wide_passes
wide_right_of pool at c d WideOfIinc lt is small p o t y h =
    inl (WideIinc h.0.0 h.0.1, h.2.2, known_head c 0xC4 _ _ lt is (known_head d 0x84 t _ small p h.1), (h.2.0, h.2.1))
wide_right_of pool at c d WideOfNone lt is small p o t y h = inr
    (LeftLocal d, h.2, known_head c 0xC4 _ _ lt is (head_is d t _ small h.1), p)
wide_right_of pool at c d WideOfLocal lt is small p o t y h =
    inl (
      WideLocal d h.0,
      h.2.2
          ∙ ap (λ (n : ℕ). instruction (WideLocal d n)) h.2.1.1,
      known_head c 0xC4 _ _ lt is (head_is d t _ small h.1),
      (h.2.1.0, p),
    )
wide_right_of pool at c d NoWideForm lt is small p o t y h = absurd h

right_of : (pool : List Entry) (at c : ℕ) (f : Form) → c < 256 → passes c f ≡ true → (o : ℕ) (t : List ℕ) (y : Read)
    → Operands pool at c f o t y → IsRead pool at (to_be_bytes w8 c ++ t) y
unfolding passes
right_of pool at c Alone lt p o t y h = inl (Plain c, h.2, head_is c t [] lt h.1, p)
right_of pool at c OfByte lt p o t y h = inl (
  Bipush h.0,
  h.2.2 ∙ ap (λ (n : ℕ). instruction (Bipush n)) h.2.1.1,
  known_head c 0x10 t _ lt p
      (h.1 ∙ byte_is h.0 h.2.1.0),
  h.2.1.0,
)
right_of pool at c OfShort lt p o t y h = inl
    (Sipush h.0, h.2.2 ∙ ap (λ (n : ℕ). instruction (Sipush n)) h.2.1.1, known_head c 0x11 t _ lt p h.1, h.2.1.0)
right_of pool at c OfLoad lt p o t y h = load_read_is pool c h.0 h.2.0 t y lt p h.1 h.2.1.0 h.2.1.1 h.2.2 at
right_of pool at c OfWideLoad lt p o t y h = wide_load_read_is pool c h.0 h.2.0 t y lt p h.1 h.2.1.0 h.2.1.1 h.2.2 at
right_of pool at c OfLocal lt p o t y h = inl (
  Local c h.0,
  h.2.2 ∙ ap (λ (n : ℕ). instruction (Local c n)) h.2.1.1,
  head_is c t _ lt (h.1 ∙ byte_is h.0 h.2.1.0),
  (h.2.1.0, p),
)
right_of pool at c OfIinc lt p o t y h =
    inl (
      Iinc h.0.0 h.0.1,
      h.2.2,
      known_head c 0x84 t _ lt p (h.1 ∙ head_is h.0.0 _ _ h.2.0 (byte_is h.0.1 h.2.1)),
      (h.2.0, h.2.1),
    )
right_of pool at c OfWide lt p o t y h =
    let d : ℕ = h.0.0 in
    let x : ℕ = h.2.0 in
    let w : WideOperands d (wide_form_of d) _ h.0.1 y = subst
    (λ (n : ℕ). WideOperands n (wide_form_of n) _ h.0.1 y) h.2.1.1 h.2.2 in
    subst (λ (u : List ℕ). IsRead pool at (to_be_bytes w8 c ++ u) y) (sym h.1)
    (wide_right_of pool at c d (wide_form_of d) lt p h.2.1.0 (wide_form_passes d) _ h.0.1 y w)
right_of pool at c OfBranch lt p o t y h = inl
    (Branch c h.0, h.2.2 ∙ ap (λ (n : ℕ). instruction (Branch c n)) h.2.1.1, head_is c t _ lt h.1, (h.2.1.0, p))
right_of pool at c OfWideGoto lt p o t y h = inl
    (GotoWide h.0, h.2.2 ∙ ap (λ (n : ℕ). instruction (GotoWide n)) h.2.1.1, known_head c 0xC8 t _ lt p h.1, h.2.1.0)
right_of pool at c OfTable lt p o t y h = inl
    (TableSwitch h.0.0 h.0.1.0 h.0.1.1.0 h.0.1.1.1.0 h.0.1.1.1.1, h.2.1, known_head c 0xAA t _ lt p h.1, h.2.0)
right_of pool at c OfLookup lt p o t y h = inl
    (LookupSwitch h.0.0 h.0.1.0 h.0.1.1, h.2.1, known_head c 0xAB t _ lt p h.1, h.2.0)
right_of pool at c OfMember lt p o t y h = meant_read_is pool at h.0 h.2.0 (λ n. member_op c pool n)
    (λ n. MemberOperand c n) _ y h.2.1.0 h.2.1.1 h.2.2 (head_is c t _ lt h.1) (λ n fits m. (fits, m))
right_of pool at c OfInterface lt p o t y h =
    inl (
      InvokeInterface h.0.0 h.0.1,
      h.2.1,
      known_head c 0xB9 t _ lt p
          (h.1 ∙ ap (λ (u : List ℕ). to_be_bytes w16 h.0.0 ++ (u ++ to_be_bytes w8 0))
          (byte_is h.0.1 h.2.0.count_fits)),
      h.2.0,
    )
right_of pool at c OfClass lt p o t y h = meant_read_is pool at h.0 h.2.0 (λ n. class_op c pool n)
    (λ n. ClassOperand c n) _ y h.2.1.0 h.2.1.1 h.2.2 (head_is c t _ lt h.1) (λ n fits m. (fits, m))
right_of pool at c OfArray lt p o t y h = array_read_is pool c h.0 h.2.0 t y lt p h.1 h.2.1.0 h.2.1.1 h.2.2 at
right_of pool at c OfArrays lt p o t y h =
    inl (
      MultiNewArray h.0.0 h.0.1,
      h.2.1,
      known_head c 0xC5 t _ lt p
          (h.1 ∙ ap (λ (u : List ℕ). to_be_bytes w16 h.0.0 ++ u) (byte_is h.0.1 h.2.0.dimensions_fit)),
      h.2.0,
    )
right_of pool at c OfNone lt p o t y h = inr (LeftOpcode c, h.2, head_is c t [] lt h.1, p)
right_of pool at c NoForm lt p o t y h = absurd h

-- an opcode and its operands are an instruction that is right, or one that is left out
opcode_right : (pool : List Entry) (at o : ℕ) (text : List ℕ) (y : Read)
    → Spells opcode_bytes (Both (to_be_bytes w8) (Below 256) (BehindOpcode pool at)) o text y → IsRead pool at text y
opcode_right pool at o text y h =
    let c : ℕ = h.0.0 in
    let b : BehindOpcode pool at c _ h.0.1 y = subst (λ (n : ℕ). BehindOpcode pool at n _ h.0.1 y) h.2.1.1 h.2.2 in
    subst (λ (u : List ℕ). IsRead pool at u y) (sym h.1)
    (right_of pool at c (form_of c) h.2.1.0 (form_passes c) _ h.0.1 y b)

-- an instruction without a fault
instruction_ok : {A : Type 0} (at : ℕ) (r : Result (A × Place) FormatFault) (x : A × Place) → at_instruction at r ≡ Ok x
    → r ≡ Ok x
instruction_ok at (Ok y) x h = h
instruction_ok at (Err f) x h = absurd cc

-- what is read of an instruction
pub read_found : (pool : List Entry) (from : ℕ) (p : Place) (y : Read) (q : Place) → IsBytes p.bytes
    → read_instruction pool from p ≡ Ok (y, q) → (text : List ℕ) × IsRead pool (p.at - from) text y × Takes p text q
unfolding read_instruction
read_found pool from p y q fits h =
    let o = (opcode_exact pool (p.at - from)).found p y q fits
    (instruction_ok p.at (lead u1 (begun pool (p.at - from)) p) (y, q) h) in
    (o.0, opcode_right pool (p.at - from) p.at o.0 y o.1, o.2)

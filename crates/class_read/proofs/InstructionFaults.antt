-- Which rules an instruction of a code can break.
use Rattle.std.proofs.Common.{◌≡◌, ℕ, zero, suc, ◌-◌, ◌≤◌, Bool, true, false, cond, ltb, eqb, ◌||◌, List, [], ◌∷◌}
use Rattle.std.proofs.Common.{length, Option, Some, None, Result, Ok, Err, refl, sym, ap, subst, ◌∙◌, arith}
use Rattle.std.specs.Prelude.{is_some, nat_le, nat_lt, int_le, ◌^◌, slice_get}
use Rattle.std.specs.Int.{Width, w8, w16, w32, byte_len, cast_signed}
use Rattle.std.proofs.lemmas.Bool.Decides.{nat_tests}
use Rattle.jv_base.specs.declared.cursor.End.{End}
use Rattle.jv_base.specs.Place.{Place, number_at}
use Rattle.format_reading.specs.declared.fault.FormatFault.{FormatFault}
use Rattle.format_reading.specs.declared.fault.FormatKind.{FormatKind}
use Rattle.format_reading.specs.declared.fault.FormatKind.TheVariants as bad
use Rattle.format_reading.specs.Reader.{FormatReader, or_cut, u1, u2, u4, bytes, lead, bind, give, given, here, item}
use Rattle.format_reading.specs.Reader.{many}
use Rattle.format_reading.specs.Reader.{after_read, onwards}
use Rattle.format_reading.proofs.Exact.{IsBytes}
use Rattle.class_model.specs.declared.pool.Entry.{Entry}
use Rattle.class_model.specs.declared.op.Op.{Op}
use Rattle.class_model.specs.InstructionStructure.{pad_length, Info, Ldc, LdcWide, MemberOperand, ClassOperand}
use Rattle.class_model.specs.InstructionStructure.{NewArray}
use Rattle.class_model.specs.InstructionMeaning.{loaded, loaded_wide, member_op, class_op}
use Rattle.class_model.specs.Lookups.{test, type_at, interface_methodref_at}
use Rattle.class_model.specs.Opcodes.{plain_op, local_op, branch_op, array_type_of, is_left_out_local}
use Rattle.class_model.specs.Opcodes.{is_left_out_array_type, is_left_out_opcode}
use Rattle.class_model.specs.ReadingCode.{Read, instruction, left_out, is_left_out_at, if_meant, load_read, ascends}
use Rattle.class_model.specs.ReadingCode.{is_count, count_at, are_dimensions, one_byte, two_bytes, iinc, wide_iinc}
use Rattle.class_model.specs.ReadingCode.{widened, table_length, table_high, table_switch, lookup_count, lookup_key}
use Rattle.class_model.specs.ReadingCode.{match_offsets, lookup_switch, invoke_interface, array_type_read}
use Rattle.class_model.specs.ReadingCode.{multi_new_array, is_member_opcode, is_class_opcode, begun, in_code}
use Rattle.class_model.specs.ReadingCode.{at_instruction, read_instruction, CodeRead, instructions, in_front, goes_on}
use Rattle.class_model.specs.ReadingCode.{until_end}
use Rattle.class_model.proofs.InstructionRead.{read_found}
use Rattle.code_read.specs.declared.fault.Wrong.{Wrong}
use Rattle.code_read.specs.declared.fault.Wrong.TheVariants as wrong
use Rattle.code_read.specs.Fault.{wrong_of}
use Rattle.code_read.proofs.ReadToEnd.{passed_over}

-- the rule of a class file that is broken
abbrev pub kind_of : Wrong → FormatKind
kind_of wrong.Opcode = bad.BadOpcode
kind_of wrong.Operand = bad.BadOperand
kind_of wrong.Cut = bad.BadCode
kind_of (wrong.LeftOut opcode) = bad.BadOpcode

-- one that the instructions of a code can break
abbrev pub IsOfCode : FormatKind → Type 0
IsOfCode k = k ≡ kind_of (wrong_of k)

-- the same where the end is not yet one of the code
abbrev IsOfInstruction : FormatKind → Type 0
IsOfInstruction k = IsOfCode (in_code k)

-- a fault, if there is one, is of such a kind
abbrev pub TellsIn : {A : Type 0} → (FormatFault → Type 0) → Result A FormatFault → Type 0
TellsIn P (Ok x) = Unit {0}
TellsIn P (Err f) = P f

-- each fault of a reader is
abbrev OfInstruction : FormatFault → Type 0
OfInstruction f = IsOfInstruction f.kind

abbrev Tells : {A : Type 0} → FormatReader A → Type 0
Tells r = (p : Place) → TellsIn OfInstruction (r p)

number_tells : (w : Width) → Tells (λ p. or_cut (number_at w p))
number_tells w p = by (ltb (length p.bytes - p.at) (byte_len w)) _ _
  where
    by : (b : Bool) (e : End) (x : ℕ × Place) → TellsIn OfInstruction (or_cut (cond b (Err e) (Ok x)))
    by true e x = refl
    by false e x = tt

u1_tells : Tells u1
unfolding u1
u1_tells p = number_tells w8 p

u2_tells : Tells u2
unfolding u2
u2_tells p = number_tells w16 p

u4_tells : Tells u4
unfolding u4
u4_tells p = number_tells w32 p

bytes_tell : (n : ℕ) → Tells (bytes n)
unfolding bytes
bytes_tell n p = by (ltb (length p.bytes - p.at) n) _ _
  where
    by : (b : Bool) (e : End) (x : List ℕ × Place) → TellsIn OfInstruction (or_cut (cond b (Err e) (Ok x)))
    by true e x = refl
    by false e x = tt

give_tells : {A : Type 0} (x : A) → Tells (give x)
unfolding give
give_tells x p = tt

-- what an item leads to, and what it means
abbrev LeadTells : {B : Type 0} → Result (FormatReader B) FormatKind → Type 0
LeadTells (Ok r) = Tells r
LeadTells (Err k) = IsOfInstruction k

abbrev Means : {A : Type 0} → Result A FormatKind → Type 0
Means (Ok x) = Unit {0}
Means (Err k) = IsOfInstruction k

onwards_tells : {B : Type 0} (at : ℕ) (o : Result (FormatReader B) FormatKind) (p : Place) → LeadTells o
    → TellsIn OfInstruction (onwards at o p)
onwards_tells at (Ok r) p h = h p
onwards_tells at (Err k) p h = h

after_tells : {A B : Type 0} (at : ℕ) (f : A → Result (FormatReader B) FormatKind) (d : Result (A × Place) FormatFault)
    → TellsIn OfInstruction d → ((x : A) → LeadTells (f x)) → TellsIn OfInstruction (after_read at f d)
after_tells at f (Ok x) a h = onwards_tells at (f x.0) x.1 (h x.0)
after_tells at f (Err e) a h = a

lead_tells : {A B : Type 0} (r : FormatReader A) (f : A → Result (FormatReader B) FormatKind) → Tells r
    → ((x : A) → LeadTells (f x)) → Tells (lead r f)
unfolding lead
lead_tells r f a h p = after_tells p.at f (r p) (a p) h

bind_tells : {A B : Type 0} (r : FormatReader A) (f : A → FormatReader B) → Tells r → ((x : A) → Tells (f x))
    → Tells (bind r f)
unfolding bind
bind_tells r f a h p = after_tells p.at (λ x. Ok (f x)) (r p) (a p) h

given_tells : {A : Type 0} (x : Result A FormatKind) → Means x → LeadTells (given x)
given_tells (Ok x) h = give_tells x
given_tells (Err k) h = h

item_tells : {A B : Type 0} (r : FormatReader A) (f : A → Result B FormatKind) → Tells r → ((x : A) → Means (f x))
    → Tells (item r f)
item_tells r f a h = lead_tells r (λ x. given (f x)) a (λ x. given_tells (f x) (h x))

many_tell : {A : Type 0} (n : ℕ) (r : FormatReader A) → Tells r → Tells (many n r)
unfolding many
many_tell zero r a = give_tells []
many_tell (suc n) r a = bind_tells r _ a
    (λ first. bind_tells (many n r) _ (many_tell n r a) (λ others. give_tells (first ∷ others)))

-- ---- one instruction

if_lead : {B : Type 0} (b : Bool) (o u : Result (FormatReader B) FormatKind) → LeadTells o → LeadTells u
    → LeadTells (cond b o u)
if_lead true o u h k = h
if_lead false o u h k = k

if_means : {A : Type 0} (b : Bool) (x y : Result A FormatKind) → Means x → Means y → Means (cond b x y)
if_means true x y h k = h
if_means false x y h k = k

meant_tells : {A B : Type 0} (o : Option A) (y : B) → Means (if_meant o y)
meant_tells (Some x) y = tt
meant_tells None y = refl

checked : {A : Type 0} (b : Bool) (x : A)
    → Means (let R : Result A FormatKind = cond b (Ok x) (Err bad.BadOperand) in R)
checked true x = tt
checked false x = refl

load_means : (pool : List Entry) (opcode index : ℕ) (meaning : Option Op) (info : Info)
    → Means (load_read pool opcode index meaning info)
load_means pool opcode index meaning info = if_means (is_left_out_at (slice_get pool index)) (Ok (left_out opcode))
    (if_meant meaning (instruction info)) tt (meant_tells meaning (instruction info))

array_means : (atype : ℕ) → Means (array_type_read atype)
array_means atype = if_means (is_left_out_array_type atype) (Ok (left_out 0xBC))
    (if_meant (array_type_of atype) (instruction (NewArray atype))) tt
    (meant_tells (array_type_of atype) (instruction (NewArray atype)))

one_byte_tells : (make : ℕ → Info) → Tells (one_byte make)
one_byte_tells make = bind_tells u1 _ u1_tells (λ x. give_tells _)

two_bytes_tell : (make : ℕ → Info) → Tells (two_bytes make)
two_bytes_tell make = bind_tells u2 _ u2_tells (λ x. give_tells _)

iinc_tells : Tells iinc
iinc_tells = bind_tells u1 _ u1_tells (λ index. bind_tells u1 _ u1_tells (λ const. give_tells _))

wide_iinc_tells : Tells wide_iinc
wide_iinc_tells = bind_tells u2 _ u2_tells (λ index. bind_tells u2 _ u2_tells (λ const. give_tells _))

widened_tells : (opcode : ℕ) → LeadTells (widened opcode)
widened_tells opcode =
    if_lead (eqb opcode 0x84) _ _ wide_iinc_tells
    (if_lead (is_left_out_local opcode) _ _ (give_tells _)
    (if_lead (is_some (local_op opcode)) _ _ (two_bytes_tell _) refl))

table_tells : (at : ℕ) → Tells (table_switch at)
table_tells at =
    bind_tells (bytes (pad_length at)) _ (bytes_tell (pad_length at))
    (λ pad. bind_tells u4 _ u4_tells (λ default. bind_tells u4 _ u4_tells (λ low.
    bind_tells (item u4 (table_high low)) _
    (item_tells u4 (table_high low) u4_tells
    (λ high. checked (int_le (cast_signed w32 low) (cast_signed w32 high)) high)) (λ high.
    bind_tells (many (table_length low high) u4) _ (many_tell (table_length low high) u4 u4_tells)
    (λ offsets. give_tells _)))))

pairs_tell : (n : ℕ) (previous : Option ℕ) → Tells (match_offsets n previous)
unfolding match_offsets
pairs_tell zero previous = give_tells []
pairs_tell (suc n) previous =
    bind_tells (item u4 (lookup_key previous)) _
    (item_tells u4 (lookup_key previous) u4_tells (λ key. checked (ascends previous key) key)) (λ key.
    bind_tells u4 _ u4_tells
    (λ offset. bind_tells (match_offsets n (Some key)) _ (pairs_tell n (Some key)) (λ others. give_tells _)))

lookup_tells : (at : ℕ) → Tells (lookup_switch at)
lookup_tells at =
    bind_tells (bytes (pad_length at)) _ (bytes_tell (pad_length at)) (λ pad. bind_tells u4 _ u4_tells (λ default.
    bind_tells (item u4 lookup_count) _ (item_tells u4 lookup_count u4_tells (λ n. checked (nat_lt n (2 ^ 31)) n))
    (λ n. bind_tells (match_offsets n None) _ (pairs_tell n None) (λ pairs. give_tells _))))

interface_tells : (pool : List Entry) → Tells (invoke_interface pool)
interface_tells pool =
    bind_tells (item u2 (λ index. if_meant (interface_methodref_at pool index) index)) _
    (item_tells u2 _ u2_tells (λ index. meant_tells (interface_methodref_at pool index) index)) (λ index.
    bind_tells (item u1 (λ n. cond (is_count (count_at pool index) n) (Ok n) (Err bad.BadOperand))) _
    (item_tells u1 _ u1_tells (λ n. checked (is_count (count_at pool index) n) n)) (λ count.
    bind_tells (item u1 (λ n. test bad.BadOperand (eqb n 0))) _
    (item_tells u1 _ u1_tells (λ n. checked (eqb n 0) (let u : Unit {0} = tt in u))) (λ last. give_tells _)))

arrays_tell : (pool : List Entry) → Tells (multi_new_array pool)
arrays_tell pool =
    bind_tells (item u2 (λ index. if_meant (type_at pool index) index)) _
    (item_tells u2 _ u2_tells (λ index. meant_tells (type_at pool index) index)) (λ index.
    bind_tells (item u1 (λ n. cond (are_dimensions (type_at pool index) n) (Ok n) (Err bad.BadOperand))) _
    (item_tells u1 _ u1_tells (λ n. checked (are_dimensions (type_at pool index) n) n)) (λ n. give_tells _))

begun_tells : (pool : List Entry) (at opcode : ℕ) → LeadTells (begun pool at opcode)
begun_tells pool at opcode =
    if_lead (is_some (plain_op opcode)) _ _ (give_tells _)
    (if_lead (eqb opcode 0x10) _ _ (one_byte_tells _)
    (if_lead (eqb opcode 0x11) _ _ (two_bytes_tell _)
    (if_lead (eqb opcode 0x12) _ _
    (item_tells u1 _ u1_tells (λ index. load_means pool 0x12 index (loaded pool index) (Ldc index)))
    (if_lead (eqb opcode 0x13 || eqb opcode 0x14) _ _
    (item_tells u2 _ u2_tells
    (λ index. load_means pool opcode index (loaded_wide opcode pool index) (LdcWide opcode index)))
    (if_lead (is_some (local_op opcode)) _ _ (one_byte_tells _)
    (if_lead (eqb opcode 0x84) _ _ iinc_tells
    (if_lead (eqb opcode 0xC4) _ _ (lead_tells u1 widened u1_tells widened_tells)
    (if_lead (is_some (branch_op opcode)) _ _ (two_bytes_tell _)
    (if_lead (eqb opcode 0xC8) _ _ (bind_tells u4 _ u4_tells (λ x. give_tells _))
    (if_lead (eqb opcode 0xAA) _ _ (table_tells at)
    (if_lead (eqb opcode 0xAB) _ _ (lookup_tells at)
    (if_lead (is_member_opcode opcode) _ _
    (item_tells u2 _ u2_tells
    (λ index. meant_tells (member_op opcode pool index) (instruction (MemberOperand opcode index))))
    (if_lead (eqb opcode 0xB9) _ _ (interface_tells pool)
    (if_lead (is_class_opcode opcode) _ _
    (item_tells u2 _ u2_tells
    (λ index. meant_tells (class_op opcode pool index) (instruction (ClassOperand opcode index))))
    (if_lead (eqb opcode 0xBC) _ _ (item_tells u1 array_type_read u1_tells array_means)
    (if_lead (eqb opcode 0xC5) _ _ (arrays_tell pool)
    (if_lead (eqb opcode 0xBA || is_left_out_opcode opcode) _ _ (give_tells (left_out opcode)) refl)))))))))))))))))

-- a fault of the instruction at an offset
abbrev IsAt : ℕ → FormatFault → Type 0
IsAt at f = IsOfCode f.kind × (f.offset ≡ at)

at_tells : {A : Type 0} (at : ℕ) (r : Result (A × Place) FormatFault) → TellsIn OfInstruction r
    → TellsIn (IsAt at) (at_instruction at r)
at_tells at (Ok x) h = tt
at_tells at (Err f) h = (h, refl)

instruction_tells : (pool : List Entry) (from : ℕ) (p : Place) → TellsIn (IsAt p.at) (read_instruction pool from p)
unfolding read_instruction
instruction_tells pool from p = at_tells p.at (lead u1 (begun pool (p.at - from)) p)
    (lead_tells u1 (begun pool (p.at - from)) u1_tells (begun_tells pool (p.at - from)) p)

-- ---- all of them

-- a fault of a code, of so many bytes
abbrev pub IsWithin : ℕ → FormatFault → Type 0
IsWithin end f = IsOfCode f.kind × (f.offset ≤ end)

-- behind an instruction the bytes are the same
bytes_behind : (pool : List Entry) (whole : List ℕ) (p q : Place) (read : Read) → IsBytes whole → p.bytes ≡ whole
    → read_instruction pool 0 p ≡ Ok (read, q) → q.bytes ≡ whole
bytes_behind pool whole p q read fits is e =
    let f = read_found pool 0 p read q (subst (λ (b : List ℕ). IsBytes b) (sym is) fits) e in
    ap (λ (z : Place). z.bytes) f.2.moved ∙ is

more_tells : {A B : Type 0} (end at : ℕ) (f : A → B) (d : Result (A × Place) FormatFault) → TellsIn (IsWithin end) d
    → TellsIn (IsWithin end) (after_read at (λ x. Ok (give (f x))) d)
unfolding give
more_tells end at f (Ok x) h = tt
more_tells end at f (Err e) h = h

step : (n : ℕ) (pool : List Entry) (whole : List ℕ) (p : Place) (r : Result (Read × Place) FormatFault) → IsBytes whole
    → p.bytes ≡ whole → p.at ≤ length whole → read_instruction pool 0 p ≡ r → TellsIn (IsAt p.at) r
    → ((q : Place) → q.bytes ≡ whole → TellsIn (IsWithin (length whole)) (until_end n pool 0 (length whole) q))
    → TellsIn (IsWithin (length whole))
    (after_read p.at (λ x. Ok (goes_on (until_end n pool 0 (length whole)) (p.at - 0) (length whole) x)) r)
unfolding bind here give
step n pool whole p (Err f) fits is within e told others = (told.0, let at = told.1 in omega (arith, at, within))
step n pool whole p (Ok (left_out c, q)) fits is within e told others =
    let passed = passed_over (length whole) q (ap length (bytes_behind pool whole p q (left_out c) fits is e)) in
    rw (passed.2) tt
step n pool whole p (Ok (instruction info, q)) fits is within e told others =
    more_tells (length whole) q.at (in_front info) (until_end n pool 0 (length whole) q)
    (others q (bytes_behind pool whole p q (instruction info) fits is e))

until_is : (n : ℕ) (pool : List Entry) (end : ℕ) (p : Place)
    → until_end (suc n) pool 0 end p
    ≡ cond (nat_le end p.at) (give (instructions []))
    (λ q. after_read q.at (λ x. Ok (goes_on (until_end n pool 0 end) (p.at - 0) end x))
    (read_instruction pool 0 q)) p
unfolding until_end bind here
until_is n pool end p = refl

chosen_tells : (end : ℕ) (b : Bool) (r s : FormatReader CodeRead) (p : Place) → TellsIn (IsWithin end) (r p)
    → (b ≡ false → TellsIn (IsWithin end) (s p)) → TellsIn (IsWithin end) (cond b r s p)
chosen_tells end true r s p h k = h
chosen_tells end false r s p h k = k refl

before : (end at : ℕ) → nat_le end at ≡ false → at ≤ end
before end at h = grind (arith, nat_tests)

-- each fault of a code alone is one of its instructions
pub code_tells : (n : ℕ) (pool : List Entry) (whole : List ℕ) (p : Place) → IsBytes whole → p.bytes ≡ whole
    → TellsIn (IsWithin (length whole)) (until_end n pool 0 (length whole) p)
unfolding until_end give
code_tells zero pool whole p fits is = tt
code_tells (suc n) pool whole p fits is =
    subst (λ (r : Result (CodeRead × Place) FormatFault). TellsIn (IsWithin (length whole)) r)
    (sym (until_is n pool (length whole) p))
    (chosen_tells (length whole) (nat_le (length whole) p.at) (give (instructions []))
    (λ q. after_read q.at (λ x. Ok (goes_on (until_end n pool 0 (length whole)) (p.at - 0) (length whole) x))
    (read_instruction pool 0 q)) p tt
    (λ e. step n pool whole p (read_instruction pool 0 p) fits is (before (length whole) p.at e) refl
    (instruction_tells pool 0 p) (λ q at-q. code_tells n pool whole q fits at-q)))

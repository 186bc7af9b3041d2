-- A code with an instruction that is left out is read so exactly where its bytes have one (JVMS 4.7.3, 6.5).
use Rattle.std.proofs.Common.{◌≡◌, inl, inr, ℕ, ◌+◌, ◌-◌, ◌<◌, Bool, true, false, not, ◌||◌, cond, eqb, List, [], ◌∷◌}
use Rattle.std.proofs.Common.{◌++◌, length, Option, Some, None, Result, Ok, ℤ, refl, sym, ap, subst, ◌∙◌, arith}
use Rattle.std.specs.Prelude.{is_some, slice_get, option_map}
use Rattle.std.specs.Int.{w16, w32, to_be_bytes, cast_signed}
use Rattle.std.specs.List.{flat_map}
use Rattle.std.proofs.lemmas.Bool.{eqb-true, or_right, not-true}
use Rattle.format_reading.specs.Reader.{part}
use Rattle.format_reading.specs.Spelling.{Spells, AllStand}
use Rattle.format_reading.specs.declared.fault.FormatKind.{FormatKind}
use Rattle.format_reading.specs.declared.fault.FormatKind.TheVariants as bad
use Rattle.format_reading.proofs.Exact.{Exact, IsBytes, part_exact}
use Rattle.class_model.specs.declared.pool.Entry.{Entry}
use Rattle.class_model.specs.declared.class.LeftKind.{LeftKind}
use Rattle.class_model.specs.declared.class.LeftKind.TheVariants as kind
use Rattle.class_model.specs.declared.op.Case.{Case}
use Rattle.class_model.specs.declared.op.Op.{Op}
use Rattle.class_model.specs.declared.op.Op.TheVariants as op
use Rattle.class_model.specs.Between.{between}
use Rattle.class_model.specs.Opcodes.{plain_op, local_op, branch_op, array_type_of, is_left_out_opcode}
use Rattle.class_model.specs.Lookups.{due, type_at, interface_methodref_at}
use Rattle.class_model.specs.InstructionStructure.{MatchOffset, Info, Plain, Bipush, Sipush, Ldc, LdcWide, Local}
use Rattle.class_model.specs.InstructionStructure.{WideLocal, Iinc, WideIinc, Branch, GotoWide, TableSwitch}
use Rattle.class_model.specs.InstructionStructure.{LookupSwitch, MemberOperand, InvokeInterface, ClassOperand, NewArray}
use Rattle.class_model.specs.InstructionStructure.{MultiNewArray, info_bytes}
use Rattle.class_model.specs.Instructions.{IsLeftOutLoad, IsLeftOut, IsReadable, IsLeftOutCode}
use Rattle.class_model.specs.InstructionMeaning.{op_of, loaded, loaded_wide, member_op, class_op, all_aimed}
use Rattle.class_model.specs.InstructionMeaning.{cases_aimed}
use Rattle.class_model.specs.ReadingCode.{CodeRead, has_left_out, left_out_kind, is_left_out_at, until_end, code_read}
use Rattle.class_model.proofs.NameLaw.{HaveUnits}
use Rattle.class_model.proofs.InstructionForms.{all_below, below_at, implied}
use Rattle.class_model.proofs.InstructionOperands.{as_text}
use Rattle.class_model.proofs.InstructionRead.{IsRight, LeftInfo, LeftOpcode, LeftLocal, LeftArray, LeftLoad}
use Rattle.class_model.proofs.InstructionRead.{LeftWideLoad, left_bytes, left_opcode, IsLeft}
use Rattle.class_model.proofs.InstructionOnly.{none_small, wide_load}
use Rattle.class_model.proofs.MeaningLaw.{op_found}
use Rattle.class_model.proofs.UntilLaw.{AreRight, IsLeftFrom, IsCodeFrom, IsUntil, until_exact, until_found, until_only}
use Rattle.class_model.proofs.UntilLaw.{read_code_found, read_code_only}
use Rattle.class_model.proofs.CodeLaw.{ops_right}

-- ---- instructions whose targets aren't asked for

-- any target
abbrev free : ℤ → Result ℕ FormatKind
free target = Ok 0

abbrev Free : ℤ → ℕ → Type 0
Free target to = Unit {0}

some_due : (o : Option Op) → is_some o ≡ true → (x : Op) × (due bad.BadOperand o ≡ Ok x)
some_due (Some x) h = (x, refl)
some_due None h = absurd cc

some_made : {A : Type 0} (f : A → Op) (o : Option A) → is_some o ≡ true
    → (x : Op) × (due bad.BadOperand (option_map f o) ≡ Ok x)
some_made f (Some x) h = (f x, refl)
some_made f None h = absurd cc

targets_there : (at : ℕ) (offsets : List ℕ) → (cases : List ℕ) × (all_aimed free at offsets ≡ Ok cases)
targets_there at [] = ([], refl)
targets_there at (offset ∷ offsets) = let others = targets_there at offsets in let is = others.1 in
    (0 ∷ others.0, rw is refl)

cases_there : (at : ℕ) (pairs : List MatchOffset) → (cases : List Case) × (cases_aimed free at pairs ≡ Ok cases)
cases_there at [] = ([], refl)
cases_there at (pair ∷ pairs) = let others = cases_there at pairs in let is = others.1 in
    (record { key = cast_signed w32 pair.key; to = 0 } ∷ others.0, rw is refl)

-- what is right has a meaning
right_there : (pool : List Entry) (at : ℕ) (info : Info) → IsRight pool at info
    → (o : Op) × (op_of free pool at info ≡ Ok o)
unfolding op_of
right_there pool at (Plain c) h = some_due (plain_op c) h
right_there pool at (Bipush byte) h = (_, refl)
right_there pool at (Sipush short) h = (_, refl)
right_there pool at (Ldc index) h = some_due (loaded pool index) h.2
right_there pool at (LdcWide c index) h = some_due (loaded_wide c pool index) h.3
right_there pool at (Local c index) h = some_made (λ make. make index) (local_op c) h.1
right_there pool at (WideLocal c index) h = some_made (λ make. make index) (local_op c) h.1
right_there pool at (Iinc index const) h = (_, refl)
right_there pool at (WideIinc index const) h = (_, refl)
right_there pool at (Branch c branch) h = some_made (λ make. make 0) (branch_op c) h.1
right_there pool at (GotoWide branch) h = (_, refl)
right_there pool at
    (TableSwitch pad default low high offsets) h = let cases = targets_there at offsets in let is = cases.1 in
    (op.TableSwitch (cast_signed w32 low) 0 cases.0, rw is refl)
right_there pool at (LookupSwitch pad default pairs) h = let cases = cases_there at pairs in let is = cases.1 in
    (op.LookupSwitch 0 cases.0, rw is refl)
right_there pool at (MemberOperand c index) h = some_due (member_op c pool index) h.1
right_there pool at (InvokeInterface index count) h = some_made (λ reference. op.InvokeInterface reference)
    (interface_methodref_at pool index) h.there
right_there pool at (ClassOperand c index) h = some_due (class_op c pool index) h.1
right_there pool at (NewArray atype) h = some_made (λ ty. op.NewArray ty) (array_type_of atype) h.2
right_there pool at (MultiNewArray index dimensions) h = some_made (λ ty. op.MultiNewArray ty dimensions)
    (type_at pool index) h.there

readable : (pool : List Entry) (at : ℕ) (infos : List Info) → HaveUnits pool → AreRight pool at infos
    → (ops : List Op) × AllStand info_bytes (IsReadable pool) at infos ops
readable pool at [] fit h = ([], tt)
readable pool at (info ∷ infos) fit h =
    let one = right_there pool at info h.0 in
    let others = readable pool (at + length (info_bytes info)) infos fit h.1 in
    (one.0 ∷ others.0, (op_found Free free pool at info one.0 fit (λ target n e. tt) h.0 one.1, others.1))

-- ---- the instruction that is left out

load_found : (pool : List Entry) (index : ℕ) → is_left_out_at (slice_get pool index) ≡ true → IsLeftOutLoad pool index
load_found pool index h = by (slice_get pool index) refl h
  where
    by : (e : Option Entry) → slice_get pool index ≡ e → is_left_out_at e ≡ true → IsLeftOutLoad pool index
    by (Some e) is k = (e, is, k)
    by None is k = absurd cc

load_only : (pool : List Entry) (index : ℕ) → IsLeftOutLoad pool index → is_left_out_at (slice_get pool index) ≡ true
load_only pool index h = ap is_left_out_at h.1 ∙ h.2

-- the kind of an opcode that is left out
opcode_kind : (c : ℕ) → is_left_out_opcode c ≡ true → left_out_kind c ≡ kind.Opcode
unfolding all_below
opcode_kind c h =
    let small : c < 256 = none_small c (or_right (eqb c 0xBA) (is_left_out_opcode c) h) in
    let other : (between 0x12 0x14 c || eqb c 0xBA)
    ≡ false = not-true (between 0x12 0x14 c || eqb c 0xBA)
    (implied (is_left_out_opcode c) _
    (below_at 256 (λ n. cond (is_left_out_opcode n) (not (between 0x12 0x14 n
    || eqb n 0xBA)) true) c small refl) h) in
    rw other refl

-- the bytes by which it is known
pub left_found : (pool : List Entry) (left : LeftInfo) → IsLeft pool left
    → IsLeftOut pool (left_bytes left) (left_out_kind (left_opcode left))
left_found pool (LeftOpcode c) h = by (eqb c 0xBA) refl h
  where
    by : (b : Bool) → eqb c 0xBA ≡ b → (b || is_left_out_opcode c) ≡ true → IsLeftOut pool (c ∷ []) (left_out_kind c)
    by true e k = subst (λ (n : ℕ). IsLeftOut pool (n ∷ []) (left_out_kind n)) (sym (eqb-true c 0xBA e)) (inl refl)
    by false e k = subst (λ (l : LeftKind). IsLeftOut pool (c ∷ []) l) (sym (opcode_kind c k)) (inl (c, k, refl))
left_found pool (LeftLocal c) h = inr (inl (c, h, refl))
left_found pool (LeftArray atype) h = inr (inr (atype, h, refl))
left_found pool (LeftLoad index) h = inr (inl (index, h.0, load_found pool index h.1, refl))
left_found pool (LeftWideLoad c index) h =
    elim (wide_load c h.0) [
      | inl e ↦ subst (λ (n : ℕ). IsLeftOut pool (n ∷ to_be_bytes w16 index) (left_out_kind n)) (sym e)
          (inr (inr (inl (index, h.1, load_found pool index h.2, refl))))
      | inr e ↦ subst (λ (n : ℕ). IsLeftOut pool (n ∷ to_be_bytes w16 index) (left_out_kind n)) (sym e)
          (inr (inr (inr (index, h.1, load_found pool index h.2, refl))))
    ]

-- such bytes are of one that is left out
abbrev IsLeftInfo : List Entry → List ℕ → LeftKind → Type 0
IsLeftInfo pool bytes k = (left : LeftInfo) × IsLeft pool left × (bytes ≡ left_bytes left)
    × (left_out_kind (left_opcode left) ≡ k)

pub left_only : (pool : List Entry) (bytes : List ℕ) (k : LeftKind) → IsLeftOut pool bytes k → IsLeftInfo pool bytes k
left_only pool bytes kind.Opcode (inl h) =
    (LeftOpcode h.0, or_right (eqb h.0 0xBA) (is_left_out_opcode h.0) h.1, h.2, opcode_kind h.0 h.1)
left_only pool bytes kind.Opcode (inr (inl h)) = (LeftLocal h.0, h.1, h.2, refl)
left_only pool bytes kind.Opcode (inr (inr h)) = (LeftArray h.0, h.1, h.2, refl)
left_only pool bytes kind.Constant (inl h) = (LeftOpcode 0xBA, refl, h, refl)
left_only pool bytes kind.Constant (inr (inl h)) = (LeftLoad h.0, (h.1, load_only pool h.0 h.2), h.3, refl)
left_only pool bytes kind.Constant (inr (inr (inl h))) =
    (LeftWideLoad 0x13 h.0, (refl, h.1, load_only pool h.0 h.2), h.3, refl)
left_only pool bytes kind.Constant (inr (inr (inr h))) =
    (LeftWideLoad 0x14 h.0, (refl, h.1, load_only pool h.0 h.2), h.3, refl)
left_only pool bytes _ h = absurd h

-- ---- the code

-- the bytes of a code in which an instruction is left out, by those before it
pub text_found : (pool : List Entry) (code : List ℕ) (offset opcode : ℕ) → HaveUnits pool
    → IsLeftFrom pool 0 code offset opcode → IsLeftOutCode pool code (left_out_kind opcode)
text_found pool code offset opcode fit h =
    let r = readable pool 0 h.infos fit h.right in
    record {
      infos = h.infos;
      ops = r.0;
      before = r.1;
      bytes = left_bytes h.left;
      left_out = subst (λ (c : ℕ). IsLeftOut pool (left_bytes h.left) (left_out_kind c)) (sym h.opcode_is)
          (left_found pool h.left h.is_left);
      rest = h.rest;
      is = h.is;
    }

-- where and how it is left out
abbrev pub IsLeftAt : List Entry → List ℕ → LeftKind → Type 0
IsLeftAt pool code k = (offset : ℕ) × (opcode : ℕ) × IsCodeFrom pool 0 code (has_left_out offset opcode)
    × (left_out_kind opcode ≡ k)

pub text_only : (pool : List Entry) (code : List ℕ) (k : LeftKind) → IsLeftOutCode pool code k → IsLeftAt pool code k
text_only pool code k h =
    let l = left_only pool h.bytes k h.left_out in (
      length (flat_map info_bytes h.infos),
      left_opcode l.0,
      record {
        infos = h.infos;
        right = ops_right Free free pool 0 h.infos h.ops h.before;
        left = l.0;
        is_left = l.1;
        opcode_is = refl;
        offset_is = omega arith;
        rest = h.rest;
        is = h.is ∙ ap (λ (t : List ℕ). flat_map info_bytes h.infos ++ (t ++ h.rest)) l.2;
      },
      l.3,
    )

-- what is read of a code in which an instruction is left out
pub left_code_found : (pool : List Entry) (code : List ℕ) (offset opcode : ℕ) → IsBytes code → HaveUnits pool
    → code_read pool code ≡ Ok (has_left_out offset opcode) → IsLeftOutCode pool code (left_out_kind opcode)
left_code_found pool code offset opcode fits fit h = text_found pool code offset opcode fit
    (read_code_found pool code (has_left_out offset opcode) fits h)

-- such a code is read so, with the same kind
pub left_code_only : (pool : List Entry) (code : List ℕ) (k : LeftKind) → IsLeftOutCode pool code k
    → (offset : ℕ) × (opcode : ℕ) × (code_read pool code ≡ Ok (has_left_out offset opcode)) × (left_out_kind opcode ≡ k)
left_code_only pool code k h = let t = text_only pool code k h in
    (t.0, t.1, read_code_only pool code (has_left_out t.0 t.1) t.2, t.3)

-- ---- in place, as a part of the attribute

-- the code of n bytes that begins at an offset
pub code_part_exact : (pool : List Entry) (attribute n from : ℕ)
    → Exact (part attribute n (until_end n pool from (from + n)))
    (Spells (λ t. t) (λ at t x. (length t ≡ n) × IsUntil n pool from (from + n) at t x))
code_part_exact pool attribute n from = part_exact attribute n
    (as_text {g = IsUntil n pool from (from + n)} (until_exact n pool from (from + n)))

-- it is the code that its bytes are
pub in_place_found : (pool : List Entry) (n from : ℕ) (text : List ℕ) (x : CodeRead) → length text ≡ n
    → IsUntil n pool from (from + n) from text x → IsCodeFrom pool 0 text x
in_place_found pool n from text x whole h =
    let f = until_found n pool from (from + n) from text x (omega arith) (omega (arith, whole)) (omega arith) h in
    subst (λ (o : ℕ). IsCodeFrom pool o text x) (let e : from - from ≡ 0 = omega arith in e) f.0

pub in_place_only : (pool : List Entry) (n from : ℕ) (text : List ℕ) (x : CodeRead) → length text ≡ n
    → IsCodeFrom pool 0 text x → IsUntil n pool from (from + n) from text x
in_place_only pool n from text x whole h =
    until_only n pool from (from + n) from text x (omega arith) (omega (arith, whole)) (omega (arith, whole))
    (subst (λ (o : ℕ). IsCodeFrom pool o text x) (let e : 0 ≡ from - from = omega arith in e) h)

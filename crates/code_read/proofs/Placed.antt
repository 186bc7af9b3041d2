-- An instruction and its opcode, as the decoder goes through them.
use Rattle.std.proofs.Common.{◌≡◌, ℕ, ◌-◌, List, Result, Ok, Err, refl, ap, ◌∙◌, arith}
use Rattle.jv_base.specs.Place.{Place}
use Rattle.jv_base.specs.declared.cursor.End.{End}
use Rattle.jv_base.specs.declared.outcome.Or.{Or}
use Rattle.jv_base.specs.declared.outcome.Or.TheVariants.{Fault, OutOfMemory}
use Rattle.format_reading.specs.Fault.{cut}
use Rattle.format_reading.specs.Reader.{ReadsOr, u1, onwards, after_read, lead}
use Rattle.format_reading.specs.declared.fault.FormatFault.{FormatFault}
use Rattle.format_reading.specs.declared.fault.FormatKind.{FormatKind}
use Rattle.format_reading.specs.declared.fault.FormatKind.TheVariants as bad
use Rattle.class_model.specs.declared.pool.Entry.{Entry}
use Rattle.class_model.specs.ReadingCode.{Read, begun, in_code, at_instruction, read_instruction}
use Rattle.code_read.specs.declared.fault.CodeFault.TheVariants as code
use Rattle.code_read.specs.declared.fault.Wrong.{Wrong}
use Rattle.code_read.specs.declared.unaimed.Unaimed.{Unaimed}
use Rattle.code_read.specs.Fault.{wrong_of}
use Rattle.code_read.specs.Meaning.{meaning_of_read}
use Rattle.code_read.specs.Decoding.{at_offset, placed_at}

-- that the code ends is told in either way
same_rule : (kind : FormatKind) → wrong_of (in_code kind) ≡ wrong_of kind
same_rule bad.Cut = refl
same_rule bad.BadMagic = refl
same_rule bad.BadVersion = refl
same_rule bad.BadTag = refl
same_rule bad.BadUtf8 = refl
same_rule bad.BadIndex = refl
same_rule bad.BadName = refl
same_rule bad.BadDescriptor = refl
same_rule bad.BadFlags = refl
same_rule bad.BadAttribute = refl
same_rule bad.BadConstant = refl
same_rule bad.BadCode = refl
same_rule bad.BadOpcode = refl
same_rule bad.BadOperand = refl
same_rule bad.BadTarget = refl
same_rule bad.BadHandler = refl
same_rule bad.BadFrame = refl
same_rule bad.Repeated = refl
same_rule bad.Trailing = refl

-- so what was read is meant alike, wherever its fault is
same_meaning : (pool : List Entry) (at : ℕ) (r : Result (Read × Place) FormatFault)
    → meaning_of_read pool (at_instruction at r) ≡ meaning_of_read pool r
same_meaning pool at (Ok x) = refl
same_meaning pool at (Err f) = ap (λ (w : Wrong). let R : Result (Unaimed × Place) Wrong = Err w in R)
    (same_rule f.kind)

-- an instruction of a code that begins at 0 is told its own offset
placed_is : (pool : List Entry) (p : Place)
    → placed_at pool p ≡ at_offset p.at (meaning_of_read pool (after_read p.at (begun pool p.at) (u1 p)))
unfolding placed_at read_instruction lead
placed_is pool p =
    let same : p.at - 0 ≡ p.at = omega arith in
    ap (λ n. at_offset p.at (meaning_of_read pool (at_instruction p.at (after_read p.at (begun pool n) (u1 p))))) same
    ∙ ap (at_offset p.at) (same_meaning pool p.at (after_read p.at (begun pool p.at) (u1 p)))

-- an instruction whose opcode was read
pub behind_opcode : (pool : List Entry) (p q : Place) (at opcode : ℕ) → at ≡ p.at → u1 p ≡ Ok (opcode, q)
    → placed_at pool p ≡ at_offset at (meaning_of_read pool (onwards at (begun pool at opcode) q))
behind_opcode pool p q at opcode is h = rw is
    (placed_is pool p ∙ ap (λ r. at_offset p.at (meaning_of_read pool (after_read p.at (begun pool p.at) r))) h)

-- a place at which the code ends
pub without_opcode : (pool : List Entry) (p : Place) (at : ℕ) (e : End) → at ≡ p.at → u1 p ≡ Err (cut e)
    → placed_at pool p ≡ Err (code.Cut at)
without_opcode pool p at e is h = rw is
    (placed_is pool p ∙ ap (λ r. at_offset p.at (meaning_of_read pool (after_read p.at (begun pool p.at) r))) h)

-- what is wrong with an instruction, where memory does not lack
pub wrong_is : (o : Or Wrong) (w : Wrong) (new : Place) (r : Result (Unaimed × Place) Wrong) → o ≡ Fault w
    → ReadsOr {T = Unaimed} (Err o) new r → r ≡ Err w
wrong_is OutOfMemory w new r is h = absurd cc
wrong_is (Fault v) w new r is h =
    let e : v ≡ w = cc in
    h ∙ ap (λ (x : Wrong). let R : Result (Unaimed × Place) Wrong = Err x in R) e

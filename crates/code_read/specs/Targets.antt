-- The targets of instructions, as their numbers (JVMS 4.9.1).
use Rattle.std.specs.Prelude.{ℕ, ℤ, List, [], ◌∷◌, map}
use Rattle.std.specs.Prelude.{Result, Ok, Err}
use Rattle.std.specs.Int.{w32, cast_signed}
use Rattle.format_reading.specs.declared.fault.FormatKind.{FormatKind}
use Rattle.class_model.specs.declared.op.Case.{Case}
use Rattle.class_model.specs.declared.op.Op.{Op}
use Rattle.class_model.specs.declared.op.Op.TheVariants as op
use Rattle.class_model.specs.Opcodes.{branch_op}
use Rattle.class_model.specs.InstructionMeaning.{branch, aimed}
use Rattle.code_read.specs.declared.fault.CodeFault.{CodeFault}
use Rattle.code_read.specs.declared.fault.CodeFault.TheVariants as code
use Rattle.code_read.specs.declared.unaimed.Match.{Match}
use Rattle.code_read.specs.declared.unaimed.Placed.{Placed}
use Rattle.code_read.specs.declared.unaimed.Unaimed.{Unaimed}
use Rattle.code_read.specs.declared.unaimed.Unaimed.TheVariants as unaimed
use Rattle.jv_base.specs.Outcome.{◌>>=◌}

-- ---- the number of the instruction at each offset

-- where instructions begin (JVMS 4.7.3)
abbrev pub starts_of : List Placed → List ℕ
starts_of placed = map (λ (p : Placed). p.at) placed

-- ---- instructions

-- a result before those behind it; of several faults the first counts (the project's own: the first fault counts)
abbrev pub with_first : {B X : Type 0} → Result B X → Result (List B) X → Result (List B) X
with_first (Ok y) (Ok ys) = Ok (y ∷ ys)
with_first (Ok y) (Err e) = Err e
with_first (Err e) others = Err e

-- what each gives, or the first fault (the project's own: the first fault counts)
unfoldable pub collected : {A B X : Type 0} → (A → Result B X) → List A → Result (List B) X
collected f [] = Ok []
collected f (x ∷ xs) = with_first (f x) (collected f xs)

-- a case of a lookupswitch (JVMS 6.5)
abbrev pub case_aimed : (ℤ → Result ℕ FormatKind) → ℕ → Match → Result Case FormatKind
case_aimed aim at next = do
  to ← aimed aim at next.offset
  Ok (record { key = cast_signed w32 next.key; to = to })

-- tableswitch; a wrong default is found before a wrong case (JVMS 6.5)
abbrev pub table_aimed : (ℤ → Result ℕ FormatKind) → ℕ → ℕ → ℕ → List ℕ → Result Op FormatKind
table_aimed aim at default low offsets = do
  other ← aimed aim at default
  cases ← collected (aimed aim at) offsets
  Ok (op.TableSwitch (cast_signed w32 low) other cases)

-- lookupswitch, in the same order (JVMS 6.5)
abbrev pub lookup_aimed : (ℤ → Result ℕ FormatKind) → ℕ → ℕ → List Match → Result Op FormatKind
lookup_aimed aim at default matches = do
  other ← aimed aim at default
  cases ← collected (case_aimed aim at) matches
  Ok (op.LookupSwitch other cases)

-- an instruction with the numbers of its targets (JVMS 6.5)
abbrev pub op_aimed : (ℤ → Result ℕ FormatKind) → ℕ → Unaimed → Result Op FormatKind
op_aimed aim at (unaimed.Whole o) = Ok o
op_aimed aim at (unaimed.Branch opcode offset) = branch aim at (branch_op opcode) offset
op_aimed aim at (unaimed.TableSwitch default low offsets) = table_aimed aim at default low offsets
op_aimed aim at (unaimed.LookupSwitch default matches) = lookup_aimed aim at default matches

-- what is wrong with a target, as the fault of the code (the project's own: the faults of a code alone)
abbrev pub or_bad_target : ℕ → Result Op FormatKind → Result Op CodeFault
or_bad_target at (Ok o) = Ok o
or_bad_target at (Err kind) = Err (code.BadTarget at)

-- the instruction at its offset, with the numbers of its targets (JVMS 4.9.1)
abbrev pub placed_aimed : (ℤ → Result ℕ FormatKind) → Placed → Result Op CodeFault
placed_aimed aim p = or_bad_target p.at (op_aimed aim p.at p.op)

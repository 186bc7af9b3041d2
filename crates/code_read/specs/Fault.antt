-- What is wrong with a code (the project's own: the faults of a code alone).
use Rattle.std.specs.Prelude.{ℕ}
use Rattle.format_reading.specs.declared.fault.FormatKind.{FormatKind}
use Rattle.format_reading.specs.declared.fault.FormatKind.TheVariants as bad
use Rattle.code_read.specs.declared.fault.CodeFault.{CodeFault}
use Rattle.code_read.specs.declared.fault.CodeFault.TheVariants as code
use Rattle.code_read.specs.declared.fault.Wrong.{Wrong}
use Rattle.code_read.specs.declared.fault.Wrong.TheVariants as wrong

-- the rules that an instruction's bytes can break; anything else that the reading of one tells is that they end too
-- soon
abbrev pub wrong_of : FormatKind → Wrong
wrong_of bad.BadOpcode = wrong.Opcode
wrong_of bad.BadOperand = wrong.Operand
wrong_of _ = wrong.Cut

-- what is wrong with the instruction at an offset, as the fault of the code
abbrev pub code_fault : ℕ → Wrong → CodeFault
code_fault offset wrong.Opcode = code.BadOpcode offset
code_fault offset wrong.Operand = code.BadOperand offset
code_fault offset wrong.Cut = code.Cut offset
code_fault offset (wrong.LeftOut opcode) = code.LeftOutOpcode offset opcode

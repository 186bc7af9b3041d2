-- Answers of `begun_by_table`: what its calls ask for, and what it promises.
use Rattle.std.proofs.Common.{Result, sym, subst, ◌∙◌}
use Rattle.format_reading.specs.Reader.{ReadsOr, FormatReader, onwards}
use Rattle.format_reading.specs.declared.fault.FormatKind.{FormatKind}
use Rattle.class_model.specs.ReadingCode.{Read}
use Rattle.code_read.specs.Meaning.{meaning_of_read}
use Rattle.code_read.proofs.Begun.{table_local, table_branch}
use Rattle.code_read.proofs.instruction.begun_by_table.Goals as goal

pub returns-then-is_local : goal.returns-then-is_local
returns-then-is_local c = λ at.
    let pool = c.args.pool.now in
    let is = table_local pool c.args.opcode (sym c.is_local.ensures ∙ c.if-is_local.true) in
    subst (λ (o : Result (FormatReader Read) FormatKind). ReadsOr c.local.result c.local.new.cursor
    (meaning_of_read pool (onwards at o c.args.cursor.now))) (sym is) (c.local.ensures pool)

pub returns-then-is_branch : goal.returns-then-is_branch
returns-then-is_branch c = λ at.
    let pool = c.args.pool.now in
    let is = table_branch pool c.args.opcode (sym c.is_local.ensures ∙ c.if-is_local.false)
    (sym c.is_branch.ensures ∙ c.if-is_branch.true) in
    subst (λ (o : Result (FormatReader Read) FormatKind). ReadsOr c.branch-opcode.result c.branch-opcode.new.cursor
    (meaning_of_read pool (onwards at o c.args.cursor.now))) (sym is) (c.branch-opcode.ensures pool)

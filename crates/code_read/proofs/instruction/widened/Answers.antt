-- Answers of `widened`: what its calls ask for, and what it promises.
use Rattle.std.proofs.Common.{rules, ◌≡◌, false, eqb, Result, sym, subst, ◌∙◌}
use Rattle.format_reading.specs.Reader.{ReadsOr, FormatReader, onwards}
use Rattle.format_reading.specs.declared.fault.FormatKind.{FormatKind}
use Rattle.class_model.specs.ReadingCode.{Read}
use Rattle.code_read.specs.Meaning.{meaning_of_read}
use Rattle.code_read.proofs.Begun.{widened_local}
use Rattle.code_read.proofs.instruction.widened.Goals as goal

pub returns-in_default-2 : goal.returns-in_default-2
returns-in_default-2 c = λ pool at.
    let other : eqb c.args.opcode 0x84 ≡ false = search rules in
    let is = widened_local c.args.opcode other (sym c.is_left_out_local.ensures ∙ c.if-is_left_out_local.false)
    (sym c.is_local.ensures ∙ c.if-is_local.true) in
    subst (λ (o : Result (FormatReader Read) FormatKind). ReadsOr c.wide_local.result c.wide_local.new.cursor
    (meaning_of_read pool (onwards at o c.args.cursor.now))) (sym is) (c.wide_local.ensures pool)

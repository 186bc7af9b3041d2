-- Answers of `read_line`: what its calls ask for, and what it promises.
use Rattle.std.proofs.Common.{◌≡◌, ℕ, List, Option, Some, None, Result, Ok, Err, sym, ap, ◌∙◌}
use Rattle.text_lines.specs.Lines.{at_line, item_added}
use Rattle.text_lines.proofs.Taking.{fault_due, fault_told, item_said, not_utf8_line, nothing_said}
use Rattle.witness_file.specs.LineReading.{line_said}
use Rattle.witness_file.specs.WitnessReading.{with_line, fault}
use Rattle.witness_file.specs.declared.line.WitnessLine.{WitnessLine}
use Rattle.witness_file.specs.declared.witness.WitKind.{WitKind}
use Rattle.witness_file.specs.declared.witness.WitKind.TheVariants.{NotUtf8, BadLine}
use Rattle.witness_file.specs.declared.reading.WitnessRead.{WitnessRead}
use Rattle.witness_file.proofs.reading.read_line.Goals as goal

pub returns-in_default-clause-read : goal.returns-in_default-clause-read
returns-in_default-clause-read c = fault_told (Unit {0}) c.fault.result (fault c.args.number NotUtf8)
    c.args.read.now _ c.fault.ensures
    (not_utf8_line fault NotUtf8 BadLine line_said with_line c.args.number c.args.line.now c.args.read.now
    c.in_default.ensures.cases.0)

pub returns-then-is_passed_over-clause-read : goal.returns-then-is_passed_over-clause-read
returns-then-is_passed_over-clause-read c = nothing_said fault NotUtf8 BadLine line_said with_line c.args.number
    c.args.line.now c.args.read.now
    c.in-Ok.ensures.cases.1 (sym c.is_passed_over.ensures ∙ c.if-is_passed_over.true)

pub returns-in_default-2-clause-read : goal.returns-in_default-2-clause-read
returns-in_default-2-clause-read c = fault_told (Unit {0}) c.fault-in_default-2.result (fault c.args.number BadLine)
    c.args.read.now _ c.fault-in_default-2.ensures
    (item_said fault NotUtf8 BadLine line_said with_line c.args.number c.args.line.now c.args.read.now None
    c.in-Ok.ensures.cases.1 (sym c.is_passed_over.ensures ∙ c.if-is_passed_over.false)
    (ap line_said (sym c.in-Ok.ensures.cases.0) ∙ sym c.in_ok-said.ensures ∙ c.in_default-2.is))

pub returns-in-Ok-add-clause-read : goal.returns-in-Ok-add-clause-read
returns-in-Ok-add-clause-read c =
    item_said fault NotUtf8 BadLine line_said with_line c.args.number c.args.line.now c.args.read.now
    (Some c.in-Some.said)
    c.in-Ok.ensures.cases.1 (sym c.is_passed_over.ensures ∙ c.if-is_passed_over.false)
    (ap line_said (sym c.in-Ok.ensures.cases.0) ∙ sym c.in_ok-said.ensures ∙ c.in-Some.is)
    ∙ ap (at_line fault c.args.number) c.in-Ok-add.ensures.read

pub returns-in-Err-Fault-clause-read : goal.returns-in-Err-Fault-clause-read
returns-in-Err-Fault-clause-read c = fault_told (Unit {0}) c.fault-in-Err-Fault.result
    (fault c.args.number c.in-Err-Fault.kind) c.add.new.read _ c.fault-in-Err-Fault.ensures
    (item_said fault NotUtf8 BadLine line_said with_line c.args.number c.args.line.now c.args.read.now
    (Some c.in-Some.said)
    c.in-Ok.ensures.cases.1 (sym c.is_passed_over.ensures ∙ c.if-is_passed_over.false)
    (ap line_said (sym c.in-Ok.ensures.cases.0) ∙ sym c.in_ok-said.ensures ∙ c.in-Some.is)
    ∙ ap (at_line fault c.args.number) (fault_due c.add.result c.in-Err-Fault.field-0 c.in-Err-Fault.kind
    c.add.new.read _ c.in-Err-Fault.is c.in-Err-Fault.field-0-is c.add.ensures.read))

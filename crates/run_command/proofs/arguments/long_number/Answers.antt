-- Answers of `long_number`: what its calls ask for, and what it promises.
use Rattle.std.proofs.Common.{sym, ◌∙◌}
use Rattle.text_lines.proofs.Numerals.{parsed}
use Rattle.run_command.proofs.arguments.long_number.Goals as goal

pub returns : goal.returns
returns c = c.ok.ensures.value ∙ parsed 64 c.args.text.now c.parse.result c.parse.ensures.value.0
    (sym c.is_numeral.ensures ∙ c.if-not-is_numeral.false)

-- Answers of `push_step`: what its calls ask for, and what it promises.
use Rattle.std.proofs.Common.{sym, ◌∙◌}
use Rattle.witness_file.proofs.Texts.{step_pushed}
use Rattle.witness_file.proofs.writing.push_step.Goals as goal

pub returns : goal.returns
returns c = step_pushed c.push_acts.result c.args.number c.args.acts.now c.args.out.now.items
    c.push_step_line.new.out.items c.push_acts.new.out.items
    (sym c.is_empty.ensures ∙ c.if-is_empty.false) c.in_ok-push_step_line.ensures c.push_acts.ensures

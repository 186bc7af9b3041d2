-- Answers of `compare_by_names`: what its calls ask for, and what it promises.
use Rattle.std.proofs.Common.{false, sym, ◌∙◌}
use Rattle.compare_command.proofs.Saying.{said_by, shows_nothing}
use Rattle.compare_command.proofs.comparing.compare_by_names.Goals as goal

pub returns-in-None-clause-compared : goal.returns-in-None-clause-compared
returns-in-None-clause-compared c =
    said_by c.args.names.now c.args.input.now c.args.output.now c.args.steps c.args.start false
    (shows_nothing c.args.names.now c.args.input.now c.args.output.now c.args.steps c.args.start
    (sym c.in-None.is ∙ c.in_ok-new.ensures)) c.said_of.result c.said_of.ensures.said

-- Answers of `compare_with`: what its calls ask for, and what it promises.
use Rattle.compare_command.proofs.Saying.{said_by, shows}
use Rattle.compare_command.proofs.comparing.compare_with.Goals as goal

pub returns-clause-compared : goal.returns-clause-compared
returns-clause-compared c =
    said_by c.args.names.now c.args.input.now c.args.output.now c.args.steps c.args.start c.is_alike.result
    (shows c.args.names.now c.args.input.now c.args.output.now c.args.steps c.args.start c.args.key c.requires
    c.in_ok-had.had c.in_ok-has.has c.in_ok-had.ensures c.in_ok-has.ensures c.is_alike.result c.is_alike.ensures)
    c.said_of.result c.said_of.ensures.said

-- Answers of `asked_of`: what its calls ask for, and what it promises.
use Rattle.std.proofs.Common.{[]}
use Rattle.require_sys.proofs.Steps.{none_there}
use Rattle.item_needs.proofs.classes.asked_of.Goals as goal

pub returns-in-None : goal.returns-in-None
returns-in-None c = none_there c.args.kept.now.members c.args.number [] c.in-None.ensures

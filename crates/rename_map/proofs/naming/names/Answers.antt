-- Answers of `names`: what its calls ask for, and what it promises.
use Rattle.rename_map.proofs.naming.names.Goals as goal

pub returns : goal.returns
returns c = c.names_beside.ensures c.args.rules.now c.args.input.now c.in_ok-fixed.ensures

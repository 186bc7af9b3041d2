-- Answers of `find_earlier`: what its calls ask for, and what it promises.
use Rattle.command_steps.proofs.Earlier.{found_applied, none_applied}
use Rattle.command_steps.proofs.texts.find_earlier.Goals as goal

pub returns-in-Some-clause-found : goal.returns-in-Some-clause-found
returns-in-Some-clause-found g c =
    found_applied c.earlier_at.result c.args.path.now _ _ _ c.in-Some.is c.earlier_at.ensures.found

pub returns-in-None-clause-found : goal.returns-in-None-clause-found
returns-in-None-clause-found g c = none_applied c.args.path.now c.in-None.is _ _ _

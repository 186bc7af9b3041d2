-- Answers of `kept_plan`: what its calls ask for, and what it promises.
use Rattle.command_frame.proofs.Steps.{then_makes}
use Rattle.shrink_command.specs.Due.{AreOptimised, FollowsCodes}
use Rattle.shrink_command.proofs.Planned.{kept_count}
use Rattle.shrink_command.proofs.planning.kept_plan.Goals as goal

pub lists_of-lists-requires : goal.lists_of-lists-requires
lists_of-lists-requires g c = kept_count c.args.rules.now c.args.set c.args.marked.now c.requires.kept

pub optimise_if-requires-clause-marks : goal.optimise_if-requires-clause-marks
optimise_if-requires-clause-marks g c κs within = kept_count c.args.rules.now c.args.set c.args.marked.now c.requires.kept

pub optimise_if-requires-clause-formed : goal.optimise_if-requires-clause-formed
optimise_if-requires-clause-formed g c κs within = λ n of at. c.requires.given.taken.formed n of at

pub optimise_if-requires-clause-typed : goal.optimise_if-requires-clause-typed
optimise_if-requires-clause-typed g c κs within = c.requires.given.typed

pub returns : goal.returns
returns g c =
    then_makes (AreOptimised c.args.rules.now c.args.set c.args.marked.now)
    (FollowsCodes c.args.rules.now c.args.old.now c.args.witness.now c.args.set c.args.marked.now) c.in_ok-optimised.optimised
    c.codes_plan.result c.in_ok-optimised.ensures c.codes_plan.ensures

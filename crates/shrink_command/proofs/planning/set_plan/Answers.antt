-- Answers of `set_plan`: what its calls ask for, and what it promises.
use Rattle.std.proofs.Common.{rules}
use Rattle.std.proofs.lemmas.Result.{err_from_is_err_and}
use Rattle.command_frame.proofs.Steps.{makes_stops, then_makes}
use Rattle.command_steps.specs.System.{IsSystem}
use Rattle.mark_core.specs.Marks.{Marks}
use Rattle.shrink_command.specs.Due.{AreMarks, FollowsMarks, FollowsSystem}
use Rattle.shrink_command.proofs.Planned.{kept_by}
use Rattle.shrink_command.proofs.planning.set_plan.Goals as goal

pub kept_plan-requires-clause-kept : goal.kept_plan-requires-clause-kept
kept_plan-requires-clause-kept g c κs within =
    let marks : Marks c.in_ok-sys.sys c.in_ok-marked.marked = search rules in
    kept_by c.args.rules.now c.args.set c.in_ok-sys.sys c.in_ok-marked.marked c.in_ok-sys.ensures.made marks

pub returns-in_err-sys : goal.returns-in_err-sys
returns-in_err-sys g c =
    let p = err_from_is_err_and c.from_residual.result c.from_residual.ensures.1 in
    rw (p.1, p.2) (makes_stops (IsSystem c.args.rules.now c.args.set)
    (FollowsSystem c.args.rules.now c.args.old.now c.args.witness.now c.args.set) c.in_err-sys.field-0.0 c.in_err-sys.ensures.made)

pub returns : goal.returns
returns g c =
    let marks : Marks c.in_ok-sys.sys c.in_ok-marked.marked = search rules in
    then_makes (IsSystem c.args.rules.now c.args.set)
    (FollowsSystem c.args.rules.now c.args.old.now c.args.witness.now c.args.set) c.in_ok-sys.sys c.kept_plan.result
    c.in_ok-sys.ensures.made
    (then_makes (AreMarks c.in_ok-sys.sys) (FollowsMarks c.args.rules.now c.args.old.now c.args.witness.now c.args.set)
    c.in_ok-marked.marked c.kept_plan.result marks c.kept_plan.ensures)

-- Answers of `find_trace`: what its calls ask for, and what it promises.
use Rattle.std.proofs.lemmas.Result.{err_from_is_err_and}
use Rattle.tree_io.specs.Files.{Files}
use Rattle.command_frame.proofs.Steps.{first_stops, then_made_by}
use Rattle.command_frame.specs.Steps.{IsFile}
use Rattle.command_frame.specs.declared.refusal.Quantity.TheVariants as quantity
use Rattle.retrace_command.specs.Due.{IsRetraced}
use Rattle.retrace_command.proofs.command.find_trace.Goals as goal

pub returns-in_err-text-clause-found : goal.returns-in_err-text-clause-found
returns-in_err-text-clause-found g c =
    let p = err_from_is_err_and c.from_residual.result c.from_residual.ensures.1 in
    rw (p.1, p.2) (first_stops (λ (fs : Files). IsFile fs quantity.Trace c.args.trace.now)
    (λ (fs : Files). IsRetraced c.args.map.now) c.in_err-text.field-0.0 _ _ c.in_err-text.ensures.found)

pub returns-clause-found : goal.returns-clause-found
returns-clause-found g c =
    then_made_by (λ (fs : Files). IsFile fs quantity.Trace c.args.trace.now) (IsRetraced c.args.map.now)
    c.in_ok-text.text _ _ c.in_ok-text.ensures.found _ c.as_slice.ensures c.plan_of.result c.plan_of.ensures.told

-- Answers of `RetraceFilesCommand::due_plan`: what its calls ask for, and what it promises.
use Rattle.std.proofs.lemmas.Result.{err_from_is_err_and}
use Rattle.tree_io.specs.Files.{Files}
use Rattle.command_frame.proofs.Steps.{first_stops, then_finds_by}
use Rattle.command_frame.specs.Steps.{IsFile}
use Rattle.command_frame.specs.declared.refusal.Quantity.TheVariants as quantity
use Rattle.retrace_command.specs.Due.{FollowsMapping}
use Rattle.retrace_command.proofs.command.RetraceFilesCommand.due_plan.Goals as goal

pub returns-in_err-map-clause-found : goal.returns-in_err-map-clause-found
returns-in_err-map-clause-found g c =
    let p = err_from_is_err_and c.from_residual.result c.from_residual.ensures.1 in
    rw (p.1, p.2) (first_stops (λ (fs : Files). IsFile fs quantity.Mapping c.args.self.now.mapping)
    (λ (fs : Files). FollowsMapping fs c.args.self.now.trace) c.in_err-map.field-0.0 _ _ c.in_err-map.ensures.found)

pub returns-clause-found : goal.returns-clause-found
returns-clause-found g c =
    then_finds_by (λ (fs : Files). IsFile fs quantity.Mapping c.args.self.now.mapping)
    (λ (fs : Files). FollowsMapping fs c.args.self.now.trace) c.in_ok-map.map _ c.as_slice.ensures c.find_trace.result
    _ _ _ c.in_ok-map.ensures.found c.find_trace.ensures.found

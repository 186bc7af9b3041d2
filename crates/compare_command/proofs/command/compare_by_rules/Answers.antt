-- Answers of `compare_by_rules`: what its calls ask for, and what it promises.
use Rattle.std.proofs.lemmas.Result.{err_from_is_err_and}
use Rattle.tree_io.specs.Files.{Files}
use Rattle.command_frame.proofs.Steps.{first_stops, then_finds}
use Rattle.compare_command.specs.Due.{FollowsMapping, IsMappingAt}
use Rattle.compare_command.proofs.command.compare_by_rules.Goals as goal

pub returns-in_err-mapping-clause-found : goal.returns-in_err-mapping-clause-found
returns-in_err-mapping-clause-found g c =
    let p = err_from_is_err_and c.from_residual.result c.from_residual.ensures.1 in
    rw (p.1, p.2) (first_stops (λ (fs : Files). IsMappingAt fs c.args.rules.now.mapping)
    (λ (fs : Files). FollowsMapping c.args.named.now c.args.rules.now fs) c.in_err-mapping.field-0.0 _ _
    c.in_err-mapping.ensures)

pub returns-clause-found : goal.returns-clause-found
returns-clause-found g c =
    then_finds (λ (fs : Files). IsMappingAt fs c.args.rules.now.mapping)
    (λ (fs : Files). FollowsMapping c.args.named.now c.args.rules.now fs) c.in_ok-mapping.mapping
    c.compare_by_mapping.result _ _ _ c.in_ok-mapping.ensures c.compare_by_mapping.ensures.found

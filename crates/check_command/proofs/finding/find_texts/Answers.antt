-- Answers of `find_texts`: what its calls ask for, and what it promises.
use Rattle.std.proofs.Common.{ap, arith, length}
use Rattle.std.proofs.lemmas.Result.{err_from_is_err_and}
use Rattle.tree_io.specs.Files.{Files}
use Rattle.command_frame.proofs.Steps.{first_stops, then_finds_by}
use Rattle.command_frame.specs.Steps.{IsFile}
use Rattle.command_frame.specs.declared.refusal.Quantity.TheVariants as quantity
use Rattle.check_command.specs.Due.{FollowsMapping}
use Rattle.check_command.proofs.finding.find_texts.Goals as goal

pub find_witness-requires : goal.find_witness-requires
find_witness-requires g c = omega (arith, ap length c.as_slice.ensures, c.in_ok-map.ensures.short)

pub returns-in_err-map : goal.returns-in_err-map
returns-in_err-map g c =
    let p = err_from_is_err_and c.from_residual.result c.from_residual.ensures.1 in
    rw (p.1, p.2) (first_stops (λ (fs : Files). IsFile fs quantity.Mapping c.args.mapping.now)
    (λ (fs : Files). FollowsMapping fs c.args.witness.now) c.in_err-map.field-0.0 _ _ c.in_err-map.ensures.found)

pub returns : goal.returns
returns g c =
    then_finds_by (λ (fs : Files). IsFile fs quantity.Mapping c.args.mapping.now)
    (λ (fs : Files). FollowsMapping fs c.args.witness.now) c.in_ok-map.map _ c.as_slice.ensures c.find_witness.result
    _ _ _ c.in_ok-map.ensures.found c.find_witness.ensures

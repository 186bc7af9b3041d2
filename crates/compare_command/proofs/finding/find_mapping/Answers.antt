-- Answers of `find_mapping`: what its calls ask for, and what it promises.
use Rattle.std.proofs.Common.{ap, arith, length}
use Rattle.std.proofs.lemmas.Result.{err_from_is_err_and}
use Rattle.tree_io.specs.Files.{Files}
use Rattle.command_frame.proofs.Steps.{first_stops, then_made_by}
use Rattle.command_frame.specs.Steps.{IsFile}
use Rattle.command_frame.specs.declared.refusal.Quantity.TheVariants as quantity
use Rattle.command_steps.specs.Texts.{IsMapping}
use Rattle.compare_command.proofs.finding.find_mapping.Goals as goal

pub mapping_in-requires : goal.mapping_in-requires
mapping_in-requires g c = omega (arith, ap length c.as_slice.ensures, c.in_ok-map.ensures.short)

pub returns-in_err-map : goal.returns-in_err-map
returns-in_err-map g c =
    let p = err_from_is_err_and c.from_residual.result c.from_residual.ensures.1 in
    rw (p.1, p.2) (first_stops (λ (fs : Files). IsFile fs quantity.Mapping c.args.path.now)
    (λ (fs : Files). IsMapping) c.in_err-map.field-0.0 _ _ c.in_err-map.ensures.found)

pub returns : goal.returns
returns g c =
    then_made_by (λ (fs : Files). IsFile fs quantity.Mapping c.args.path.now) IsMapping c.in_ok-map.map _ _
    c.in_ok-map.ensures.found _ c.as_slice.ensures c.mapping_in.result c.mapping_in.ensures

-- Answers of `earlier_in`: what its calls ask for, and what it promises.
use Rattle.std.proofs.Common.{◌≡◌, Some, Ok, refl}
use Rattle.std.proofs.lemmas.Result.{err_from_is_err_and}
use Rattle.mapping_file.specs.declared.mapping.Mapping.{Mapping}
use Rattle.command_frame.proofs.Steps.{makes_stops, then_makes}
use Rattle.command_steps.specs.Texts.{IsMapping}
use Rattle.command_steps.proofs.Earlier.{read_has_text}
use Rattle.command_steps.proofs.texts.earlier_in.Goals as goal

pub returns-in_err-mapping-clause-made : goal.returns-in_err-mapping-clause-made
returns-in_err-mapping-clause-made c =
    let p = err_from_is_err_and c.from_residual.result c.from_residual.ensures.1 in
    rw (p.1, p.2) (makes_stops (IsMapping c.args.bytes.now) (λ (mapping : Mapping) due. due ≡ Ok (Some mapping))
    c.in_err-mapping.field-0.0 c.in_err-mapping.ensures)

pub returns-clause-names : goal.returns-clause-names
returns-clause-names c = read_has_text c.args.bytes.now c.in_ok-mapping.mapping c.in_ok-mapping.ensures

pub returns-clause-made : goal.returns-clause-made
returns-clause-made c =
    then_makes (IsMapping c.args.bytes.now) (λ (mapping : Mapping) due. due ≡ Ok (Some mapping)) c.in_ok-mapping.mapping
    (Ok (Some c.in_ok-mapping.mapping)) c.in_ok-mapping.ensures refl

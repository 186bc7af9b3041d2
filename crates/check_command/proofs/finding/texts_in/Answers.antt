-- Answers of `texts_in`: what its calls ask for, and what it promises.
use Rattle.std.proofs.Common.{◌≡◌, Result, Ok, refl}
use Rattle.std.proofs.lemmas.Result.{err_from_is_err_and}
use Rattle.mapping_file.specs.declared.mapping.Mapping.{Mapping}
use Rattle.witness_file.specs.declared.witness.Witness.{Witness}
use Rattle.command_frame.proofs.Steps.{had, makes_stops, stopped, then_makes}
use Rattle.command_frame.specs.Steps.{Then}
use Rattle.command_frame.specs.declared.refusal.Refusal.{Refusal}
use Rattle.command_steps.specs.Texts.{IsMapping, IsWitness}
use Rattle.check_command.specs.declared.finding.Texts.{Texts}
use Rattle.check_command.proofs.finding.texts_in.Goals as goal

-- both texts
abbrev Are : Mapping → Witness → Result Texts Refusal → Type 0
Are mapping witness due = due ≡ Ok (record { mapping = mapping; witness = witness })

pub returns-in_err-mapping : goal.returns-in_err-mapping
returns-in_err-mapping c =
    let p = err_from_is_err_and c.from_residual.result c.from_residual.ensures.1 in
    rw (p.1, p.2) (makes_stops (IsMapping c.args.map.now) (λ (m : Mapping). Then (IsWitness c.args.wit.now) (Are m))
    c.in_err-mapping.field-0.0 c.in_err-mapping.ensures)

pub returns-in_err-witness : goal.returns-in_err-witness
returns-in_err-witness c =
    let p = err_from_is_err_and c.from_residual-in_err-witness.result c.from_residual-in_err-witness.ensures.1 in
    rw (p.1, p.2) (then_makes (IsMapping c.args.map.now) (λ (m : Mapping). Then (IsWitness c.args.wit.now) (Are m))
    c.in_ok-mapping.mapping (stopped c.in_err-witness.field-0.0) c.in_ok-mapping.ensures
    (makes_stops (IsWitness c.args.wit.now) (Are c.in_ok-mapping.mapping) c.in_err-witness.field-0.0
    c.in_err-witness.ensures))

pub returns : goal.returns
returns c =
    let texts : Texts = record { mapping = c.in_ok-mapping.mapping; witness = c.in_ok-witness.witness } in
    then_makes (IsMapping c.args.map.now) (λ (m : Mapping). Then (IsWitness c.args.wit.now) (Are m))
    c.in_ok-mapping.mapping (had texts) c.in_ok-mapping.ensures
    (then_makes (IsWitness c.args.wit.now) (Are c.in_ok-mapping.mapping) c.in_ok-witness.witness (had texts)
    c.in_ok-witness.ensures refl)

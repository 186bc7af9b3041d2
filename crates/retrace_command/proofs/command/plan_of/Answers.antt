-- Answers of `plan_of`: what its calls ask for, and what it promises.
use Rattle.std.proofs.Common.{◌≡◌, ℕ, List, Result, Ok}
use Rattle.std.proofs.lemmas.Result.{err_from_is_err_and}
use Rattle.mapping_file.specs.declared.mapping.Mapping.{Mapping}
use Rattle.retrace_core.specs.Retraced.{retraced}
use Rattle.command_frame.proofs.Steps.{makes_stops, then_makes}
use Rattle.command_frame.specs.declared.command.Plan.{Plan}
use Rattle.command_frame.specs.declared.refusal.Refusal.{Refusal}
use Rattle.retrace_command.specs.Due.{IsMapping, says}
use Rattle.retrace_command.proofs.command.plan_of.Goals as goal

-- the trace is said
abbrev Says : List ℕ → Mapping → Result Plan Refusal → Type 0
Says trace mapping due = due ≡ Ok (says (retraced mapping trace))

pub returns-in_err-mapping-clause-told : goal.returns-in_err-mapping-clause-told
returns-in_err-mapping-clause-told c =
    let p = err_from_is_err_and c.from_residual.result c.from_residual.ensures.1 in
    rw (p.1, p.2) (makes_stops (IsMapping c.args.map.now) (Says c.args.trace.now) c.in_err-mapping.field-0.0
    c.in_err-mapping.ensures)

pub returns-clause-told : goal.returns-clause-told
returns-clause-told c =
    then_makes (IsMapping c.args.map.now) (Says c.args.trace.now) c.in_ok-mapping.mapping
    (Ok (record { files = c.new.result; text = c.in_ok-text.text })) c.in_ok-mapping.ensures
    (λ i. Ok (record { files = c.new.ensures i; text = c.in_ok-text.ensures i }))

-- Answers of `all_decoded`: what its calls ask for, and what it promises.
use Rattle.std.proofs.Common.{◌≡◌, ℤ, ℕ, List, Ok, Result, sym, ap, subst, ◌∙◌}
use Rattle.std.proofs.lemmas.Result.{err_from_is_err_and}
use Rattle.jv_base.specs.Outcome.{FaultIs}
use Rattle.format_reading.specs.declared.fault.FormatKind.{FormatKind}
use Rattle.class_model.specs.declared.op.Op.{Op}
use Rattle.class_model.specs.InstructionMeaning.{aim_at}
use Rattle.code_read.specs.declared.decoding.Decoded.{Decoded}
use Rattle.code_read.specs.declared.fault.CodeFault.{CodeFault}
use Rattle.code_read.specs.Targets.{collected, placed_aimed, starts_of}
use Rattle.code_read.specs.bodies.Targets.{aim_in}
use Rattle.code_read.proofs.Collecting.{then_step, then_fault}
use Rattle.code_read.proofs.decoding.all_decoded.Goals as goal

pub returns-in_err-ops : goal.returns-in_err-ops
returns-in_err-ops c =
    let ps = c.args.placed in
    let p = err_from_is_err_and c.from_residual-in_err-ops.result c.from_residual-in_err-ops.ensures.1 in
    let same : aim_in c.as_slice-3.result.now ≡ aim_at (starts_of ps) = ap aim_in c.as_slice-3.ensures.value
    ∙ (λ i target. c.in_ok-table.ensures target i) ∙ ap (λ qs. aim_at (starts_of qs)) c.as_slice-2.ensures in
    rw (p.1, p.2) (then_fault (collected (placed_aimed (aim_at (starts_of ps))) ps)
    (λ (ops : List Op). let R : Result Decoded CodeFault = Ok
    (record { ops = ops; starts = starts_of ps }) in R) c.in_err-ops.field-0.0
    (subst (λ (aim : ℤ → Result ℕ FormatKind). FaultIs c.in_err-ops.field-0.0
    (collected (placed_aimed aim) ps)) same c.in_err-ops.ensures))

pub returns : goal.returns
returns c =
    let ps = c.args.placed in
    let same : aim_in c.as_slice-3.result.now ≡ aim_at (starts_of ps) = ap aim_in c.as_slice-3.ensures.value
    ∙ (λ i target. c.in_ok-table.ensures target i) ∙ ap (λ qs. aim_at (starts_of qs)) c.as_slice-2.ensures in
    let starts : c.in_ok-starts.starts ≡ starts_of ps = c.in_ok-starts.ensures ∙ ap starts_of c.as_slice.ensures in
    then_step (collected (placed_aimed (aim_at (starts_of ps))) ps)
    (λ (ops : List Op). let R : Result Decoded CodeFault = Ok
    (record { ops = ops; starts = starts_of ps }) in R) c.in_ok-ops.ops
    (ap (λ (aim : ℤ → Result ℕ FormatKind). collected (placed_aimed aim) ps) (sym same) ∙ c.in_ok-ops.ensures)
    ∙ ap (λ (s : List ℕ). let R : Result Decoded CodeFault = Ok (record { ops = c.in_ok-ops.ops; starts = s }) in R)
    (sym starts)

-- Answers of `check_branches`: what its calls ask for, and what it promises.
use Rattle.std.proofs.Common.{◌≡◌, Err, sym, subst}
use Rattle.std.proofs.lemmas.Result.{err_from_is_err_and}
use Rattle.class_model.specs.declared.code.Ins.{Ins}
use Rattle.class_model.specs.WriteLimits.{branch_to, branch_fits, branches_fit}
use Rattle.code_write.proofs.Branches.{branch_fault}
use Rattle.code_write.proofs.encoding.check_branches.Goals as goal

pub returns-in_err-check_branch : goal.returns-in_err-check_branch
returns-in_err-check_branch c =
    let all = c.args.places.now in
    let ins = c.args.ins.now in
    let n = c.loop-number.number in
    let p = err_from_is_err_and c.from_residual.result c.from_residual.ensures.1 in
    let limit = c.in_err-check_branch.field-0.0 in
    rw (p.1, p.2) (sym (branch_fault all ins n _ (branches_fit all 0 ins) limit c.loop-number-test.true
    (subst (λ (i : Ins). branch_fits all n (branch_to i.op) ≡ Err limit) c.index-ins-number.is
    (sym c.in_err-check_branch.ensures)) c.loop-number.invariant))

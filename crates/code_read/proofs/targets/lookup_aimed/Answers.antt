-- Answers of `lookup_aimed`: what its calls ask for, and what it promises.
use Rattle.std.proofs.Common.{Ok, sym}
use Rattle.std.proofs.lemmas.Result.{err_from_is_err_and}
use Rattle.class_model.specs.declared.op.Op.TheVariants as op
use Rattle.class_model.specs.InstructionMeaning.{aimed}
use Rattle.code_read.specs.Targets.{collected, case_aimed}
use Rattle.code_read.specs.bodies.Targets.{aim_in}
use Rattle.code_read.proofs.Collecting.{second_step, second_fault}
use Rattle.code_read.proofs.targets.lookup_aimed.Goals as goal

pub returns-in_err-cases : goal.returns-in_err-cases
returns-in_err-cases c =
    let f = aimed (aim_in c.args.table.now) c.args.at in
    let p = err_from_is_err_and c.from_residual.result c.from_residual.ensures.1 in
    rw (p.1, p.2) (second_fault (f c.args.default) (λ other. collected
    (case_aimed (aim_in c.args.table.now) c.args.at) c.args.matches.now)
    (λ other cases. Ok (op.LookupSwitch other cases)) c.in-Ok.to c.in_err-cases.field-0.0
    (sym c.in-Ok.ensures) c.in_err-cases.ensures)

pub returns : goal.returns
returns c =
    let f = aimed (aim_in c.args.table.now) c.args.at in
    second_step (f c.args.default)
    (λ other. collected (case_aimed (aim_in c.args.table.now) c.args.at) c.args.matches.now)
    (λ other cases. Ok (op.LookupSwitch other cases)) c.in-Ok.to c.in_ok-cases.cases
    (sym c.in-Ok.ensures) c.in_ok-cases.ensures

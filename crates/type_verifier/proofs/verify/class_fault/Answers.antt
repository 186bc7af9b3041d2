-- Answers of `class_fault`: what its calls ask for, and what it promises.
use Rattle.std.proofs.Common.{ℕ, ◌<◌, length, Option, ◌∙◌, sym, arith}
use Rattle.link_check.proofs.First.{first_here, first_next}
use Rattle.class_model.specs.declared.class.Method.{Method}
use Rattle.type_verifier.specs.declared.fault.TypeFault.{TypeFault}
use Rattle.type_verifier.specs.bodies.FirstFaults.{fault_of, method_checked}
use Rattle.type_verifier.proofs.verify.class_fault.Goals as goal

pub returns-in-Some : goal.returns-in-Some
returns-in-Some c =
    let h : ℕ × Method → Option TypeFault =
    λ p. fault_of (method_checked c.args.set.now c.args.own c.args.class.now p.0 p.1) in
    let number = c.loop-number.number in
    let within : number < length c.args.class.now.methods = omega
    (arith, c.loop-number-test.true, c.len-number-end.ensures) in
    sym (c.loop-number.invariant
    ∙ first_here h 0 c.args.class.now.methods number number c.index-method.result.now c.in-Some.fault (omega arith)
    within c.index-method.ensures (sym c.in_ok-fault.ensures ∙ c.in-Some.is))

pub loop-number-preserved : goal.loop-number-preserved
loop-number-preserved c =
    let h : ℕ × Method → Option TypeFault =
    λ p. fault_of (method_checked c.args.set.now c.args.own c.args.class.now p.0 p.1) in
    let number = c.loop-number.number in
    let within : number < length c.args.class.now.methods = omega
    (arith, c.loop-number-test.true, c.len-number-end.ensures) in
    c.loop-number.invariant
    ∙ first_next h 0 c.args.class.now.methods number number c.index-method.result.now (omega arith) within
    c.index-method.ensures (sym c.in_ok-fault.ensures ∙ c.in_default.is)

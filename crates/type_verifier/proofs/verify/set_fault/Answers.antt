-- Answers of `set_fault`: what its calls ask for, and what it promises.
use Rattle.std.proofs.Common.{ℕ, ◌<◌, length, List, Option, ◌∙◌, ap, sym, arith}
use Rattle.std.specs.List.{enumerate_from}
use Rattle.link_check.proofs.First.{first_flat, first_here, first_next}
use Rattle.class_model.specs.declared.class.Class.{Class}
use Rattle.class_pool.specs.Resolution.{first}
use Rattle.type_verifier.specs.declared.fault.TypeFault.{TypeFault}
use Rattle.type_verifier.specs.bodies.FirstFaults.{faults_of}
use Rattle.type_verifier.proofs.verify.set_fault.Goals as goal

pub loop-number-init : goal.loop-number-init
loop-number-init c = first_flat (λ (p : ℕ × Class). faults_of c.args.set.now p.0 p.1) (enumerate_from 0 c.args.set.now)

pub returns-in-Some : goal.returns-in-Some
returns-in-Some c =
    let h : ℕ × Class → Option TypeFault = λ p. first (faults_of c.args.set.now p.0 p.1) in
    let number = c.loop-number.number in
    let within : number < length c.args.set.now = omega (arith, c.loop-number-test.true, c.len-number-end.ensures) in
    sym (c.loop-number.invariant
    ∙ first_here h 0 c.args.set.now number number c.class.result.now c.in-Some.fault (omega arith) within
    c.class.ensures.is (sym (c.in_ok-fault.ensures ∙ ap (λ (cs : List Class).
    first (faults_of cs number c.class.result.now)) c.requires.same) ∙ c.in-Some.is))

pub loop-number-preserved : goal.loop-number-preserved
loop-number-preserved c =
    let h : ℕ × Class → Option TypeFault = λ p. first (faults_of c.args.set.now p.0 p.1) in
    let number = c.loop-number.number in
    let within : number < length c.args.set.now = omega (arith, c.loop-number-test.true, c.len-number-end.ensures) in
    c.loop-number.invariant
    ∙ first_next h 0 c.args.set.now number number c.class.result.now (omega arith) within c.class.ensures.is
    (sym (c.in_ok-fault.ensures ∙ ap (λ (cs : List Class).
    first (faults_of cs number c.class.result.now)) c.requires.same) ∙ c.in_default.is)

-- Answers of `first_fault`: what its calls ask for, and what it promises.
use Rattle.std.proofs.Common.{ℕ, ◌+◌, ◌<◌, length, Option, ◌∙◌, ap, sym, arith}
use Rattle.std.specs.List.{enumerate_from}
use Rattle.std.specs.Option.{option_or}
use Rattle.class_model.specs.declared.class.Class.{Class}
use Rattle.class_pool.specs.Resolution.{first}
use Rattle.link_check.specs.declared.fault.ProfileFault.{ProfileFault}
use Rattle.link_check.specs.Profile.{faults_of}
use Rattle.link_check.proofs.First.{first_flat, first_from, more_at, none_or, some_or}
use Rattle.link_check.proofs.rules.profile.first_fault.Goals as goal

pub loop-number-init : goal.loop-number-init
loop-number-init c = record {
  tested = c.in_ok-tested.ensures c.args.set.now;
  fault = first_flat (λ (p : ℕ × Class). faults_of c.args.set.now p.0 p.1) (enumerate_from 0 c.args.set.now);
}

pub returns-then-is_some : goal.returns-then-is_some
returns-then-is_some c =
    let h : ℕ × Class → Option ProfileFault = λ p. first (faults_of c.args.set.now p.0 p.1) in
    let rest : Option ProfileFault = first_from h 0 c.args.set.now (c.loop-number.number + 1) in
    let within : c.loop-number.number < length c.args.set.now = omega
    (arith, c.loop-number-test.true, c.len-number-end.ensures) in
    sym (
    c.loop-number.invariant.fault
    ∙ more_at h 0 c.args.set.now c.loop-number.number c.loop-number.number c.class.result.now
    (omega arith) within c.class.ensures.is
    ∙ ap (λ (o : Option ProfileFault). option_or o rest) (sym c.in_ok-fault.ensures.fault)
    ∙ some_or c.in_ok-fault.fault rest (sym c.is_some.ensures ∙ c.if-is_some.true)
    )

pub loop-number-preserved : goal.loop-number-preserved
loop-number-preserved c =
    let h : ℕ × Class → Option ProfileFault = λ p. first (faults_of c.args.set.now p.0 p.1) in
    let rest : Option ProfileFault = first_from h 0 c.args.set.now (c.loop-number.number + 1) in
    let within : c.loop-number.number < length c.args.set.now = omega
    (arith, c.loop-number-test.true, c.len-number-end.ensures) in
    record {
      tested = c.in_ok-fault.ensures.tested;
      fault = c.loop-number.invariant.fault
          ∙ more_at h 0 c.args.set.now c.loop-number.number c.loop-number.number c.class.result.now
          (omega arith) within c.class.ensures.is
          ∙ ap (λ (o : Option ProfileFault). option_or o rest) (sym c.in_ok-fault.ensures.fault)
          ∙ none_or c.in_ok-fault.fault rest (sym c.is_some.ensures ∙ c.if-is_some.false);
    }

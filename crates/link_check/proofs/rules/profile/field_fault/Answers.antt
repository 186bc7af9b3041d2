-- Answers of `field_fault`: what its calls ask for, and what it promises.
use Rattle.std.proofs.Common.{ℕ, ◌<◌, length, Option, Some, ◌∙◌, sym, arith}
use Rattle.class_model.specs.declared.class.Field.{Field}
use Rattle.link_check.specs.declared.fault.ProfileFault.{ProfileFault}
use Rattle.link_check.specs.Profile.{fault_at, kinds_of_field}
use Rattle.link_check.proofs.First.{fault_is, fault_none, first_here, first_next}
use Rattle.link_check.proofs.rules.profile.field_fault.Goals as goal

pub returns-in-Some : goal.returns-in-Some
returns-in-Some c =
    let h : ℕ × Field → Option ProfileFault = λ p. fault_at c.args.number (Some p.0)
    (kinds_of_field c.args.set.now c.args.number c.args.class.now p.0 p.1) in
    let i : ℕ = c.loop-index.index in
    let f : Field = c.index-field.result.now in
    let within : i < length c.args.class.now.fields = omega (arith, c.loop-index-test.true, c.len-index-end.ensures) in
    let fault : ProfileFault = record { class = c.args.number; member = Some i; kind = c.in-Some.kind } in
    sym (
    c.loop-index.invariant
    ∙ first_here h 0 c.args.class.now.fields i i f fault (omega arith) within c.index-field.ensures
    (fault_is c.args.number (Some i)
    (kinds_of_field c.args.set.now c.args.number c.args.class.now i f) c.kind_of_field.result c.in-Some.kind
    c.kind_of_field.ensures c.in-Some.is)
    )

pub loop-index-preserved : goal.loop-index-preserved
loop-index-preserved c =
    let h : ℕ × Field → Option ProfileFault = λ p. fault_at c.args.number (Some p.0)
    (kinds_of_field c.args.set.now c.args.number c.args.class.now p.0 p.1) in
    let i : ℕ = c.loop-index.index in
    let f : Field = c.index-field.result.now in
    let within : i < length c.args.class.now.fields = omega (arith, c.loop-index-test.true, c.len-index-end.ensures) in
    c.loop-index.invariant
    ∙ first_next h 0 c.args.class.now.fields i i f (omega arith) within c.index-field.ensures
    (fault_none c.args.number (Some i)
    (kinds_of_field c.args.set.now c.args.number c.args.class.now i f) c.kind_of_field.result c.kind_of_field.ensures
    c.in_default.is)

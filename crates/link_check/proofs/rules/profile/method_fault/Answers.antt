-- Answers of `method_fault`: what its calls ask for, and what it promises.
use Rattle.std.proofs.Common.{◌≡◌, ℕ, ◌+◌, ◌<◌, true, false, length, Option, Some, ◌∙◌, ap, sym, subst, arith}
use Rattle.std.specs.List.{enumerate_from, filter_map}
use Rattle.std.specs.Option.{option_map_or}
use Rattle.class_model.specs.declared.class.Method.{Method}
use Rattle.class_pool.specs.declared.id.ClassId.TheVariants.{Prog}
use Rattle.class_pool.specs.Found.{row_at}
use Rattle.class_pool.specs.Resolution.{first}
use Rattle.link_check.specs.declared.fault.ProfileFault.{ProfileFault}
use Rattle.link_check.specs.Profile.{fault_at, kinds_of_method}
use Rattle.link_check.proofs.First.{fault_is, fault_none, first_here, first_next}
use Rattle.link_check.proofs.Methods.{at_method}
use Rattle.link_check.proofs.rules.profile.method_fault.Goals as goal

pub kind_of_method-requires-clause-method : goal.kind_of_method-requires-clause-method
kind_of_method-requires-clause-method c =
    let within : c.loop-at.at < length c.args.class.now.methods = omega
    (arith, c.loop-at-test.true, c.len-at-end.ensures) in
    subst (λ (n : ℕ). option_map_or (λ row. row.is_method)
    (row_at c.args.set.now (record { class = Prog c.args.number; index = n + c.loop-at.at })) false ≡ true)
    (sym c.len-before.ensures)
    (at_method c.args.set.now c.args.number c.loop-at.at c.args.class.now c.index-method.result.now c.requires.class
    within)

pub loop-at-init : goal.loop-at-init
loop-at-init c =
    let h : ℕ × Method → Option ProfileFault = λ p. fault_at c.args.number (Some p.0)
    (kinds_of_method c.args.set.now c.args.number c.args.class.now p.0 p.1) in
    let n : ℕ = length c.args.class.now.fields in
    let e : n ≡ n + 0 = omega arith in
    record {
      tested = c.requires.tested;
      fault = ap (λ (k : ℕ). first (filter_map h (enumerate_from k c.args.class.now.methods))) e;
    }

pub returns-in-Some-clause-fault : goal.returns-in-Some-clause-fault
returns-in-Some-clause-fault c =
    let h : ℕ × Method → Option ProfileFault = λ p. fault_at c.args.number (Some p.0)
    (kinds_of_method c.args.set.now c.args.number c.args.class.now p.0 p.1) in
    let i : ℕ = c.len-before.result + c.loop-at.at in
    let m : Method = c.index-method.result.now in
    let within : c.loop-at.at < length c.args.class.now.methods = omega
    (arith, c.loop-at-test.true, c.len-at-end.ensures) in
    let fault : ProfileFault = record { class = c.args.number; member = Some i; kind = c.in-Some.kind } in
    sym (
    c.loop-at.invariant.fault
    ∙ first_here h (length c.args.class.now.fields) c.args.class.now.methods c.loop-at.at i m fault
    (ap (λ (n : ℕ). n + c.loop-at.at) c.len-before.ensures) within c.index-method.ensures
    (fault_is c.args.number (Some i)
    (kinds_of_method c.args.set.now c.args.number c.args.class.now i m) c.in_ok-kind.field-0 c.in-Some.kind
    c.in_ok-kind.ensures.kind c.in-Some.is)
    )

pub loop-at-preserved : goal.loop-at-preserved
loop-at-preserved c =
    let h : ℕ × Method → Option ProfileFault = λ p. fault_at c.args.number (Some p.0)
    (kinds_of_method c.args.set.now c.args.number c.args.class.now p.0 p.1) in
    let i : ℕ = c.len-before.result + c.loop-at.at in
    let m : Method = c.index-method.result.now in
    let within : c.loop-at.at < length c.args.class.now.methods = omega
    (arith, c.loop-at-test.true, c.len-at-end.ensures) in
    record {
      tested = c.in_ok-kind.ensures.tested;
      fault = c.loop-at.invariant.fault
          ∙ first_next h (length c.args.class.now.fields) c.args.class.now.methods c.loop-at.at i m
          (ap (λ (n : ℕ). n + c.loop-at.at) c.len-before.ensures) within c.index-method.ensures
          (fault_none c.args.number (Some i)
          (kinds_of_method c.args.set.now c.args.number c.args.class.now i m) c.in_ok-kind.field-0
          c.in_ok-kind.ensures.kind c.in_default.is);
    }

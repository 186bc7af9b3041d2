-- Answers of `lower_cases`: what its calls ask for, and what it promises.
use Rattle.std.proofs.Common.{◌<◌, length, subst, take, take_all, arith}
use Rattle.std.specs.List.{All}
use Rattle.std.proofs.lemmas.List.Elements.{All-get_or, All-more, All-weaker}
use Rattle.class_model.specs.declared.op.Case.{Case}
use Rattle.const_facts.specs.Worklist.{Due, Flows}
use Rattle.const_facts.proofs.Lowering.{grows_trans, flows_grow}
use Rattle.const_facts.proofs.Taking.{cases_from, cases_to}
use Rattle.const_facts.proofs.work.lower_cases.Goals as goal

pub lower-requires-clause-to : goal.lower-requires-clause-to
lower-requires-clause-to c =
    All-get_or (λ (k : Case). k.to < length c.args.code.now.ins) c.args.cases.now
    c.loop-case.case-index _
    c.loop-case-test.true
    (cases_from (λ t. t < length c.args.code.now.ins) c.args.cases.now c.requires.below)

pub lower-requires-clause-due : goal.lower-requires-clause-due
lower-requires-clause-due c =
    All-get_or (λ (k : Case). Due c.args.code.now c.args.slot c.args.out k.to) c.args.cases.now
    c.loop-case.case-index _ c.loop-case-test.true
    (cases_from (Due c.args.code.now c.args.slot c.args.out) c.args.cases.now c.requires.due)

pub loop-case-preserved : goal.loop-case-preserved
loop-case-preserved c =
    let grows = c.in_ok-lower.ensures.grows in (
      c.in_ok-lower.ensures.above,
      grows_trans c.args.work.now c.loop-case.work c.lower.new.work c.loop-case.invariant.1 grows,
      All-more (λ (k : Case). Flows c.lower.new.work c.args.out k.to) c.args.cases.now
          c.loop-case.case-index _
          c.loop-case-test.true
          (All-weaker (λ (k : Case). Flows c.loop-case.work c.args.out k.to)
          (λ (k : Case). Flows c.lower.new.work c.args.out k.to)
          (λ k f. flows_grow c.loop-case.work c.lower.new.work c.args.out k.to grows f)
          (take c.loop-case.case-index c.args.cases.now) c.loop-case.invariant.2)
          c.in_ok-lower.ensures.flows,
    )

pub returns-clause-flows : goal.returns-clause-flows
returns-clause-flows c =
    cases_to (Flows c.loop-case.work c.args.out) c.args.cases.now
    (subst (All (λ (k : Case). Flows c.loop-case.work c.args.out k.to))
    (take_all c.loop-case.case-index c.args.cases.now (omega (arith, c.loop-case-test.false)))
    c.loop-case.invariant.2)

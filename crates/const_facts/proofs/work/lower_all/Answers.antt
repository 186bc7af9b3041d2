-- Answers of `lower_all`: what its calls ask for, and what it promises.
use Rattle.std.proofs.Common.{subst, take, take_all, arith}
use Rattle.std.specs.List.{All}
use Rattle.std.proofs.lemmas.List.Elements.{All-get_or, All-more}
use Rattle.const_facts.specs.Worklist.{Due, Flows}
use Rattle.const_facts.proofs.Lowering.{grows_trans}
use Rattle.const_facts.proofs.Taking.{all_flow}
use Rattle.const_facts.proofs.work.lower_all.Goals as goal

pub lower-requires-clause-due : goal.lower-requires-clause-due
lower-requires-clause-due c =
    All-get_or (Due c.args.code.now c.args.slot c.args.out) c.args.places.now c.loop-to.to-index 0
    c.loop-to-test.true c.requires.due

pub loop-to-preserved : goal.loop-to-preserved
loop-to-preserved c =
    let grows = c.in_ok-lower.ensures.grows in (
      c.in_ok-lower.ensures.above,
      grows_trans c.args.work.now c.loop-to.work c.lower.new.work c.loop-to.invariant.1 grows,
      All-more (Flows c.lower.new.work c.args.out) c.args.places.now c.loop-to.to-index 0
          c.loop-to-test.true
          (all_flow c.loop-to.work c.lower.new.work c.args.out
          (take c.loop-to.to-index c.args.places.now) grows
          c.loop-to.invariant.2)
          c.in_ok-lower.ensures.flows,
    )

pub returns-clause-flows : goal.returns-clause-flows
returns-clause-flows c =
    subst (All (Flows c.loop-to.work c.args.out))
    (take_all c.loop-to.to-index c.args.places.now (omega (arith, c.loop-to-test.false)))
    c.loop-to.invariant.2

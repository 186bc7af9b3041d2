-- Answers of `may_stand_on`: what its calls ask for, and what it promises.
use Rattle.std.proofs.Common.{◌≡◌, ◌∙◌, ◌-◌, true, rules, sym, arith}
use Rattle.edit_legal.specs.Decidable.{may_stand}
use Rattle.edit_legal.proofs.Ranges.{stand_step}
use Rattle.edit_legal.proofs.constants.may_stand_on.Goals as goal

pub loop-preserved : goal.loop-preserved
loop-preserved c =
    let known = c.args.known.now in
    let fact = c.args.fact.now in
    let stands : may_stand known.code.now known.acts.now known.facts known.targets.items
    c.args.lists.now c.args.entries.now c.args.number fact.slot fact.value c.loop.at ≡ true =
    search rules in (
      sym (stand_step known.code.now known.acts.now known.facts known.targets.items
          c.args.lists.now c.args.entries.now c.args.number fact.slot fact.value c.loop.at
          c.args.count c.loop.counter c.loop-test.true stands) ∙ c.loop.invariant.0,
      omega (arith, c.loop.invariant.1),
    )

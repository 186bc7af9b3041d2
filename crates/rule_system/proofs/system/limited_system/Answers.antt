-- Answers of `limited_system`: what its calls ask for, and what it promises.
use Rattle.require_sys.specs.Requires.{requires}
use Rattle.rule_system.proofs.Limiting.{system_is}
use Rattle.rule_system.proofs.system.limited_system.Goals as goal

pub returns : goal.returns
returns c =
    system_is (requires c.args.numbered.now.set.now c.args.kept.now) c.in_ok-needs.needs c.count.result
    c.in_ok-seeds.seeds c.in_ok-pairs.pairs c.count.ensures c.in_ok-seeds.ensures c.in_ok-needs.ensures
    c.in_ok-pairs.ensures

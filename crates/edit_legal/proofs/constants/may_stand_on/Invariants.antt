use Rattle.std.proofs.Common.{◌≡◌, ◌+◌, ◌-◌}
use Rattle.edit_legal.specs.Decidable.{may_stand_on}
use Rattle.edit_legal.proofs.constants.may_stand_on.Given as goal

abbrev pub invariant-loop : goal.invariant-loop
invariant-loop l =
    (may_stand_on l.known.code.now l.known.acts.now l.known.facts l.known.targets.items l.lists
    l.entries l.number l.fact.slot l.fact.value l.at (l.count - l.counter)
    ≡ may_stand_on l.known.code.now l.known.acts.now l.known.facts l.known.targets.items l.lists
    l.entries l.number l.fact.slot l.fact.value l.from l.count)
    × (l.at ≡ l.from + l.counter)

use Rattle.std.proofs.Common.{◌≡◌, drop}
use Rattle.std.specs.List.{list_all}
use Rattle.edit_legal.specs.Decidable.{supports}
use Rattle.edit_legal.proofs.constants.all_support.Given as goal

abbrev pub invariant-loop-at : goal.invariant-loop-at
invariant-loop-at l =
    list_all (supports l.known.code.now l.known.acts.now l.known.facts l.known.targets.items
    l.fact.slot l.fact.value) (drop l.at-index l.row)
    ≡ list_all (supports l.known.code.now l.known.acts.now l.known.facts l.known.targets.items
    l.fact.slot l.fact.value) l.row

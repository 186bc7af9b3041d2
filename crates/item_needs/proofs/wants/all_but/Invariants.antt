use Rattle.std.proofs.Common.{◌≡◌, ◌==◌, not, take}
use Rattle.std.specs.List.{filter}
use Rattle.item_needs.proofs.wants.all_but.Given as goal

abbrev pub invariant-loop-number : goal.invariant-loop-number
invariant-loop-number l = l.others ≡ filter (λ x. not (x == l.own)) (take l.number-index l.numbers)

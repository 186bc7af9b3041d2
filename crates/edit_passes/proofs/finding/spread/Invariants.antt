use Rattle.std.proofs.Common.{◌≡◌, drop}
use Rattle.edit_passes.specs.Found.{spread}
use Rattle.edit_passes.proofs.finding.spread.Given as goal

abbrev pub invariant-loop : goal.invariant-loop
invariant-loop l =
    (spread (drop l.index l.code.ins) l.code l.next l.found
    ≡ spread l.code.ins l.code 0 l.fn.found)
    × (l.next ≡ l.index)

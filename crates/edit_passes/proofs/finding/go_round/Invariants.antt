use Rattle.std.proofs.Common.{◌≡◌, drop}
use Rattle.edit_passes.specs.Found.{rounds}
use Rattle.edit_passes.proofs.finding.go_round.Given as goal

abbrev pub invariant-loop : goal.invariant-loop
invariant-loop l =
    rounds (drop l.index l.code.ins) l.code l.found ≡ rounds l.code.ins l.code l.fn.found

use Rattle.std.proofs.Common.{◌≡◌, drop}
use Rattle.edit_legal.specs.Movable.{follows}
use Rattle.edit_legal.proofs.aiming.follows.Given as goal

abbrev pub invariant-loop : goal.invariant-loop
invariant-loop l =
    follows (drop l.index l.code.ins) l.code l.at l.to ≡ follows l.code.ins l.code l.from l.to

use Rattle.std.proofs.Common.{◌≡◌, take}
use Rattle.link_check.proofs.same.is_each_same.Given as goal

abbrev pub invariant-loop-at : goal.invariant-loop-at
invariant-loop-at l = take l.at l.one ≡ take l.at l.other

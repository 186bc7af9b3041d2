use Rattle.std.proofs.Common.{◌≡◌, take}
use Rattle.method_places.proofs.alike.are_same_types.Given as goal

abbrev pub invariant-loop-index : goal.invariant-loop-index
invariant-loop-index l = take l.index l.one ≡ take l.index l.other

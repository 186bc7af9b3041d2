use Rattle.std.proofs.Common.{◌≡◌, ◌↔◌, drop}
use Rattle.type_verifier.proofs.same.are_same_types.Given as goal

abbrev pub invariant-loop-index : goal.invariant-loop-index
invariant-loop-index l = (drop l.index l.one ≡ drop l.index l.other) ↔ (l.one ≡ l.other)

use Rattle.std.proofs.Common.{◌≡◌, ◌++◌, reverse}
use Rattle.std.specs.Vec.Iter.{into_iter_items}
use Rattle.type_verifier.proofs.framing.stack_of.Given as goal

abbrev pub invariant-loop-ty : goal.invariant-loop-ty
invariant-loop-ty l = reverse (into_iter_items l.ty-iterator) ++ l.stack ≡ reverse l.fn.types.items

use Rattle.std.proofs.Common.{◌≡◌, ◌++◌}
use Rattle.std.specs.List.{flat_map}
use Rattle.std.specs.Vec.Iter.{into_iter_items}
use Rattle.type_verifier.specs.Frames.{local_words}
use Rattle.type_verifier.proofs.framing.all_words.Given as goal

abbrev pub invariant-loop-ty : goal.invariant-loop-ty
invariant-loop-ty l = l.words.items ++ flat_map local_words (into_iter_items l.ty-iterator)
    ≡ flat_map local_words l.fn.types.items

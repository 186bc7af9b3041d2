use Rattle.std.proofs.Common.{◌≡◌, map, take}
use Rattle.class_pool.specs.bodies.Descriptors.{text_of}
use Rattle.class_pool.proofs.set.descriptors.texts_of.Given as goal

abbrev pub invariant-loop-method : goal.invariant-loop-method
invariant-loop-method l = l.texts ≡ map text_of (take l.method-index l.class.methods)

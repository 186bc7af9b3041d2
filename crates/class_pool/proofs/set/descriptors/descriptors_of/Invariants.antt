use Rattle.std.proofs.Common.{◌≡◌, map, take}
use Rattle.class_pool.specs.bodies.Descriptors.{method_texts}
use Rattle.class_pool.proofs.set.descriptors.descriptors_of.Given as goal

abbrev pub invariant-loop-number : goal.invariant-loop-number
invariant-loop-number l = l.texts ≡ map method_texts (take l.number l.classes)

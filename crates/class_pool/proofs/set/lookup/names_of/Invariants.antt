use Rattle.std.proofs.Common.{◌≡◌, take, map}
use Rattle.class_pool.proofs.Naming.{name_of}
use Rattle.class_pool.proofs.set.lookup.names_of.Given as goal

abbrev pub invariant-loop-class : goal.invariant-loop-class
invariant-loop-class l = l.names ≡ map name_of (take l.class-index l.classes)

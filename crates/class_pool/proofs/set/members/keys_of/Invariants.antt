use Rattle.class_pool.specs.bodies.ByName.{HasKeys}
use Rattle.class_pool.proofs.set.members.keys_of.Given as goal

abbrev pub invariant-loop-number : goal.invariant-loop-number
invariant-loop-number l = HasKeys l.class l.number l.keys.items

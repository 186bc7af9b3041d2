use Rattle.set_program.specs.bodies.Links.{AreLinks}
use Rattle.set_program.proofs.receivers.link_named.Given as goal

abbrev pub invariant-loop-r : goal.invariant-loop-r
invariant-loop-r l = AreLinks l.set l.links

use Rattle.set_program.specs.bodies.Links.{AreLinks}
use Rattle.set_program.proofs.receivers.link_supers.Given as goal

abbrev pub invariant-loop-above : goal.invariant-loop-above
invariant-loop-above l = AreLinks l.set l.links

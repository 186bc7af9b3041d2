use Rattle.set_program.specs.bodies.Links.{AreLinks}
use Rattle.set_program.proofs.linking.link_class.Given as goal

abbrev pub invariant-loop-method : goal.invariant-loop-method
invariant-loop-method l = AreLinks l.set l.links

use Rattle.set_program.specs.bodies.Links.{AreLinks}
use Rattle.set_program.proofs.linking.link_classes.Given as goal

abbrev pub invariant-loop-number : goal.invariant-loop-number
invariant-loop-number l = AreLinks l.set l.links

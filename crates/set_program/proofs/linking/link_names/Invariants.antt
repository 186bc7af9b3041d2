use Rattle.set_program.specs.bodies.Links.{AreLinks}
use Rattle.set_program.proofs.linking.link_names.Given as goal

abbrev pub invariant-loop-name : goal.invariant-loop-name
invariant-loop-name l = AreLinks l.set l.links

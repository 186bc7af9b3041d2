use Rattle.set_program.specs.bodies.Links.{AreLinks}
use Rattle.set_program.proofs.linking.link_code.Given as goal

abbrev pub invariant-loop-ins : goal.invariant-loop-ins
invariant-loop-ins l = AreLinks l.set l.links

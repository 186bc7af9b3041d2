-- Answers of `method_needs`: what its calls ask for, and what it promises.
use Rattle.std.proofs.Common.{subst}
use Rattle.require_sys.specs.Requires.{method_wants}
use Rattle.item_numbers.specs.bodies.Wanting.{HasSame, Wanted, wanting}
use Rattle.item_numbers.proofs.SortedNeeds.{gathered_then}
use Rattle.item_needs.proofs.needs.method_needs.Goals as goal

pub returns-clause-needs : goal.returns-clause-needs
returns-clause-needs c =
    gathered_then c.take_needs.result c.args.wants.now.classes c.args.own c.want_of_method.new.wants
    (method_wants c.args.wants.now.classes c.args.number c.args.kept.now c.args.method.now)
    (subst (λ (v : Wanted). HasSame c.want_of_method.new.wants
    (wanting v (method_wants v.classes c.args.number c.args.kept.now c.args.method.now))) c.requires.before
    c.in_ok-want_of_method.ensures) c.take_needs.ensures.needs

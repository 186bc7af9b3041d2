-- Answers of `methods_of`: what its calls ask for, and what it promises.
use Rattle.std.proofs.Common.{List, subst}
use Rattle.std.specs.Option.{ForSome}
use Rattle.class_model.specs.declared.class.Class.{Class}
use Rattle.item_numbers.specs.bodies.Alone.{AreAlone}
use Rattle.method_places.proofs.methods.methods_of.Goals as goal

pub returns-clause-alone : goal.returns-clause-alone
returns-clause-alone c =
    subst (λ (set : List Class). ForSome c.args.class.now (λ x. AreAlone set x c.in_ok-declared.declared))
    c.in_ok-alike.ensures.set c.in_ok-declared.ensures

-- Answers of `SuperinterfaceMethods::of`: what its calls ask for, and what it promises.
use Rattle.std.proofs.Common.{ap}
use Rattle.std.proofs.lemmas.List.Elements.{All-same}
use Rattle.class_pool.specs.Found.{IsMember}
use Rattle.link_check.specs.bodies.Walks.{methods_met, open_methods}
use Rattle.link_check.proofs.Choosing.{methods_there}
use Rattle.link_check.proofs.references.superinterface_methods.SuperinterfaceMethods.of.Goals as goal

pub returns-clause-there : goal.returns-clause-there
returns-clause-there c =
    All-same (IsMember c.args.set.now) _ (methods_met c.args.set.now c.args.class (c.args.name.now, c.args.ty.now))
    (ap (open_methods c.args.set.now (c.args.name.now, c.args.ty.now)) c.of.ensures.are)
    (methods_there c.args.set.now c.args.class (c.args.name.now, c.args.ty.now))

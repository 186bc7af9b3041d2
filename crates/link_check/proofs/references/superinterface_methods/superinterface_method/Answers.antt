-- Answers of `superinterface_method`: what its calls ask for, and what it promises.
use Rattle.std.proofs.Common.{◌∙◌, ap, sym}
use Rattle.std.specs.Option.{option_or}
use Rattle.class_pool.specs.Found.{IsMember}
use Rattle.class_pool.specs.Resolution.{first, superinterface_methods}
use Rattle.link_check.proofs.Choosing.{first_met, first_there, next_first}
use Rattle.link_check.proofs.references.superinterface_methods.superinterface_method.Goals as goal

pub returns-in-None-clause-is : goal.returns-in-None-clause-is
returns-in-None-clause-is c =
    next_first c.of.result c.next.new.self c.next.result c.next.ensures.steps ∙ ap first c.of.ensures.are
    ∙ first_met c.args.set.now c.args.class.now (c.args.name.now, c.args.ty.now)
    ∙ ap (λ o. option_or o (first (superinterface_methods c.args.set.now c.args.class.now
    (c.args.name.now, c.args.ty.now)))) (sym c.in-None.is ∙ c.maximally_specific.ensures.is)

pub returns-in-None-clause-there : goal.returns-in-None-clause-there
returns-in-None-clause-there c = first_there
    (IsMember c.args.set.now) c.of.result c.next.new.self c.next.result c.next.ensures.steps c.of.ensures.there

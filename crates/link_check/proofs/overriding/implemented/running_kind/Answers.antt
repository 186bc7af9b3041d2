-- Answers of `running_kind`: what its calls ask for, and what it promises.
use Rattle.std.proofs.Common.{List, ap, sym, ◌∙◌, arith}
use Rattle.std.specs.List.{flat_map}
use Rattle.class_pool.specs.declared.id.ClassId.TheVariants.{Prog}
use Rattle.class_pool.specs.Hierarchy.{superclass}
use Rattle.class_pool.specs.Walk.{own_superinterfaces}
use Rattle.link_check.specs.declared.fault.ProfileKind.{ProfileKind}
use Rattle.link_check.specs.bodies.Inherited.{running_kinds_of}
use Rattle.link_check.specs.Profile.{least}
use Rattle.class_pool.specs.Walk.{superclasses_up}
use Rattle.link_check.proofs.Inheriting.{fits_known, running_own, running_parts}
use Rattle.link_check.proofs.overriding.implemented.running_kind.Goals as goal

pub returns-then-fits_in-2 : goal.returns-then-fits_in-2
returns-then-fits_in-2 c =
    c.own_kind-own.ensures
    ∙ ap least (running_own c.args.set.now c.has_ranks.ensures c.args.number
    (omega (arith, c.len-count.ensures)) c.requires.there c.in-Some.superclass
    c.super_of-above.result c.super_of-above.ensures c.in-Some.ensures
    (fits_known c.args.set.now c.args.known.now c.in-Some.superclass c.requires.known
    (sym c.fits_in-in-Some.ensures ∙ c.if-fits_in-2.true)))

pub returns : goal.returns
returns c =
    let own : List ProfileKind = flat_map (running_kinds_of c.args.set.now c.args.number)
    (own_superinterfaces c.args.set.now (Prog c.args.number)) in
    let up : List ProfileKind =
    flat_map (running_kinds_of c.args.set.now c.args.number)
    (flat_map (own_superinterfaces c.args.set.now)
    (superclasses_up c.args.set.now (superclass c.args.set.now (Prog c.args.number)))) in
    c.lesser.ensures own up c.own_kind-own.ensures
    (c.superinterfaces_kind.ensures
    ∙ ap (λ o. least (flat_map (running_kinds_of c.args.set.now c.args.number)
    (flat_map (own_superinterfaces c.args.set.now) (superclasses_up c.args.set.now o))))
    c.super_of-above.ensures)
    ∙ ap least (sym (running_parts c.args.set.now c.has_ranks.ensures c.args.number
    (omega (arith, c.len-count.ensures)) c.requires.there))

-- Answers of `ClassSet::declaring_from`: what its calls ask for, and what it promises.
use Rattle.std.proofs.Common.{◌≡◌, ◌∙◌, List, Option, map, ap, arith, subst, sym}
use Rattle.std.specs.List.{AllZip}
use Rattle.class_model.specs.declared.class.Class.{Class}
use Rattle.tree_notes.specs.Notes.{IsSame}
use Rattle.tree_notes.specs.declared.nearest.Up.{Up}
use Rattle.tree_notes.specs.declared.nearest.Up.TheVariants.{Above, At}
use Rattle.class_pool.specs.bodies.ByName.{IsIndexOf}
use Rattle.class_pool.specs.bodies.Notes.{number_in, numbers_of, program_of}
use Rattle.class_pool.specs.declared.id.ClassId.{ClassId}
use Rattle.class_pool.specs.Found.{declared_by}
use Rattle.class_pool.specs.Hierarchy.{superclass_of}
use Rattle.class_pool.specs.Ranks.{HasRanks}
use Rattle.class_pool.specs.Walk.{superclasses_from, superclasses_up}
use Rattle.class_pool.proofs.Noted.{declared_same}
use Rattle.class_pool.proofs.set.ClassSet.declaring_from.Goals as goal

pub returns-in-At-clause-same : goal.returns-in-At-clause-same
returns-in-At-clause-same c =
    ap (λ (i : ClassId). declared_by c.args.self.now (c.args.name.now, c.args.ty.now)
    (superclasses_from c.args.self.now i)) c.in-Prog.is
    ∙ declared_same c.args.self.now (subst HasRanks c.self.view_is c.self.invariant.1)
    (omega (arith, c.len-count.ensures)) c.self.inside.superclasses
    (subst (λ (cs : List Class). c.self.inside.superclasses ≡ map (superclass_of cs) cs) c.self.view_is
    c.self.invariant.8)
    c.self.inside.members
    (subst (λ (cs : List Class). AllZip IsIndexOf cs c.self.inside.members) c.self.view_is c.self.invariant.2)
    c.self.inside.notes.keys.items (c.args.name.now, c.args.ty.now) c.in-Prog.number (At c.in-At.at)
    (subst (λ (u : Up). IsSame (map program_of c.self.inside.superclasses)
    (map (numbers_of c.self.inside.notes.keys.items) c.self.inside.members)
    (number_in c.self.inside.notes.keys.items (c.args.name.now, c.args.ty.now)) (At c.in-Prog.number) u) c.in-At.is
    (c.up_from.ensures c.self.inside.superclasses c.self.inside.members c.self.invariant.9))

pub returns-in-Above-clause-same : goal.returns-in-Above-clause-same
returns-in-Above-clause-same c =
    ap (λ (i : ClassId). declared_by c.args.self.now (c.args.name.now, c.args.ty.now)
    (superclasses_from c.args.self.now i)) c.in-Prog.is
    ∙ declared_same c.args.self.now (subst HasRanks c.self.view_is c.self.invariant.1)
    (omega (arith, c.len-count.ensures)) c.self.inside.superclasses
    (subst (λ (cs : List Class). c.self.inside.superclasses ≡ map (superclass_of cs) cs) c.self.view_is
    c.self.invariant.8)
    c.self.inside.members
    (subst (λ (cs : List Class). AllZip IsIndexOf cs c.self.inside.members) c.self.view_is c.self.invariant.2)
    c.self.inside.notes.keys.items (c.args.name.now, c.args.ty.now) c.in-Prog.number (Above c.in-Above.at)
    (subst (λ (u : Up). IsSame (map program_of c.self.inside.superclasses)
    (map (numbers_of c.self.inside.notes.keys.items) c.self.inside.members)
    (number_in c.self.inside.notes.keys.items (c.args.name.now, c.args.ty.now)) (At c.in-Prog.number) u) c.in-Above.is
    (c.up_from.ensures c.self.inside.superclasses c.self.inside.members c.self.invariant.9))
    ∙ ap (λ (o : Option ClassId). declared_by c.args.self.now (c.args.name.now, c.args.ty.now)
    (superclasses_up c.args.self.now o)) (sym c.super_of.ensures)

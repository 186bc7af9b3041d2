-- Answers of `ClassSet::own_superinterfaces`: what its calls ask for, and what it promises.
use Rattle.std.proofs.Common.{◌≡◌, [], List, sym, subst}
use Rattle.std.specs.List.{All}
use Rattle.class_model.specs.declared.class.Class.{Class}
use Rattle.class_pool.specs.Hierarchy.{IsClass}
use Rattle.class_pool.specs.Walk.{each_once, own_superinterfaces}
use Rattle.class_pool.proofs.FillingLaws.{own_place, own_read, own_there}
use Rattle.class_pool.proofs.set.ClassSet.own_superinterfaces.Goals as goal

pub at-requires : goal.at-requires
at-requires c =
    own_place c.self.inside.classes c.self.inside.superinterfaces c.args.id c.number.result c.self.invariant.4
    (subst (λ (cs : List Class). IsClass cs c.args.id) (sym c.self.view_is) c.requires.there) c.number.ensures

pub returns-clause-are : goal.returns-clause-are
returns-clause-are c =
    subst (λ (cs : List Class). c.at.result.now ≡ each_once [] (own_superinterfaces cs c.args.id)) c.self.view_is
    (own_read c.self.inside.classes c.self.inside.superinterfaces c.args.id c.number.result c.at.result.now
    c.self.invariant.4 (subst (λ (cs : List Class). IsClass cs c.args.id)
    (sym c.self.view_is) c.requires.there) c.number.ensures c.at.ensures)

pub returns-clause-there : goal.returns-clause-there
returns-clause-there c =
    subst (λ (cs : List Class). All (IsClass cs) c.at.result.now) c.self.view_is
    (own_there c.self.inside.classes c.args.id c.at.result.now
    (own_read c.self.inside.classes c.self.inside.superinterfaces c.args.id c.number.result c.at.result.now
    c.self.invariant.4 (subst (λ (cs : List Class). IsClass cs c.args.id)
    (sym c.self.view_is) c.requires.there) c.number.ensures c.at.ensures))

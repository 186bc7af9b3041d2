-- Answers of `ClassSet::declares`: what its calls ask for, and what it promises.
use Rattle.std.proofs.Common.{◌<◌, ◌≡◌, List, length, slice_get, Some, sym, subst}
use Rattle.class_model.specs.declared.class.Class.{Class}
use Rattle.class_pool.specs.declared.id.ClassId.{ClassId}
use Rattle.class_pool.specs.Hierarchy.{IsClass}
use Rattle.class_pool.proofs.NamedMembers.{has_index, index_is}
use Rattle.class_pool.proofs.set.ClassSet.declares.Goals as goal

pub index-requires : goal.index-requires
index-requires c =
    has_index c.self.inside.classes c.self.inside.members c.in-Prog.number c.self.invariant.2
    (subst (λ (cs : List Class). c.in-Prog.number < length cs) (sym c.self.view_is)
    (subst (λ (id : ClassId). IsClass c.args.self.now id) c.in-Prog.is c.requires))

pub find-requires : goal.find-requires
find-requires c =
    index_is c.self.inside.classes c.self.inside.members c.in-Prog.number c.class.result.now c.index.result.now
    c.self.invariant.2
    (subst (λ (cs : List Class). slice_get cs c.in-Prog.number ≡ Some c.class.result.now)
    (sym c.self.view_is) c.class.ensures.is) c.index.ensures

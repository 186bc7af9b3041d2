-- The superinterfaces of classes are there.
use Rattle.std.proofs.Common.{List, [], ◌∷◌}
use Rattle.std.specs.List.{All}
use Rattle.std.proofs.lemmas.List.Elements.{All-append, All-nil}
use Rattle.class_model.specs.declared.class.Class.{Class}
use Rattle.class_pool.specs.declared.id.ClassId.{ClassId}
use Rattle.class_pool.specs.Hierarchy.{IsClass}
use Rattle.class_pool.proofs.FillingLaws.{own_valid}
use Rattle.link_check.specs.bodies.Walks.{each_superinterface, superinterfaces_of}

pub superinterfaces_there : (classes : List Class) (cs : List ClassId)
    → All (IsClass classes) (superinterfaces_of classes cs)
superinterfaces_there classes [] = All-nil (IsClass classes)
superinterfaces_there classes (c ∷ cs) =
    All-append (IsClass classes) (each_superinterface classes c) (superinterfaces_of classes cs) (own_valid classes c)
    (superinterfaces_there classes cs)

-- What a set tells of its classes, while it is made (the project's own).
use Rattle.std.specs.Prelude.{◌≡◌, List, codes, map}
use Rattle.std.specs.List.{AllZip}
use Rattle.class_model.specs.declared.class.Class.{Class}
use Rattle.class_pool.specs.declared.hierarchy.building.Above.{Above}
use Rattle.class_pool.specs.declared.hierarchy.building.MemberTables.{MemberTables}
use Rattle.class_pool.specs.declared.hierarchy.building.Tables.{Tables}
use Rattle.class_pool.specs.bodies.ByName.{IsIndexOf}
use Rattle.class_pool.specs.bodies.Descriptors.{method_texts}
use Rattle.class_pool.specs.bodies.Graph.{library_ids}
use Rattle.class_pool.specs.Hierarchy.{class_named, superclass_of}
use Rattle.class_pool.specs.bodies.Lists.{AreOwn}
use Rattle.class_pool.specs.bodies.Notes.{IsNoted}

-- the library, and the superinterfaces that each class has itself
pub record IsAbove (classes : List Class) (above : Above) : Type 0 where
  pub library : above.library ≡ library_ids
  pub own : AreOwn classes above.superinterfaces

-- an index of the members of each class, and the descriptors of its methods
pub record AreMembers (classes : List Class) (members : MemberTables) : Type 0 where
  pub indexes : AllZip IsIndexOf classes members.indexes
  pub descriptors : members.descriptors ≡ map method_texts classes

-- all of it, with the superclass of each class, and Object
pub record AreTables (classes : List Class) (tables : Tables) : Type 0 where
  pub above : IsAbove classes tables.above
  pub superclasses : tables.superclasses ≡ map (superclass_of classes) classes
  pub members : AreMembers classes tables.members
  pub notes : IsNoted tables.superclasses tables.members.indexes tables.notes
  pub object : tables.object ≡ class_named classes (codes "java/lang/Object")

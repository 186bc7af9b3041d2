-- What is met where the superinterfaces of a class and of its superclasses are looked through (JVMS 5.4.3.3): of each
-- class those that it has itself come each once (only the proofs of check_links and resolve_method need it).
use Rattle.std.specs.Prelude.{ℕ, Bool, not, ◌&&◌, List, [], Result, Ok, Err, if◌then◌else◌}
use Rattle.std.specs.List.{filter, flat_map}
use Rattle.std.specs.Option.{option_map_or}
use Rattle.class_model.specs.declared.class.Class.{Class}
use Rattle.class_pool.specs.declared.id.ClassId.{ClassId}
use Rattle.class_pool.specs.declared.id.MemberAt.{MemberAt}
use Rattle.class_pool.specs.Found.{NameAndType, declared_by, is_abstract_member}
use Rattle.class_pool.specs.Hierarchy.{class_named}
use Rattle.class_pool.specs.Resolution.{is_class_accessible, is_maximally_specific, is_open}
use Rattle.class_pool.specs.Walk.{each_once, own_superinterfaces, superclasses_from}
use Rattle.link_check.specs.declared.fault.LinkKind.{LinkKind}
use Rattle.link_check.specs.declared.fault.LinkKind.TheVariants.{Unresolved, Inaccessible}

-- the superinterfaces that a class has itself, each once
abbrev pub each_superinterface : List Class → ClassId → List ClassId
each_superinterface classes c = each_once [] (own_superinterfaces classes c)

-- those of these classes, one class after the other
abbrev pub superinterfaces_of : List Class → List ClassId → List ClassId
superinterfaces_of classes cs = flat_map (each_superinterface classes) cs

abbrev pub superinterfaces_met : List Class → ClassId → List ClassId
superinterfaces_met classes c = superinterfaces_of classes (superclasses_from classes c)

-- the open methods that these interfaces declare
abbrev pub open_methods : List Class → NameAndType → List ClassId → List MemberAt
open_methods classes named is = filter (is_open classes) (declared_by classes named is)

abbrev pub methods_met : List Class → ClassId → NameAndType → List MemberAt
methods_met classes c named = open_methods classes named (superinterfaces_met classes c)

-- a method that isn't abstract and is maximally specific among these
abbrev pub is_candidate : List Class → List MemberAt → MemberAt → Bool
is_candidate classes ms m = not (is_abstract_member classes m) && is_maximally_specific classes ms m

abbrev pub candidates : List Class → List MemberAt → List MemberAt
candidates classes ms = filter (is_candidate classes ms) ms

-- ---- references

-- the class of a name, where it is there and accessible
abbrev pub class_linked : List Class → ClassId → List ℕ → Result ClassId LinkKind
class_linked classes from name =
    option_map_or (λ c. if is_class_accessible classes from c then Ok c else Err Inaccessible)
    (class_named classes name) (Err Unresolved)

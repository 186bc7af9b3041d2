-- A set of program classes, as the list of them in its order, and above it the library: which class a name names, and
-- which classes are the direct supertypes of one (JVMS 4.1). A program class is told by its number in the set, a
-- library class by that in the table.
use Rattle.std.specs.Prelude.{◌<◌, ℕ, Bool, true, false, List, [], length, Option, Some, None, slice_get, if◌then◌else◌}
use Rattle.std.specs.List.{position, filter_map}
use Rattle.std.specs.Option.{option_map, option_and_then, option_map_or}
use Rattle.jv_base.specs.Names.{is_text}
use Rattle.class_model.specs.declared.class.Class.{Class}
use Rattle.class_model.specs.Flags.{acc_final, has, is_interface}
use Rattle.lib_table.specs.declared.class.LibKind.{LibKind}
use Rattle.lib_table.specs.declared.class.LibKind.TheVariants.{Interface, Final, Open}
use Rattle.lib_table.specs.Library.{library}
use Rattle.lib_table.specs.Lookups as table
use Rattle.class_pool.specs.declared.id.ClassId.{ClassId}
use Rattle.class_pool.specs.declared.id.ClassId.TheVariants.{Prog, Lib}

-- the id is one of the set or of the library (the project's own: a class is told by its number)
abbrev pub IsClass : List Class → ClassId → Type 0
IsClass classes (Prog n) = n < length classes
IsClass classes (Lib id) = id < length library

-- a class of the set, where there is one, else a library class
-- (the project's own: no program class has a library's name)
abbrev pub or_found : Option ℕ → Option ClassId → Option ClassId
or_found (Some n) other = Some (Prog n)
or_found None other = other

-- the class of a name (JVMS 5.3.5; that the set comes first is the project's own)
abbrev pub class_named : List Class → List ℕ → Option ClassId
class_named classes name = or_found (position (λ c. is_text name c.name) classes)
    (option_map Lib (table.class_named name))

-- the class that a class names as its superclass (JVMS 4.1)
abbrev pub superclass_of : List Class → Class → Option ClassId
superclass_of classes c = class_named classes c.super_name

-- the direct superclass (JVMS 4.1); that of an interface is Object
abbrev pub superclass : List Class → ClassId → Option ClassId
superclass classes (Prog n) = option_and_then (superclass_of classes) (slice_get classes n)
superclass classes (Lib id) = option_map Lib (table.super_of id)

-- the classes among these names that are there (JVMS 4.1)
abbrev pub classes_named : List Class → List (List ℕ) → List ClassId
classes_named classes names = filter_map (class_named classes) names

-- the direct superinterfaces, in their order (JVMS 4.1)
abbrev pub interfaces : List Class → ClassId → List ClassId
interfaces classes (Prog n) = option_map_or (λ c. classes_named classes c.interfaces) (slice_get classes n) []
interfaces classes (Lib id) = filter_map (λ i. Some (Lib i)) (table.interfaces_of id)

-- what may be done with a class: it is an interface, has no subclass, or neither (JVMS 4.1)
abbrev pub kind_of : Class → LibKind
kind_of c = if is_interface c.flags.0 then Interface else if has acc_final c.flags.0 then Final else Open

-- the same of a class of the set or of the library (JVMS 4.1)
abbrev pub kind_in : List Class → ClassId → LibKind
kind_in classes (Prog n) = option_map_or kind_of (slice_get classes n) Open
kind_in classes (Lib id) = (table.class_at id).kind

-- an interface (JVMS 4.1)
abbrev pub is_interface_kind : LibKind → Bool
is_interface_kind Interface = true
is_interface_kind _ = false

-- a class that may have subclasses (JVMS 4.1)
abbrev pub is_open_kind : LibKind → Bool
is_open_kind Open = true
is_open_kind _ = false

-- The classes of the library and of a set as numbers, those of the library first, and their direct supertypes as a
-- graph of these (only the proof of ClassSet needs it).
use Rattle.std.specs.Prelude.{◌+◌, ◌-◌, ◌<◌, ℕ, nat_lt, List, ◌∷◌, ◌++◌, length, map, if◌then◌else◌}
use Rattle.std.specs.List.{cons_option, range_with_len}
use Rattle.class_model.specs.declared.class.Class.{Class}
use Rattle.lib_table.specs.Library.{library}
use Rattle.lib_table.specs.Lookups as table
use Rattle.class_pool.specs.declared.id.ClassId.{ClassId}
use Rattle.class_pool.specs.declared.id.ClassId.TheVariants.{Prog, Lib}
use Rattle.class_pool.specs.Hierarchy.{classes_named}

-- the number of a class
abbrev pub number : ClassId → ℕ
number (Prog n) = length library + n
number (Lib id) = id

-- the class of a number
abbrev pub id_at : ℕ → ClassId
id_at x = if nat_lt x (length library) then Lib x else Prog (x - length library)

-- a library class is one of the table
abbrev pub IsThere : ClassId → Type 0
IsThere (Prog n) = Unit {0}
IsThere (Lib id) = id < length library

-- the numbers of the library's classes
abbrev pub library_ids : List ℕ
library_ids = range_with_len 0 (length library)

-- the direct supertypes of a library class
abbrev pub above_library : ℕ → List ℕ
above_library id = cons_option (table.super_of id) (table.interfaces_of id)

-- those of a program class
abbrev pub above_class : List Class → Class → List ℕ
above_class classes c = map number (classes_named classes (c.super_name ∷ c.interfaces))

-- for each class its direct supertypes, as numbers
abbrev pub graph : List Class → List (List ℕ)
graph classes = map above_library library_ids ++ map (above_class classes) classes

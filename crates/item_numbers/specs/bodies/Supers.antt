-- What is met where the superclasses of a class are gone over, each with the superinterfaces that it has itself (only
-- the proof of system_of needs it).
use Rattle.std.specs.Prelude.{ℕ, ◌==◌, Bool, not, ◌&&◌, List, [], Option, Some, None, if◌then◌else◌}
use Rattle.std.specs.List.{list_any}
use Rattle.class_model.specs.declared.class.Class.{Class}
use Rattle.class_pool.specs.Walk.{each_once, own_superinterfaces, same_class}
use Rattle.class_pool.specs.declared.id.ClassId.{ClassId}
use Rattle.class_pool.specs.declared.id.ClassId.TheVariants.{Prog, Lib}
use Rattle.require_sys.specs.Requires.{is_program}

-- the number of a class of the program other than one
abbrev pub other_number : ℕ → ClassId → Option ℕ
other_number own (Prog n) = if n == own then None else Some n
other_number own (Lib id) = None

-- the number of a class, if there is one and it is of the program
abbrev pub program_number : Option ClassId → Option ℕ
program_number (Some (Prog n)) = Some n
program_number _ = None

-- a class of the library
abbrev pub is_library : ClassId → Bool
is_library y = not (is_program y)

-- one that isn't among these
abbrev pub is_new : List ClassId → ClassId → Bool
is_new found y = is_library y && not (list_any (same_class y) found)

-- the superinterfaces that a class has itself, each once
abbrev pub own_once : List Class → ClassId → List ClassId
own_once classes c = each_once [] (own_superinterfaces classes c)

-- The names of the classes of the library, and of those of a set (only the proof of the bodies needs it).
use Rattle.std.specs.Prelude.{ℕ, List, ◌++◌, map}
use Rattle.class_model.specs.declared.class.Class.{Class}
use Rattle.lib_table.specs.Library.{library}

-- the names
abbrev pub all_names : List Class → List (List ℕ)
all_names classes = map (λ c. c.name) library ++ map (λ c. c.name) classes

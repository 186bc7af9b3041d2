-- The direct supertypes of program classes that are in the set, as a system whose needs they are
-- (only the proof of build needs it).
use Rattle.std.specs.Prelude.{◌≡◌, ◌<◌, ℕ, List, [], ◌∷◌, Option, Some, length, slice_get}
use Rattle.std.specs.List.{All, filter_map, position}
use Rattle.jv_base.specs.Names.{is_text}
use Rattle.mark_core.specs.declared.system.System.{System}
use Rattle.mark_core.specs.Marks.{needs_of}
use Rattle.class_model.specs.declared.class.Class.{Class}

-- the number of the class with a name
abbrev pub number_named : List Class → List ℕ → Option ℕ
number_named classes name = position (λ c. is_text name c.name) classes

-- the numbers of the classes among these names that are there
abbrev pub numbers_named : List Class → List (List ℕ) → List ℕ
numbers_named classes names = filter_map (number_named classes) names

-- the direct supertypes that the set has
abbrev pub above : List Class → Class → List ℕ
above classes c = numbers_named classes (c.super_name ∷ c.interfaces)

-- each class needs them
pub record IsHierarchy (classes : List Class) (sys : System) : Type 0 where
  pub count : sys.n ≡ length classes
  pub lists : length sys.needs ≡ length classes
  pub needs : (n : ℕ) (c : Class) → slice_get classes n ≡ Some c → needs_of sys n ≡ above classes c
  pub pairs : sys.pairs ≡ []
  pub seeds : All (λ x. x < length classes) sys.seeds

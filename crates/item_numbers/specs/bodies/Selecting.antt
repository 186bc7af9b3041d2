-- What runs where the methods of one class above another are called (only the proof of system_of needs it).
use Rattle.std.specs.Prelude.{ℕ, List, [], Option, if◌then◌else◌}
use Rattle.std.specs.List.{enumerate_from, filter, filter_map, flat_map}
use Rattle.std.specs.Option.{option_and_then, option_map}
use Rattle.mark_core.specs.declared.system.Pair.{Pair}
use Rattle.class_model.specs.declared.class.Class.{Class}
use Rattle.class_pool.specs.Found.{is_instance_method}
use Rattle.class_pool.specs.Selection.{selected}
use Rattle.class_pool.specs.declared.id.ClassId.{ClassId}
use Rattle.class_pool.specs.declared.id.ClassId.TheVariants.{Prog}
use Rattle.class_pool.specs.declared.id.MemberAt.{MemberAt}
use Rattle.require_sys.specs.Requires.{Item, OfMember, class_pairs, is_inheritable, is_program, members_of, pair_of}

module _ (classes : List Class) (n : ℕ) where
  -- the method that runs where another is called on an object of the class with this number
  abbrev pub called_item : MemberAt → Option Item
  called_item m = option_map OfMember (selected classes (Prog n) m)

  -- those that run where the instance methods of a class are called
  abbrev pub called_in : ClassId → List Item
  called_in x = filter_map called_item (filter (is_instance_method classes) (members_of classes x))

  -- the same of a class that may be of the program, whose methods the library doesn't know
  abbrev pub called_by : ClassId → List Item
  called_by x = if is_program x then [] else called_in x

module _ (classes : List Class) (own n : ℕ) where
  -- what a class and a method want together, where the methods of another one run in it
  abbrev pub pair_with : MemberAt → Option Pair
  pair_with m = option_and_then (pair_of classes (Prog own) m) (selected classes (Prog n) m)

  -- what it and those of a class above it want
  abbrev pub pairs_in : ClassId → List Pair
  pairs_in x = filter_map pair_with (filter (is_inheritable classes) (members_of classes x))

-- the pairs of all classes
abbrev pub all_pairs : List Class → List Pair
all_pairs classes = flat_map (class_pairs classes) (enumerate_from 0 classes)

-- The items of a set as numbers: each class in the order of the set, then its fields, then its methods (the project's
-- own).
use Rattle.std.specs.Prelude.{ℕ, ◌+◌, List, take, Option, Some, None}
use Rattle.class_model.specs.declared.class.Class.{Class}
use Rattle.class_pool.specs.declared.id.ClassId.{ClassId}
use Rattle.class_pool.specs.declared.id.ClassId.TheVariants.{Prog, Lib}
use Rattle.class_pool.specs.declared.id.MemberAt.{MemberAt}
use Rattle.class_pool.specs.Count.{item_count}

-- the item of the n-th class: as many stand before it as the classes before it have
abbrev pub class_item : List Class → ℕ → ℕ
class_item classes n = item_count (take n classes)

-- the item of a member of the program, by its class and its number there; a member of the library is none
abbrev pub item_in : List Class → ClassId → ℕ → Option ℕ
item_in classes (Prog n) index = Some (class_item classes n + 1 + index)
item_in classes (Lib id) index = None

abbrev pub item_of : List Class → MemberAt → Option ℕ
item_of classes m = item_in classes m.class m.index

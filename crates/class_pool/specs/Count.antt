-- How many items a set has: its classes and their members (the project's own: marks and requirements are on items).
use Rattle.std.specs.Prelude.{ℕ, ◌+◌, List, length}
use Rattle.std.specs.List.{sum_by}
use Rattle.class_model.specs.declared.class.Class.{Class}

-- how many items a class has with its members
abbrev pub items_of : Class → ℕ
items_of c = 1 + length c.fields + length c.methods

-- how many items classes have with their members
abbrev pub item_count : List Class → ℕ
item_count classes = sum_by items_of classes

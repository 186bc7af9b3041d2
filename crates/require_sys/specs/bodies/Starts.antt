-- A table of the items of classes (only the proof of system_of needs it).
use Rattle.std.specs.Prelude.{◌≡◌, ◌≤◌, ◌<◌, ℕ, ◌+◌, List, length, slice_index_or}
use Rattle.std.specs.List.{All}
use Rattle.class_model.specs.declared.class.Class.{Class}
use Rattle.class_pool.specs.Items.{class_item}

-- the item of each class, and behind these how many items there are
pub record AreStarts (classes : List Class) (starts : List ℕ) : Type 0 where
  pub count : length starts ≡ length classes + 1
  pub each : (n : ℕ) → n ≤ length classes → slice_index_or starts n 0 ≡ class_item classes n

-- the items are below a number
abbrev pub AreBelow : ℕ → List ℕ → Type 0
AreBelow n items = All (λ x. x < n) items

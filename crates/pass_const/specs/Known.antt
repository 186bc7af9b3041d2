-- What local variables hold, a list for each (the project's own; only the code's contracts need
-- it).
use Rattle.std.specs.Prelude.{◌≡◌, ◌<◌, ◌≤◌, ℕ, ℤ, Bool, true, List, [], Option, length}
use Rattle.std.specs.Prelude.{slice_index_or}
use Rattle.class_model.specs.declared.code.Code.{Code}
use Rattle.code_edit.specs.Facts.{IsLargest}
use Rattle.edit_tables.specs.Marks.{has}

-- what a local variable holds
abbrev pub known_in : List (List (Option ℤ)) → ℕ → List (Option ℤ)
known_in lists slot = slice_index_or lists slot []

-- of so many local variables: of those that are marked the largest sets of facts
pub record KnowsSlots (code : Code) (asked : List Bool) (count : ℕ)
    (lists : List (List (Option ℤ))) : Type 0 where
  pub long : length lists ≡ count
  pub largest : (slot : ℕ) → slot < count → has asked slot ≡ true
      → IsLargest code slot (known_in lists slot)
  pub few : (slot : ℕ) → length (known_in lists slot) ≤ length code.ins

-- The folds of a list of targets (the project's own; only the code's contracts need it).
use Rattle.std.specs.Prelude.{ℕ, zero, suc, List, [], ◌∷◌, ◌++◌, Option, Some, None}
use Rattle.std.specs.Prelude.{slice_index_or}
use Rattle.code_edit.specs.declared.act.Act.{Act}
use Rattle.code_edit.specs.declared.act.Act.TheVariants as act

abbrev pub act_of : ℕ → Option ℕ → List Act
act_of at None = []
act_of at (Some to) = act.Fold at to ∷ []

-- those below an index
abbrev pub acts_to : List (Option ℕ) → ℕ → List Act
acts_to targets zero = []
acts_to targets (suc n) = acts_to targets n ++ act_of n (slice_index_or targets n None)

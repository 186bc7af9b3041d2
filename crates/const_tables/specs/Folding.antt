-- What folds do at each index, told as it is kept (the project's own; only the code's contracts need
-- it).
use Rattle.std.specs.Prelude.{ℕ, ◌+◌, List, [], ◌∷◌, not, ◌||◌, Bool, Option, Some, None, length}
use Rattle.std.specs.Prelude.{nat_lt, replicate, slice_get, slice_index_or, slice_set, if◌then◌else◌}
use Rattle.std.specs.Option.{option_or}
use Rattle.class_model.specs.declared.code.Code.{Code}
use Rattle.class_model.specs.declared.code.Ins.{Ins}
use Rattle.code_edit.specs.declared.act.Act.{Act}
use Rattle.code_edit.specs.declared.act.Act.TheVariants as act
use Rattle.code_edit.specs.Constants.{count_by, is_fold, is_next, is_two}
use Rattle.code_edit.specs.Deciding.{Count}
use Rattle.code_edit.specs.Rewriting.{map_from}

-- ---- where folds lead

-- where the branch or switch at an index leads, if it is folded
abbrev pub fold_in : List (Option ℕ) → ℕ → Option ℕ
fold_in folds at = slice_index_or folds at None

-- no fold yet, on so many indices
abbrev pub no_folds : ℕ → List (Option ℕ)
no_folds count = replicate count None

-- one fold more; the first at an index counts, and an index outside the list gets none
abbrev pub put_fold : ℕ → ℕ → List (Option ℕ) → List (Option ℕ)
put_fold at to folds =
    if nat_lt at (length folds)
    then slice_set folds at (option_or (fold_in folds at) (Some to)) else folds

abbrev pub with_fold : Act → List (Option ℕ) → List (Option ℕ)
with_fold (act.Fold at to) folds = put_fold at to folds
with_fold a folds = folds

-- the folds of acts
abbrev pub with_folds : List Act → List (Option ℕ) → List (Option ℕ)
with_folds [] folds = folds
with_folds (a ∷ acts) folds = with_folds acts (with_fold a folds)

abbrev pub folds_of : List Act → ℕ → List (Option ℕ)
folds_of acts count = with_folds acts (no_folds count)

-- ---- what they leave

abbrev pub count_in : List (Option ℕ) → Code → ℕ → Count
count_in folds code at = count_by (fold_in folds at) (slice_get code.ins at)

-- the instruction is an operand of one that is folded
abbrev pub is_operand_in : List (Option ℕ) → Code → ℕ → Bool
is_operand_in folds code at =
    is_fold (count_in folds code (at + 1)) || is_two (count_in folds code (at + 1 + 1))

-- no fold makes it go
abbrev pub is_unfolded : List (Option ℕ) → Code → ℕ → Bool
is_unfolded folds code at = not (is_operand_in folds code at || is_next at (fold_in folds at))

abbrev pub unfolded : List (Option ℕ) → Code → List Bool
unfolded folds code = map_from (λ at (i : Ins). is_unfolded folds code at) 0 code.ins

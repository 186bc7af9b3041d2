-- Marks on targets (the project's own; only the code's contracts need it).
use Rattle.std.specs.Prelude.{◌≡◌, ◌<◌, ℕ, Bool, false, List, length, slice_index_or}
use Rattle.class_model.specs.declared.code.Code.{Code}
use Rattle.code_edit.specs.Flow.{is_target}

-- an index of the code is marked where it is a target
abbrev pub AreMarks : Code → List Bool → Type 0
AreMarks code marks =
    (at : ℕ) → at < length code.ins → slice_index_or marks at false ≡ is_target code at

-- Which instructions cuts leave, told as it is computed (the project's own; only the
-- code's contracts need it).
use Rattle.std.specs.Prelude.{ℕ, List, Bool, not, ◌&&◌, ◌||◌, ◌+◌, ◌-◌}
use Rattle.class_model.specs.declared.code.Code.{Code}
use Rattle.class_model.specs.declared.code.Ins.{Ins}
use Rattle.code_edit.specs.Flow.{of_ins}
use Rattle.code_edit.specs.Rewriting.{map_from}
use Rattle.code_edit.specs.Slots.{is_inc, is_push, is_store}
use Rattle.edit_tables.specs.Marks.{has}

-- a store that is marked goes together with the push before it
abbrev pub takes : List Bool → List Bool → Code → ℕ → Bool
takes cuts targets code at =
    has cuts at
    && (of_ins is_store code at && (of_ins is_push code (at - 1) && not (has targets at)))

-- no cut makes the instruction go
abbrev pub is_uncut : List Bool → List Bool → Code → ℕ → Bool
is_uncut cuts targets code at =
    not (takes cuts targets code (at + 1)
    || (takes cuts targets code at || (has cuts at && of_ins is_inc code at)))

abbrev pub uncut : List Bool → List Bool → Code → List Bool
uncut cuts targets code = map_from (λ at (i : Ins). is_uncut cuts targets code at) 0 code.ins

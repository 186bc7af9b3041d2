-- Which instructions skips leave, told as it is computed (the project's own; only the code's
-- contracts need it).
use Rattle.std.specs.Prelude.{ℕ, List, Bool, not, ◌&&◌}
use Rattle.class_model.specs.declared.code.Code.{Code}
use Rattle.class_model.specs.declared.code.Ins.{Ins}
use Rattle.code_edit.specs.Jumps.{is_goto}
use Rattle.code_edit.specs.Rewriting.{map_from}
use Rattle.edit_tables.specs.Marks.{has}

-- the instruction isn't a goto that is marked
abbrev pub is_unskipped : List Bool → ℕ → Ins → Bool
is_unskipped skips at i = not (has skips at && is_goto i.op)

abbrev pub unskipped : List Bool → Code → List Bool
unskipped skips code = map_from (is_unskipped skips) 0 code.ins

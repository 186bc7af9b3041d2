-- Which instructions slots cuts, told as they are found (the project's own; only the code's
-- contracts need it).
use Rattle.std.specs.Prelude.{ℕ, suc, List, [], ◌∷◌, not, Bool, false, if◌then◌else◌}
use Rattle.class_model.specs.declared.code.Ins.{Ins}
use Rattle.class_model.specs.declared.op.Op.{Op}
use Rattle.class_model.specs.declared.op.Op.TheVariants as op
use Rattle.code_edit.specs.declared.act.Act.{Act}
use Rattle.code_edit.specs.declared.act.Act.TheVariants as act
use Rattle.edit_tables.specs.Marks.{has}

-- the operation stores or adds to a local variable without a mark
abbrev pub is_unloaded : List Bool → Op → Bool
is_unloaded loads (op.Store kind slot) = not (has loads slot)
is_unloaded loads (op.Inc slot by) = not (has loads slot)
is_unloaded loads o = false

abbrev pub unloaded_from : List Bool → ℕ → List Ins → List Act
unloaded_from loads at [] = []
unloaded_from loads at (i ∷ ins) =
    if is_unloaded loads i.op then act.Cut at ∷ unloaded_from loads (suc at) ins
    else unloaded_from loads (suc at) ins

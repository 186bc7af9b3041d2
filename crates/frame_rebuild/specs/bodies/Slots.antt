-- The slots of which something is cut, marked (the project's own; only the code's contracts need
-- it).
use Rattle.std.specs.Prelude.{ℕ, Bool, List, [], ◌∷◌, Option, Some, None, slice_get}
use Rattle.class_model.specs.declared.code.Code.{Code}
use Rattle.class_model.specs.declared.code.Ins.{Ins}
use Rattle.code_edit.specs.declared.act.Act.{Act}
use Rattle.code_edit.specs.declared.act.Act.TheVariants as act
use Rattle.edit_tables.specs.Loads.{slot_count}
use Rattle.edit_tables.specs.Marks.{marked, none}
use Rattle.frame_rebuild.specs.Rebuilt.{written}

-- the local variables that an instruction writes, if there is one
abbrev pub written_by : Option Ins → List ℕ
written_by None = []
written_by (Some i) = written i.op

abbrev pub with_slot : Code → Act → List Bool → List Bool
with_slot code (act.Cut at) marks = marked (written_by (slice_get code.ins at)) marks
with_slot code a marks = marks

abbrev pub with_slots : Code → List Act → List Bool → List Bool
with_slots code [] marks = marks
with_slots code (a ∷ acts) marks = with_slots code acts (with_slot code a marks)

abbrev pub slots_of : Code → List Act → List Bool
slots_of code acts = with_slots code acts (none (slot_count code.ins))

-- What the acts of a step do at each index, as tables (the project's own; only the code's contracts
-- need it).
use Rattle.std.specs.Prelude.{ℕ, List, Option}
use Rattle.class_model.specs.declared.code.Code.{Code}
use Rattle.class_model.specs.declared.code.Ins.{Ins}
use Rattle.class_model.specs.declared.op.Case.{Case}
use Rattle.class_model.specs.declared.op.Op.{Op}
use Rattle.edit_tables.specs.declared.aims.Aims.{Aims}
use Rattle.edit_check.specs.declared.tables.Tables.{Tables}
use Rattle.edit_tables.specs.Aimed.{aimed}
use Rattle.edit_check.specs.Changed as by_lists
use Rattle.edit_tables.specs.Places.{place_in}

-- where a target of the instruction at an index leads, and then comes to stand
abbrev pub target_to : Aims → List ℕ → ℕ → ℕ → ℕ → ℕ
target_to aims places at which to = place_in places (aimed aims at which to)

abbrev pub moved_case : Aims → List ℕ → ℕ → ℕ → Case → Case
moved_case aims places at which c = record c { to = target_to aims places at which c.to }

-- what stands in place of the operation at an index, where another one does
abbrev pub other_op : Tables → List ℕ → ℕ → Op → Option Op
other_op t places at o =
    by_lists.other_op t.lives.items t.pops.items t.skips.items t.folds.items (aimed t.aims) places
    at o

-- the operation at an index after the acts, its targets where they come to stand
abbrev pub new_op : Tables → List ℕ → ℕ → Op → Op
new_op t places at o =
    by_lists.new_op t.lives.items t.pops.items t.skips.items t.folds.items (aimed t.aims) places at o

-- the instructions that are left, the first one's index being at
abbrev pub left_ins : Tables → List ℕ → ℕ → List Ins → List Ins
left_ins t places at ins =
    by_lists.left_ins t.lives.items t.pops.items t.skips.items t.folds.items (aimed t.aims) places at
    ins

-- the code after the acts
abbrev pub changed : Tables → Code → Code
changed t code =
    by_lists.changed t.lives.items t.pops.items t.skips.items t.folds.items (aimed t.aims) code

-- Which act of slots is legal, as it is found (the project's own; only the code's contracts need
-- it).
use Rattle.std.specs.Prelude.{ℕ, List, [], ◌∷◌, map, not, ◌&&◌, Bool, false, length}
use Rattle.std.specs.Prelude.{if◌then◌else◌}
use Rattle.class_model.specs.declared.code.Code.{Code}
use Rattle.class_model.specs.declared.code.Ins.{Ins}
use Rattle.class_model.specs.declared.op.Op.{Op}
use Rattle.class_model.specs.declared.op.Op.TheVariants as op
use Rattle.code_edit.specs.declared.act.Act.{Act}
use Rattle.code_edit.specs.declared.act.Act.TheVariants as act
use Rattle.edit_tables.specs.Loads.{loads_of, slot_count}
use Rattle.edit_tables.specs.Marks.{has, none, with_cuts}
use Rattle.edit_tables.specs.Spread.{spread}

-- the local variable to which an operation adds, unless that is cut
abbrev pub added : Bool → Op → List ℕ
added is_cut (op.Inc slot by) = if is_cut then [] else slot ∷ []
added is_cut o = []

abbrev pub added_by : List Bool → ℕ → Ins → List ℕ
added_by cuts at i = added (has cuts at) i.op

-- those to which the code adds where no act cuts that
abbrev pub additions_of : List Bool → Code → List Bool
additions_of cuts code = spread (added_by cuts) [] 0 code.ins (none (slot_count code.ins))

-- an operation may be cut
abbrev pub is_cuttable : List Bool → List Bool → Op → Bool
is_cuttable loads additions (op.Store kind slot) = not (has loads slot) && not (has additions slot)
is_cuttable loads additions (op.Inc slot z) = not (has loads slot)
is_cuttable loads additions o = false

-- the same of each index
abbrev pub cuttable : List Act → Code → List Bool
cuttable acts code =
    map
    (λ (i : Ins). is_cuttable (loads_of code)
    (additions_of (with_cuts acts (none (length code.ins))) code) i.op) code.ins

-- an act is legal behind others: it names an index that may be cut, and no other does
abbrev pub may_cut : List Bool → List Act → Act → Bool
may_cut cuttable before (act.Cut at) =
    has cuttable at && not (has (with_cuts before (none (length cuttable))) at)
may_cut cuttable before a = false

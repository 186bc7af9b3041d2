-- Local variables from which operands are loaded, as they are marked (the project's own; only the
-- code's contracts need it).
use Rattle.std.specs.Prelude.{ℕ, suc, ◌-◌, Bool, true, false, List, [], ◌∷◌, ◌++◌, map, Option}
use Rattle.std.specs.Prelude.{Some, None, slice_get, if◌then◌else◌}
use Rattle.class_model.specs.declared.code.Code.{Code}
use Rattle.class_model.specs.declared.code.Ins.{Ins}
use Rattle.class_model.specs.declared.op.Kind.TheVariants as kind
use Rattle.class_model.specs.declared.op.Op.{Op}
use Rattle.class_model.specs.declared.op.Op.TheVariants as op
use Rattle.code_edit.specs.Deciding.{Count, NoOperand, TwoOperands, operands}
use Rattle.edit_tables.specs.Loads.{slot_count}
use Rattle.edit_tables.specs.Marks.{none}
use Rattle.edit_tables.specs.Spread.{spread}

-- the local variable from which an int is loaded
abbrev pub load_of : Op → Option ℕ
load_of (op.Load kind.Int slot) = Some slot
load_of o = None

abbrev pub load_by : Option Ins → Option ℕ
load_by None = None
load_by (Some i) = load_of i.op

abbrev pub listed : Option ℕ → List ℕ
listed None = []
listed (Some slot) = slot ∷ []

abbrev pub second_of : Count → Option ℕ → List ℕ
second_of TwoOperands o = listed o
second_of c o = []

-- those from which the instructions directly before load operands
abbrev pub takes_from : Code → ℕ → Ins → List ℕ
takes_from code at i = listed (load_by (slice_get code.ins (at - 1)))
    ++ second_of (operands i.op) (load_by (slice_get code.ins (at - 2)))

-- of chosen instructions, as marks
abbrev pub slot_marks : Code → List Bool → List Bool
slot_marks code chosen = spread (takes_from code) chosen 0 code.ins (none (slot_count code.ins))

abbrev pub is_asking : Count → Bool
is_asking NoOperand = false
is_asking c = true

-- an int branch or switch
abbrev pub asks : Op → Bool
asks o = is_asking (operands o)

-- of all int branches and switches
abbrev pub asked_marks : Code → List Bool
asked_marks code = slot_marks code (map (λ (i : Ins). asks i.op) code.ins)

-- the indices that are marked, the first item's being i
abbrev pub marked_from : ℕ → List Bool → List ℕ
marked_from i [] = []
marked_from i (mark ∷ marks) =
    if mark then i ∷ marked_from (suc i) marks else marked_from (suc i) marks

abbrev pub count_marks : List Bool → ℕ
count_marks [] = 0
count_marks (mark ∷ marks) = if mark then suc (count_marks marks) else count_marks marks

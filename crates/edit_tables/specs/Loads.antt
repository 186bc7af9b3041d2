-- Which local variables a code loads, marked (the project's own; only the code's contracts need
-- it).
use Rattle.std.specs.Prelude.{ℕ, ◌+◌, List, [], ◌∷◌, max, Bool}
use Rattle.class_model.specs.declared.code.Code.{Code}
use Rattle.class_model.specs.declared.code.Ins.{Ins}
use Rattle.class_model.specs.declared.op.Op.{Op}
use Rattle.class_model.specs.declared.op.Op.TheVariants as op
use Rattle.edit_tables.specs.Marks.{none}
use Rattle.edit_tables.specs.Spread.{spread}

-- the local variable that an operation names, and one more
abbrev pub slot_end : Op → ℕ
slot_end (op.Load kind slot) = slot + 1
slot_end (op.Store kind slot) = slot + 1
slot_end (op.Inc slot by) = slot + 1
slot_end o = 0

-- one more than any that is named
abbrev pub slot_count : List Ins → ℕ
slot_count [] = 0
slot_count (i ∷ ins) = max (slot_end i.op) (slot_count ins)

-- the one that an operation loads
abbrev pub loaded : Op → List ℕ
loaded (op.Load kind slot) = slot ∷ []
loaded o = []

abbrev pub loaded_by : ℕ → Ins → List ℕ
loaded_by at i = loaded i.op

-- those that the code loads
abbrev pub loads_of : Code → List Bool
loads_of code = spread loaded_by [] 0 code.ins (none (slot_count code.ins))

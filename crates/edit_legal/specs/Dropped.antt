-- Which act of reach is legal, as it is found (the project's own; only the code's contracts need
-- it).
use Rattle.std.specs.Prelude.{ℕ, zero, suc, ◌+◌, ◌-◌, List, [], ◌∷◌, not, ◌&&◌, Bool, true, false}
use Rattle.std.specs.Prelude.{length, nat_le, nat_lt}
use Rattle.class_model.specs.declared.code.Code.{Code}
use Rattle.class_model.specs.declared.code.Ins.{Ins}
use Rattle.code_edit.specs.declared.act.Act.{Act}
use Rattle.code_edit.specs.declared.act.Act.TheVariants as act
use Rattle.code_edit.specs.Flow.{successors_of}
use Rattle.edit_tables.specs.Spread.{entered, spread}
use Rattle.edit_tables.specs.Marks.{has, none, put}
use Rattle.edit_tables.specs.Places.{counts_from}
use Rattle.edit_tables.specs.Swept.{swept_of}

-- the indices that control needs, of those that are left
abbrev pub needed_of : List Bool → Code → List Bool
needed_of left code =
    entered (counts_from 0 left) code.handlers
    (spread (λ at (i : Ins). successors_of (length code.ins) at i.op) left 0 code.ins
    (put 0 (none (length code.ins))))

-- the same, of those that acts leave
abbrev pub needed : List Act → Code → List Bool
needed acts code = needed_of (swept_of acts (length code.ins)) code

-- so many indices from one on are marked
abbrev pub taking : ℕ → ℕ → List Bool → List Bool
taking at zero marks = marks
taking at (suc n) marks = taking (suc at) n (put at marks)

-- so many indices from one on are in neither list
abbrev pub are_free : List Bool → List Bool → ℕ → ℕ → Bool
are_free needed dropped at zero = true
are_free needed dropped at (suc n) =
    not (has needed at) && (not (has dropped at) && are_free needed dropped (suc at) n)

-- what acts drop
abbrev pub with_drop : Act → List Bool → List Bool
with_drop (act.Drop from to) marks = taking from (to + 1 - from) marks
with_drop a marks = marks

abbrev pub with_drops : List Act → List Bool → List Bool
with_drops [] marks = marks
with_drops (a ∷ acts) marks = with_drops acts (with_drop a marks)

-- an act is legal behind others: control needs nothing that it drops, and no other drops it
abbrev pub may_drop : List Bool → List Act → Act → Bool
may_drop needed before (act.Drop from to) =
    (nat_le from to && nat_lt to (length needed))
    && are_free needed (with_drops before (none (length needed))) from (to + 1 - from)
may_drop needed before a = false

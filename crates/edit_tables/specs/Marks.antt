-- Marks on indices, told as they are made (the project's own; only the code's contracts need it).
use Rattle.std.specs.Prelude.{ℕ, List, [], ◌∷◌, Bool, true, false, length, nat_lt, replicate}
use Rattle.std.specs.Prelude.{slice_index_or, slice_set, if◌then◌else◌}
use Rattle.class_model.specs.declared.code.Code.{Code}
use Rattle.class_model.specs.declared.code.Handler.{Handler}
use Rattle.class_model.specs.declared.code.Ins.{Ins}
use Rattle.code_edit.specs.declared.act.Act.{Act}
use Rattle.code_edit.specs.declared.act.Act.TheVariants as act
use Rattle.code_edit.specs.Flow.{targets}

-- an index is marked; none outside the list is
abbrev pub has : List Bool → ℕ → Bool
has marks at = slice_index_or marks at false

-- no mark yet, on so many indices
abbrev pub none : ℕ → List Bool
none count = replicate count false

-- one mark more; an index outside the list gets none
abbrev pub put : ℕ → List Bool → List Bool
put at marks = if nat_lt at (length marks) then slice_set marks at true else marks

abbrev pub marked : List ℕ → List Bool → List Bool
marked [] marks = marks
marked (x ∷ xs) marks = marked xs (put x marks)

-- ---- targets

-- the targets of instructions
abbrev pub with_targets : List Ins → List Bool → List Bool
with_targets [] marks = marks
with_targets (i ∷ ins) marks = with_targets ins (marked (targets i.op) marks)

-- the entries of handlers
abbrev pub with_entries : List Handler → List Bool → List Bool
with_entries [] marks = marks
with_entries (h ∷ handlers) marks = with_entries handlers (put h.entry marks)

-- the targets of a code
abbrev pub target_marks : Code → List Bool
target_marks code = with_entries code.handlers (with_targets code.ins (none (length code.ins)))

-- ---- acts

abbrev pub with_cut : Act → List Bool → List Bool
with_cut (act.Cut at) marks = put at marks
with_cut a marks = marks

-- the indices that acts cut
abbrev pub with_cuts : List Act → List Bool → List Bool
with_cuts [] marks = marks
with_cuts (a ∷ acts) marks = with_cuts acts (with_cut a marks)

abbrev pub with_skip : Act → List Bool → List Bool
with_skip (act.Skip at) marks = put at marks
with_skip a marks = marks

-- the indices that acts skip
abbrev pub with_skips : List Act → List Bool → List Bool
with_skips [] marks = marks
with_skips (a ∷ acts) marks = with_skips acts (with_skip a marks)

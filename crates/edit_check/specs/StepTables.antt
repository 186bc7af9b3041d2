-- The tables of each pass (the project's own; only the code's contracts need it).
use Rattle.std.specs.Prelude.{◌≡◌, ℕ, Bool, List, [], length}
use Rattle.class_model.specs.declared.code.Code.{Code}
use Rattle.code_edit.specs.declared.act.Act.{Act}
use Rattle.const_tables.specs.Folding.{folds_of, unfolded}
use Rattle.edit_check.specs.declared.tables.Tables.{Tables}
use Rattle.edit_tables.specs.Aimed.{TellsAims}
use Rattle.edit_tables.specs.Marks.{none, target_marks, with_cuts, with_skips}
use Rattle.edit_tables.specs.Swept.{swept_of}
use Rattle.edit_check.specs.Uncut.{uncut}
use Rattle.edit_tables.specs.Unskipped.{unskipped}

-- the indices that acts cut
abbrev pub cuts_of : List Act → Code → List Bool
cuts_of acts code = with_cuts acts (none (length code.ins))

-- the indices that acts skip
abbrev pub skips_of : List Act → Code → List Bool
skips_of acts code = with_skips acts (none (length code.ins))

abbrev pub IsReachTables : List Act → ℕ → Tables → Type 0
IsReachTables acts count t =
    (t.lives.items ≡ swept_of acts count) × (t.pops.items ≡ []) × (t.skips.items ≡ [])
    × (t.folds.items ≡ []) × TellsAims t.aims []

abbrev pub IsConstTables : List Act → Code → Tables → Type 0
IsConstTables acts code t =
    (t.lives.items ≡ unfolded (folds_of acts (length code.ins)) code) × (t.pops.items ≡ [])
    × (t.skips.items ≡ []) × (t.folds.items ≡ folds_of acts (length code.ins))
    × TellsAims t.aims []

abbrev pub IsSlotsTables : List Act → Code → Tables → Type 0
IsSlotsTables acts code t =
    (t.lives.items ≡ uncut (cuts_of acts code) (target_marks code) code)
    × (t.pops.items ≡ cuts_of acts code) × (t.skips.items ≡ []) × (t.folds.items ≡ [])
    × TellsAims t.aims []

abbrev pub IsJumpsTables : List Act → Code → Tables → Type 0
IsJumpsTables acts code t =
    (t.lives.items ≡ unskipped (skips_of acts code) code) × (t.pops.items ≡ [])
    × (t.skips.items ≡ skips_of acts code) × (t.folds.items ≡ []) × TellsAims t.aims acts

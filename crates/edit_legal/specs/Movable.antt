-- Which act of jumps is legal, as it is found (the project's own; only the code's contracts need
-- it).
use Rattle.std.specs.Prelude.{ℕ, ◌+◌, List, [], ◌∷◌, not, ◌&&◌, ◌||◌, ◌==◌, Bool}
use Rattle.std.specs.Prelude.{false, Option, Some, None, is_some, length, nat_le, slice_get}
use Rattle.std.specs.Prelude.{if◌then◌else◌}
use Rattle.class_model.specs.declared.code.Code.{Code}
use Rattle.class_model.specs.declared.code.Ins.{Ins}
use Rattle.class_model.specs.declared.op.Op.{Op}
use Rattle.class_model.specs.declared.op.Op.TheVariants as op
use Rattle.code_edit.specs.declared.act.Act.{Act}
use Rattle.code_edit.specs.declared.act.Act.TheVariants as act
use Rattle.code_edit.specs.Flow.{targets}
use Rattle.code_edit.specs.Jumps.{skip_target, skipped}
use Rattle.code_edit.specs.Rewriting.{map_from, retargeted}
use Rattle.edit_tables.specs.Spread.{entered, spread}
use Rattle.edit_tables.specs.declared.aims.Aims.{Aims}
use Rattle.edit_tables.specs.Aimed.{aimed, moved}
use Rattle.edit_tables.specs.Marks.{has, none, with_skips}
use Rattle.edit_tables.specs.Places.{counts_from}
use Rattle.edit_tables.specs.Unskipped.{unskipped}

-- ---- chains of gotos

-- where a goto leads
abbrev pub goto_to : Op → Option ℕ
goto_to (op.Goto to) = Some to
goto_to o = None

-- where the goto of an index leads, where there is one
abbrev pub goto_of : Option Ins → Option ℕ
goto_of None = None
goto_of (Some i) = goto_to i.op

-- the goto, if there is one, leads to an index or to another one from which this holds
abbrev pub leads_on : ℕ → (ℕ → Bool) → Option ℕ → Bool
leads_on to rest None = false
leads_on to rest (Some next) = next == to || rest next

-- at most as many gotos as the list is long, and at least one, lead from one index to another
abbrev pub follows : List Ins → Code → ℕ → ℕ → Bool
follows [] code from to = false
follows (i ∷ ins) code from to =
    leads_on to (λ next. follows ins code next to) (goto_of (slice_get code.ins from))

-- the target of this number, where the index has one
abbrev pub target_at : Option Ins → ℕ → Option ℕ
target_at None which = None
target_at (Some i) which = slice_get (targets i.op) which

-- gotos lead there from a target
abbrev pub follows_from : Code → Option ℕ → ℕ → Bool
follows_from code None to = false
follows_from code (Some old) to = follows code.ins code old to

-- ---- the last index

-- one more than the last index that is marked, the first one's being at, or the given number
abbrev pub end_from : ℕ → ℕ → List Bool → ℕ
end_from end at [] = end
end_from end at (b ∷ bs) = end_from (if b then at + 1 else end) (at + 1) bs

-- the targets of the instruction at an index after the acts
abbrev pub targets_after : Aims → List Bool → ℕ → Ins → List ℕ
targets_after aims skips at i =
    targets (if has skips at then skipped i.op else retargeted (aimed aims at) i.op)

-- the indices to which what lives still leads after the acts
abbrev pub still_aimed : Aims → List Bool → List Bool → Code → List Bool
still_aimed aims skips lives code =
    entered (counts_from 0 lives) code.handlers
    (spread (targets_after aims skips) lives 0 code.ins (none (length code.ins)))

-- ---- acts

-- A branch to this target may be skipped: it leads to the next index, and isn't an index to which
-- something leads and behind which nothing lives.
abbrev pub skip_fits : Aims → ℕ → List Bool → ℕ → Option ℕ → Bool
skip_fits aims end marks at None = false
skip_fits aims end marks at (Some to) =
    aimed aims at 0 to == at + 1 && not (nat_le end at && has marks at)

abbrev pub is_skippable : Aims → ℕ → List Bool → ℕ → Ins → Bool
is_skippable aims end marks at i = skip_fits aims end marks at (skip_target i.op)

-- the same of each index, where these are skipped and these live
abbrev pub skippable_by : Aims → List Bool → List Bool → Code → List Bool
skippable_by aims skips lives code =
    map_from (is_skippable aims (end_from 0 0 lives) (still_aimed aims skips lives code)) 0 code.ins

abbrev pub skips_of : List Act → Code → List Bool
skips_of acts code = with_skips acts (none (length code.ins))

abbrev pub skippable : Aims → List Act → Code → List Bool
skippable aims acts code =
    skippable_by aims (skips_of acts code) (unskipped (skips_of acts code) code) code

-- an act is legal behind others: an aim follows gotos, and no other names its target; a skip names
-- an index that may be skipped, and no other does
abbrev pub may_jump : Code → List Bool → List Act → Act → Bool
may_jump code skippable before (act.Aim at which to) =
    follows_from code (target_at (slice_get code.ins at) which) to
    && not (is_some (moved before at which))
may_jump code skippable before (act.Skip at) =
    has skippable at && not (has (with_skips before (none (length skippable))) at)
may_jump code skippable before a = false

-- Codes that change by the tables of a step are those after its acts.
use Rattle.std.proofs.Common.{ℕ, ◌<◌, List, [], ◌∷◌, Bool, Option, Some, None, ◌≡◌, refl, sym, ap}
use Rattle.std.proofs.Common.{◌∙◌, subst}
use Rattle.std.specs.Prelude.{length}
use Rattle.std.specs.Map.{lookup}
use Rattle.std.specs.Option.{option_or, unwrap_or}
use Rattle.std.specs.Ordering.{is_eq}
use Rattle.class_model.specs.declared.code.Code.{Code}
use Rattle.code_edit.specs.declared.act.Act.{Act}
use Rattle.code_edit.specs.Applied.{applied}
use Rattle.code_edit.specs.Constants.{AreLegalConst, folded_code}
use Rattle.code_edit.specs.Jumps.{AreLegalJumps, aim, jumped_code, moved_by}
use Rattle.code_edit.specs.Reach.{AreLegalDrops, left_code}
use Rattle.code_edit.specs.Slots.{slotted_code}
use Rattle.code_edit.specs.SoundCode.{IsSound}
use Rattle.edit_tables.specs.declared.aims.Aims.{Aims}
use Rattle.edit_check.specs.declared.tables.Tables.{Tables}
use Rattle.edit_tables.specs.Aimed.{TellsAims, aimed, kept_aim, moved, target_order}
use Rattle.edit_check.specs.Changed as by_lists
use Rattle.edit_check.specs.StepTables.{IsConstTables, IsJumpsTables, IsReachTables, IsSlotsTables}
use Rattle.edit_check.specs.Tables.{changed}
use Rattle.edit_check.proofs.Applying.{folds_is, jumps_is, kept_long, reach_is, slots_is}
use Rattle.const_tables.proofs.FoldTable.{unfolded_long}
use Rattle.edit_tables.proofs.Aiming.{aim_is}
use Rattle.edit_tables.proofs.Staying.{going_long}
use Rattle.edit_tables.proofs.Sweeping.{swept_long}

-- where nothing is kept, each target leads where it led
no_aim : (aims : Aims) → TellsAims aims [] → (at which t : ℕ) → aimed aims at which t ≡ t
no_aim aims none at which t = ap (λ o. unwrap_or o t) (none at which)

-- what the tables say is what the lists say
by_tables : (t : Tables) (code : Code) (lives pops skips : List Bool) (folds : List (Option ℕ))
    → t.lives.items ≡ lives → t.pops.items ≡ pops → t.skips.items ≡ skips → t.folds.items ≡ folds
    → changed t code ≡ by_lists.changed lives pops skips folds (aimed t.aims) code
by_tables t code lives pops skips folds l p s f =
    λ i. by_lists.changed (l i) (p i) (s i) (f i) (aimed t.aims) code

pub reach_after : (acts : List Act) (code : Code) (t : Tables)
    → IsReachTables acts (length code.ins) t
    → IsSound code → AreLegalDrops acts code → changed t code ≡ left_code acts code
reach_after acts code t h sound legal =
    by_tables t code _ [] [] [] h.0 h.1 h.2 h.3
    ∙ reach_is acts code legal sound (aimed t.aims) (no_aim t.aims h.4)

pub const_after : (acts : List Act) (code : Code) (t : Tables) → IsConstTables acts code t
    → IsSound code
    → AreLegalConst acts code → changed t code ≡ folded_code acts code
const_after acts code t h sound legal =
    by_tables t code _ [] [] _ h.0 h.1 h.2 h.3
    ∙ folds_is acts code sound legal (aimed t.aims) (no_aim t.aims h.4)

pub slots_after : (acts : List Act) (code : Code) (t : Tables) → IsSlotsTables acts code t
    → IsSound code
    → changed t code ≡ slotted_code acts code
slots_after acts code t h sound =
    by_tables t code _ _ [] [] h.0 h.1 h.2 h.3
    ∙ slots_is acts code sound (aimed t.aims) (no_aim t.aims h.4)

pub jumps_after : (acts : List Act) (code : Code) (t : Tables) → IsJumpsTables acts code t
    → IsSound code
    → AreLegalJumps acts code → changed t code ≡ jumped_code acts code
jumps_after acts code t h sound legal =
    by_tables t code _ [] _ [] h.0 h.1 h.2 h.3
    ∙ jumps_is acts code sound legal (aimed t.aims)
    (λ at which to. ap (λ o. unwrap_or o to) (h.4 at which) ∙ aim_is acts at which to)

-- ---- lengths

pub reach_few : (acts : List Act) (code : Code) (t : Tables) (n : ℕ)
    → IsReachTables acts (length code.ins) t → length code.ins < n → length t.lives.items < n
reach_few acts code t n h lt =
    subst (λ m. m < n)
    (sym (ap (λ (xs : List Bool). length xs) h.0 ∙ swept_long acts (length code.ins))) lt

pub const_few : (acts : List Act) (code : Code) (t : Tables) (n : ℕ) → IsConstTables acts code t
    → length code.ins < n → length t.lives.items < n
const_few acts code t n h lt =
    subst (λ m. m < n) (sym (ap (λ (xs : List Bool). length xs) h.0 ∙ unfolded_long acts code)) lt

pub slots_few : (acts : List Act) (code : Code) (t : Tables) (n : ℕ) → IsSlotsTables acts code t
    → length code.ins < n → length t.lives.items < n
slots_few acts code t n h lt =
    subst (λ m. m < n) (sym (ap (λ (xs : List Bool). length xs) h.0 ∙ kept_long acts code)) lt

pub jumps_few : (acts : List Act) (code : Code) (t : Tables) (n : ℕ) → IsJumpsTables acts code t
    → length code.ins < n → length t.lives.items < n
jumps_few acts code t n h lt =
    subst (λ m. m < n) (sym (ap (λ (xs : List Bool). length xs) h.0 ∙ going_long acts code)) lt

-- What stays of a set whose methods get other codes, as statements on all sets (the project's own).
use Rattle.std.specs.Prelude.{◌≡◌, ℕ, Bool, List, Ok}
use Rattle.mark_core.specs.Marks.{Closed}
use Rattle.class_model.specs.WellFormed.{IsGoodCode}
use Rattle.class_model.specs.declared.class.Class.{Class}
use Rattle.class_model.specs.declared.code.Code.{Code}
use Rattle.link_check.specs.Profile.{links_checked}
use Rattle.type_verifier.specs.Verified.{AreTyped}
use Rattle.image_laws.specs.TakenSet.TakenSet.{IsTaken}
use Rattle.keep_rules.specs.declared.rules.Rules.{Rules}
use Rattle.keep_match.specs.Asked.{members_asked}
use Rattle.keep_match.specs.Fixed.{fixed_rows}
use Rattle.keep_match.specs.Seeds.{seeds_of}
use Rattle.keep_match.specs.declared.fixed.Fixes.{Fixes}
use Rattle.require_sys.specs.Requires.{requires}
use Rattle.require_sys.specs.declared.kept.KeptByRules.{KeptByRules}
use Rattle.code_edit.specs.Applied.{edited}
use Rattle.code_edit.specs.Legal.{AreRightSteps}
use Rattle.code_edit.specs.SoundCode.{IsSound}
use Rattle.code_edit.specs.declared.act.PassEdits.{PassEdits}
use Rattle.edit_premises.specs.Steps.{IsEdited}
use Rattle.shape_laws.specs.Bare.{CodesAre, DifferInCodes}
use Rattle.swap_laws.specs.Swapped.{IsSwapped}

-- no rule for links is broken where none was (JVMS 5.4.3, 5.4.4)
abbrev pub SwapKeepsLinks : Type 0
SwapKeepsLinks = (a b : List Class) → IsSwapped a b → links_checked a ≡ Ok tt → links_checked b ≡ Ok tt

-- the set is taken where it was
abbrev pub SwapKeepsTaken : Type 0
SwapKeepsTaken = (a b : List Class) → IsSwapped a b → IsTaken a → IsTaken b

-- what rules keep, what they ask for, and whose names stay by them
pub record MatchAlike (rules : Rules) (a b : List Class) : Type 0 where
  pub seeds : seeds_of rules b ≡ seeds_of rules a
  pub members : members_asked rules b ≡ members_asked rules a
  pub fixed : (what : Fixes) → fixed_rows what rules b ≡ fixed_rows what rules a

-- is the same of sets that differ in codes alone
abbrev pub RulesMatchAlike : Type 0
RulesMatchAlike = (rules : Rules) (a b : List Class) → DifferInCodes a b → MatchAlike rules a b

-- what is closed stays closed
abbrev pub SwapKeepsClosed : Type 0
SwapKeepsClosed = (a b : List Class) (kept : KeptByRules) (set : ℕ → Bool) → IsSwapped a b
    → Closed (requires a kept) set → Closed (requires b kept) set

-- a sound code that follows the format does so after steps of right acts
abbrev pub EditedCodesFollowFormat : Type 0
EditedCodesFollowFormat = (steps : List PassEdits) (code : Code) → AreRightSteps steps code → IsSound code
    → IsGoodCode code → IsGoodCode (edited steps code)

-- a set that is taken and typed is swapped for one with codes after right steps
abbrev pub EditedSetsAreSwapped : Type 0
EditedSetsAreSwapped = (a b : List Class) → IsTaken a → AreTyped a → DifferInCodes a b → CodesAre IsEdited a b
    → IsSwapped a b

-- What is removed and gets new names changes nothing, as a statement on all sets, rules, marks and names (the project's
-- own).
use Rattle.std.specs.Prelude.{◌≡◌, ℕ, Bool, true, List, Some, replicate, slice_get}
use Rattle.mark_core.specs.Marks.{Closed, set_of}
use Rattle.class_model.specs.declared.class.Class.{Class}
use Rattle.class_pool.specs.Count.{item_count}
use Rattle.class_rename.specs.Names.{Names}
use Rattle.class_rename.specs.Renamed.{renamed}
use Rattle.jvm_model.specs.Same.{AreKept, Same}
use Rattle.jvm_model.specs.Value.{Key}
use Rattle.member_shrink.specs.Shrunk.{shrunk}
use Rattle.require_sys.specs.Requires.{requires}
use Rattle.require_sys.specs.declared.kept.KeptByRules.{KeptByRules}
use Rattle.set_view.specs.ViewOf.{view_of}
use Rattle.image_laws.specs.TakenSet.TakenSet.{IsTaken}
use Rattle.pair_laws.specs.RenamedImage.Renaming.{FindsItsClasses, IsRenamedSet, KeepsNamesApart}
use Rattle.pair_laws.specs.RenamedSame.NewCodes.{HasNewCodes}
use Rattle.pair_laws.specs.RenamedSame.NewKeys.{kept_names}

-- classes are those that closed marks leave of a set, under names that stay apart, in whatever order
pub record IsLeftUnderNames (classes : List Class) (rules : KeptByRules) (marks : List Bool) (names : Names)
    (place : ℕ → ℕ) (out : List Class) : Type 0 where
  pub closed : Closed (requires classes rules) (set_of marks)
  pub found : FindsItsClasses out
  pub apart : KeepsNamesApart names (shrunk classes marks)
  pub renamed : IsRenamedSet names place (shrunk classes marks) out
  pub codes : HasNewCodes names place (shrunk classes marks) out

-- a set that is taken and such classes do the same, from each entry that is kept
abbrev pub NewNamesKeepSame : Type 0
NewNamesKeepSame = (classes : List Class) (rules : KeptByRules) (marks : List Bool) (names : Names) (place : ℕ → ℕ)
    (out : List Class) → IsTaken classes → IsLeftUnderNames classes rules marks names place out
    → (entries : List Key) → AreKept (kept_names names classes marks) entries
    → Same (view_of classes) (view_of out) (kept_names names classes marks) entries

-- each item is kept
abbrev pub all_marks : List Class → List Bool
all_marks classes = replicate (item_count classes) true

-- classes are those of a set under names that stay apart, in whatever order, and each is found by its name
pub record IsUnderNames (classes : List Class) (names : Names) (place : ℕ → ℕ) (out : List Class) : Type 0 where
  pub found : FindsItsClasses out
  pub apart : KeepsNamesApart names classes
  pub at : (n : ℕ) (c : Class) → slice_get classes n ≡ Some c → slice_get out (place n) ≡ Some (renamed names c)

-- a set that is taken and its classes under such names do the same, from each entry that is there
abbrev pub RenamedKeepsSame : Type 0
RenamedKeepsSame = (classes : List Class) (names : Names) (place : ℕ → ℕ) (out : List Class) → IsTaken classes
    → IsUnderNames classes names place out → (entries : List Key)
    → AreKept (kept_names names classes (all_marks classes)) entries
    → Same (view_of classes) (view_of out) (kept_names names classes (all_marks classes)) entries

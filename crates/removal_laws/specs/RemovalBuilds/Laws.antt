-- What is left of a set that is taken is built again, as statements on all sets, rules and marks (the project's own).
use Rattle.std.specs.Prelude.{◌≡◌, true, Bool, List}
use Rattle.mark_core.specs.Marks.{Closed, set_of}
use Rattle.class_model.specs.declared.class.Class.{Class}
use Rattle.member_shrink.specs.Shrunk.{shrunk}
use Rattle.require_sys.specs.Requires.{requires}
use Rattle.require_sys.specs.declared.kept.KeptByRules.{KeptByRules}
use Rattle.image_laws.specs.TakenSet.TakenSet.{IsTaken}
use Rattle.removal_laws.specs.RemovalBuilds.FilesLeft.{AreBuilt, files_left}

-- the files of marked classes make the set that is left
abbrev pub RemovalBuildsAgain : Type 0
RemovalBuildsAgain = (classes : List Class) (rules : KeptByRules) (marks : List Bool) → (taken : IsTaken classes)
    → Closed (requires classes rules) (set_of marks)
    → AreBuilt (files_left taken.files marks) (shrunk classes marks)

-- all that was asked of the set holds of what is left, where the attribute Exceptions is kept: else it may name classes
-- that aren't, and is taken away
abbrev pub RemovalKeepsTaken : Type 0
RemovalKeepsTaken = (classes : List Class) (rules : KeptByRules) (marks : List Bool) → IsTaken classes
    → Closed (requires classes rules) (set_of marks) → rules.exceptions ≡ true → IsTaken (shrunk classes marks)

-- What is removed changes nothing, as a statement on all sets, rules and marks (the project's own).
use Rattle.std.specs.Prelude.{Bool, List}
use Rattle.mark_core.specs.Marks.{Closed, set_of}
use Rattle.class_model.specs.declared.class.Class.{Class}
use Rattle.jvm_model.specs.Same.{AreKept, Same, SameSteps}
use Rattle.jvm_model.specs.Value.{Key}
use Rattle.member_shrink.specs.Shrunk.{shrunk}
use Rattle.require_sys.specs.Requires.{requires}
use Rattle.require_sys.specs.declared.kept.KeptByRules.{KeptByRules}
use Rattle.set_view.specs.ViewOf.{view_of}
use Rattle.image_laws.specs.TakenSet.TakenSet.{IsTaken}
use Rattle.removal_laws.specs.RemovalSame.KeptNames.{kept_names}

-- a set that is taken and what closed marks leave of it do the same, from each entry that is kept
abbrev pub RemovalKeepsSame : Type 0
RemovalKeepsSame = (classes : List Class) (rules : KeptByRules) (marks : List Bool) → IsTaken classes
    → Closed (requires classes rules) (set_of marks) → (entries : List Key)
    → AreKept (kept_names classes marks) entries
    → Same (view_of classes) (view_of (shrunk classes marks)) (kept_names classes marks) entries

-- the same at equal numbers of steps
abbrev pub RemovalKeepsSteps : Type 0
RemovalKeepsSteps = (classes : List Class) (rules : KeptByRules) (marks : List Bool) → IsTaken classes
    → Closed (requires classes rules) (set_of marks) → (entries : List Key)
    → AreKept (kept_names classes marks) entries
    → SameSteps (view_of classes) (view_of (shrunk classes marks)) (kept_names classes marks) entries

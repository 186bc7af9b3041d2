-- The methods of what is left of a set that is taken are typed, as a statement on all sets, rules and marks (the
-- project's own).
use Rattle.std.specs.Prelude.{Bool, List}
use Rattle.mark_core.specs.Marks.{Closed, set_of}
use Rattle.class_model.specs.declared.class.Class.{Class}
use Rattle.member_shrink.specs.Shrunk.{shrunk}
use Rattle.require_sys.specs.Requires.{requires}
use Rattle.require_sys.specs.declared.kept.KeptByRules.{KeptByRules}
use Rattle.image_laws.specs.TakenSet.TakenSet.{IsTaken}
use Rattle.type_verifier.specs.Verified.{AreTyped}

-- each method that is left is typed, as it was, whether the attribute Exceptions is kept or not (JVMS 4.10.1)
abbrev pub RemovalKeepsTyped : Type 0
RemovalKeepsTyped = (classes : List Class) (rules : KeptByRules) (marks : List Bool) → IsTaken classes
    → AreTyped classes → Closed (requires classes rules) (set_of marks) → AreTyped (shrunk classes marks)

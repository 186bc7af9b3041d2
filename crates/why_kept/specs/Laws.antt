-- What derivations and levels have to do with marks (the project's own: laws of the definitions).
use Rattle.std.specs.Prelude.{◌↔◌, ℕ, List}
use Rattle.mark_core.specs.Marks.{IsMarked}
use Rattle.mark_core.specs.Valid.{Valid}
use Rattle.mark_core.specs.declared.system.System.{System}
use Rattle.why_kept.specs.Derivations.{IsDerivedAt}
use Rattle.why_kept.specs.Levels.{AreBounds, IsCertified}

-- an item is in the least closed set exactly where it has a derivation
abbrev pub AreMarkedByDerivations : Type 0
AreMarkedByDerivations = (sys : System) (x : ℕ) → Valid sys
    → IsMarked sys x ↔ ((depth : ℕ) × IsDerivedAt sys x depth)

-- certified levels are bounds of the depths of derivations
abbrev pub BoundDerivations : Type 0
BoundDerivations = (sys : System) (levels : List ℕ) → Valid sys → IsCertified sys levels → AreBounds sys levels

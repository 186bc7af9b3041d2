-- Each valid system has a least closed set (the project's own: so what is kept is always defined).
use Rattle.std.specs.Prelude.{Bool, List}
use Rattle.mark_core.specs.Marks.{Marks}
use Rattle.mark_core.specs.Valid.{Valid}
use Rattle.mark_core.specs.declared.system.System.{System}

-- a list tells it
abbrev pub AreSomeMarks : Type 0
AreSomeMarks = (sys : System) → Valid sys → (marks : List Bool) × Marks sys marks

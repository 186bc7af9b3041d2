-- What is asked of a call that finds marks (the project's own: whoever finds them, they are the least closed set).
use Rattle.std.specs.Prelude.{◌≡◌, Bool, List, Result, IfOk}
use Rattle.std.specs.Borrow.{Bor}
use Rattle.jv_base.specs.declared.outcome.OutOfMemory.{OutOfMemory}
use Rattle.mark_core.specs.Marks.{Marks}
use Rattle.mark_core.specs.Valid.{Valid}
use Rattle.mark_core.specs.declared.system.System.{System}

-- it may be called for each valid system, and answers its least closed set, or that memory is wanting
abbrev pub FindsMarks : (Bor System → Type 0) → (Bor System → Result (List Bool) OutOfMemory → Type 0) → Type 0
FindsMarks pre post =
    ((sys : Bor System) → Valid sys.now → pre sys)
    × ((sys : Bor System) (answer : Result (List Bool) OutOfMemory) → Valid sys.now → post sys answer
    → IfOk answer (Marks sys.now))

-- What contracts see of the system's files and of its standard output.
use Rattle.std.specs.Prelude.{ℕ, List}
use Rattle.tree_io.specs.declared.event.Event.{Event}

-- how many calls have failed, and every call with its answer (the project's own: no contract can say what the system
-- holds)
pub record SystemCalls : Type 0 where
  pub faults : ℕ
  pub log : List Event

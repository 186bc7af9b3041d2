-- The theorem on the machine: what holds after any run.
use Rattle.std.specs.Prelude.{◌≡◌, ℕ, IsTrue, List}
use mathlib.Core.Option.{some}
use lib.ListN.{get_elem?}
use Rattle.mark_core.specs.declared.system.System.{System}
use Rattle.mark_machine.specs.declared.machine.View.{View}
use Rattle.mark_machine.specs.declared.machine.Event.{Event}
use Rattle.mark_machine.specs.Machine.{Machine, Run, IsStart}

abbrev pub Reached : System → List (ℕ × Event) → Machine → Type 0
Reached sys events t = (s : Machine) × IsStart s × Run sys s events t

-- some view has seen idle
abbrev pub IsQuiet : Machine → Type 0
IsQuiet t = (id : ℕ) × (v : View) × (get_elem? t.views id ≡ some v) × IsTrue v.quiet

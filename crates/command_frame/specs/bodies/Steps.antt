-- What the steps of a run have done (only the proof of `run_command` needs it).
use Rattle.std.specs.Prelude.{List, Result, Ok, Err}
use Rattle.tree_io.specs.Files.{Files}
use Rattle.tree_io.specs.declared.event.Event.{Event}
use Rattle.command_frame.specs.Answer.{StopsSo, Writes}
use Rattle.command_frame.specs.declared.command.Plan.{Plan}
use Rattle.command_frame.specs.declared.refusal.Refusal.{Refusal}
use Rattle.command_frame.specs.declared.stop.Stop.{Stop}

-- the plan was done, or the command stopped before
abbrev pub CarriesOut : (Plan → Type 0) → (Files → Result Plan Refusal → Type 0) → Result Plan Stop → List Event → Type 0
CarriesOut Plans IsDue (Ok plan) calls = Writes Plans IsDue plan calls
CarriesOut Plans IsDue (Err stop) calls = StopsSo Plans IsDue stop calls

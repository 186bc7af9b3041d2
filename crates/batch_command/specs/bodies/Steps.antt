-- What the steps of a batch have done (only the proofs of bodies need it).
use Rattle.std.specs.Prelude.{◌≡◌, ◌⊎◌, ◌<◌, ◌+◌, ℕ, List, Result, Ok, Err}
use Rattle.tree_io.specs.Files.{Files}
use Rattle.tree_io.specs.declared.event.Event.{Event}
use Rattle.command_frame.specs.Output.{FailsSo, Hands, LacksSo, Output}
use Rattle.command_frame.specs.Refusal.{passed}
use Rattle.command_frame.specs.declared.refusal.Quantity.TheVariants as quantity
use Rattle.command_frame.specs.declared.refusal.Refusal.{Refusal}
use Rattle.command_frame.specs.declared.stop.Stop.{Stop}
use Rattle.command_frame.specs.declared.stop.Stop.TheVariants.{Refused, Device, OutOfMemory}
use Rattle.batch_command.specs.Answer.{StopsSo, Writes}
use Rattle.batch_command.specs.declared.joined.Batch.{Batch}

-- the batch was done, or it stopped before
abbrev pub CarriesOut : (Files → Result Batch Refusal → Type 0) → Result Batch Stop → List Event → Type 0
CarriesOut IsDue (Ok batch) calls = Writes IsDue batch calls
CarriesOut IsDue (Err stop) calls = StopsSo IsDue stop calls

-- the reports were said, and the status is that of the jobs; or their device failed; or memory was wanting
abbrev pub SaysBatch : Batch → ℕ → Output → Output → Type 0
SaysBatch batch status old new =
    ((status ≡ batch.status) × Hands batch.plan.text (Ok tt) old new)
    ⊎ (((status ≡ 7) × FailsSo batch.plan.text old new) ⊎ ((status ≡ 10) × LacksSo batch.plan.text old new))

-- so much room is left behind so many bytes, or they have none
abbrev pub HasRoom : ℕ → ℕ → Result ℕ Stop → Type 0
HasRoom room bytes (Ok left) = left + bytes ≡ room
HasRoom room bytes (Err (Refused refusal)) = (refusal ≡ passed quantity.Batch) × (room < bytes)
HasRoom room bytes (Err Device) = ⊥
HasRoom room bytes (Err OutOfMemory) = Unit {0}

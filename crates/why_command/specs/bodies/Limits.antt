-- Whether a text isn't longer than it may be (only the proofs of bodies need it).
use Rattle.std.specs.Prelude.{◌≡◌, ◌≤◌, ◌<◌, ℕ, List, length, Result, Ok, Err}
use Rattle.command_frame.specs.Refusal.{passed, quantity_limit}
use Rattle.command_frame.specs.declared.refusal.Quantity.TheVariants as quantity
use Rattle.command_frame.specs.declared.stop.Stop.{Stop}
use Rattle.command_frame.specs.declared.stop.Stop.TheVariants.{Refused, Device, OutOfMemory}

-- it isn't; or it is refused, since it is
abbrev pub IsWithin : Result (Unit {0}) Stop → List ℕ → Type 0
IsWithin (Ok done) text = length text ≤ quantity_limit quantity.Text
IsWithin (Err (Refused refusal)) text = (refusal ≡ passed quantity.Text) × (quantity_limit quantity.Text < length text)
IsWithin (Err Device) text = ⊥
IsWithin (Err OutOfMemory) text = Unit {0}

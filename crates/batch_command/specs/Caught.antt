-- What a job answered, a refusal of it among the rest (the project's own: a batch goes on where a job is refused).
use Rattle.std.specs.Prelude.{Result, Ok, Err}
use Rattle.command_frame.specs.declared.refusal.Refusal.{Refusal}
use Rattle.command_frame.specs.declared.stop.Stop.{Stop}
use Rattle.command_frame.specs.declared.stop.Stop.TheVariants.{Refused, Device, OutOfMemory}

abbrev pub caught : {A : Type 0} → Result A Stop → Result (Result A Refusal) Stop
caught (Ok x) = Ok (Ok x)
caught (Err (Refused refusal)) = Ok (Err refusal)
caught (Err Device) = Err Device
caught (Err OutOfMemory) = Err OutOfMemory

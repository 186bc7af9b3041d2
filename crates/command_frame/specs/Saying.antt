-- What a command says that ends without its result (the project's own: the command's answers are no part of a standard).
use Rattle.std.specs.Prelude.{◌⊎◌, ℕ}
use Rattle.command_frame.specs.Output.{Output, SaysLine}
use Rattle.command_frame.specs.Refusal.{status_of, stop_line}
use Rattle.command_frame.specs.declared.stop.Stop.{Stop}
use Rattle.command_frame.specs.declared.stop.Stop.TheVariants.{Refused, Device, OutOfMemory}

-- the line of a stop was said, with its status
abbrev pub SaysStop : Stop → ℕ → Output → Output → Type 0
SaysStop stop status old new = SaysLine (status_of stop) (stop_line stop) status old new

-- memory may be wanting for the line of a refusal
abbrev pub Says : Stop → ℕ → Output → Output → Type 0
Says (Refused refusal) status old new =
    SaysStop (Refused refusal) status old new ⊎ SaysStop OutOfMemory status old new
Says Device status old new = SaysStop Device status old new
Says OutOfMemory status old new = SaysStop OutOfMemory status old new

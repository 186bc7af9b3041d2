-- What is said by a test (only the proofs of bodies need it).
use Rattle.std.specs.Prelude.{◌≡◌, Bool, true, false, Result, Ok, Err}
use Rattle.command_frame.specs.declared.command.Plan.{Plan}
use Rattle.command_frame.specs.declared.refusal.Refusal.{Refusal}
use Rattle.compare_command.specs.Due.{differs_refused, same_plan}

abbrev pub said_of : Bool → Result Plan Refusal
said_of true = Ok same_plan
said_of false = Err differs_refused

-- `same` is said where the output shows the same, else that it differs
abbrev pub IsSaid : Bool → Result Plan Refusal → Type 0
IsSaid shown due = due ≡ said_of shown

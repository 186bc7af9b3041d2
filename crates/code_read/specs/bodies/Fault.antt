-- What is wrong with a code: parts that only the proofs of bodies need (the project's own: steps of a call).
use Rattle.std.specs.Prelude.{Result, Ok, Err}
use Rattle.format_reading.specs.declared.fault.FormatFault.{FormatFault}
use Rattle.code_read.specs.declared.fault.Wrong.{Wrong}
use Rattle.code_read.specs.Fault.{wrong_of}

-- what is read, and of a fault its rule alone (only the proof of decode_code needs it)
abbrev pub with_wrong : {A : Type 0} → Result A FormatFault → Result A Wrong
with_wrong (Ok x) = Ok x
with_wrong (Err f) = Err (wrong_of f.kind)

-- When an output has shown what its input has (the project's own: what `compare` asks).
use Rattle.std.specs.Prelude.{◌≡◌, nat_eq, IsTrue, Option, Some, None}
use Rattle.std.specs.List.{starts_with}
use Rattle.class_run.specs.declared.ended.End.{End}
use Rattle.class_run.specs.declared.ended.End.TheVariants as end
use Rattle.class_run.specs.declared.ended.Ended.{Ended}
use Rattle.mapping_file.specs.declared.mapping.Mapping.{Mapping}
use Rattle.new_names.specs.NewNames.{names_of}

-- the end of a run, with the new name of the class of what was thrown
abbrev pub new_end : Mapping → End → End
new_end mapping (end.Threw class n) = end.Threw ((names_of mapping).class class) n
new_end mapping other = other

-- an output has printed what its input has, and has come to the same end
abbrev pub EndsSo : Mapping → Ended → Ended → Type 0
EndsSo mapping input output = (input.printed ≡ output.printed) × (new_end mapping input.how ≡ output.how)

-- an output has printed at least what its input has
abbrev pub PrintsSo : Ended → Ended → Type 0
PrintsSo input output = IsTrue (starts_with nat_eq output.printed input.printed)

-- where the input has ended, the output, after as many steps, has ended so; else it has printed so
abbrev pub ShowsSo : End → Mapping → Ended → Ended → Type 0
ShowsSo end.Running mapping input output = PrintsSo input output
ShowsSo how mapping input output = EndsSo mapping input output

-- the output has shown what the input has
abbrev pub IsAlike : Mapping → Ended → Ended → Type 0
IsAlike mapping input output = ShowsSo input.how mapping input output

-- the same of an output that may have no entry; then it shows nothing
abbrev pub IsAnyAlike : Mapping → Ended → Option Ended → Type 0
IsAnyAlike mapping input None = ⊥
IsAnyAlike mapping input (Some output) = IsAlike mapping input output

-- What `retrace MAPPING TRACE` is to say of told files, or why it is refused (the project's own: what the command
-- promises).
use Rattle.std.specs.Prelude.{◌≡◌, ℕ, List, [], Result, Ok, Err}
use Rattle.tree_io.specs.Files.{Files}
use Rattle.mapping_file.specs.KindNames.{map_kind_name}
use Rattle.mapping_file.specs.MapReading.{read_mapping}
use Rattle.mapping_file.specs.declared.mapping.MapFault.{MapFault}
use Rattle.mapping_file.specs.declared.mapping.Mapping.{Mapping}
use Rattle.retrace_core.specs.Retraced.{retraced}
use Rattle.command_frame.specs.Refusal.{text_refused}
use Rattle.command_frame.specs.Steps.{IsFile, Then}
use Rattle.command_frame.specs.declared.command.Plan.{Plan}
use Rattle.command_frame.specs.declared.refusal.Quantity.TheVariants as quantity
use Rattle.command_frame.specs.declared.refusal.Refusal.{Refusal}
use Rattle.retrace_command.specs.declared.command.RetraceFiles.{RetraceFiles}

-- the mapping of a text, or its first fault
abbrev pub or_fault : Result Mapping MapFault → Result Mapping Refusal
or_fault (Ok mapping) = Ok mapping
or_fault (Err f) = Err (text_refused f.line (map_kind_name f.kind))

abbrev pub IsMapping : List ℕ → Result Mapping Refusal → Type 0
IsMapping map due = due ≡ or_fault (read_mapping map)

-- no file is written, and this is said
abbrev pub says : List ℕ → Plan
says text = record { files = []; text = text }

-- a trace with the old names of a mapping's text
abbrev pub IsRetraced : List ℕ → List ℕ → Result Plan Refusal → Type 0
IsRetraced map trace = Then (IsMapping map) (λ mapping due. due ≡ Ok (says (retraced mapping trace)))

-- the same of the trace in a file
abbrev pub FollowsMapping : Files → List ℕ → List ℕ → Result Plan Refusal → Type 0
FollowsMapping files trace map = Then (IsFile files quantity.Trace trace) (IsRetraced map)

-- what the command is to say: the mapping's file is looked at first, then the trace's, then the mapping's text
abbrev pub IsDue : RetraceFiles → Files → Result Plan Refusal → Type 0
IsDue named files = Then (IsFile files quantity.Mapping named.mapping) (FollowsMapping files named.trace)

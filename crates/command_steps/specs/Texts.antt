-- The texts that join an output to its input (the project's own: what commands look at).
use Rattle.std.specs.Prelude.{◌≡◌, ℕ, List, Option, Some, None, Result, Ok, Err}
use Rattle.tree_io.specs.Files.{Files}
use Rattle.mapping_file.specs.KindNames.{map_kind_name}
use Rattle.mapping_file.specs.MapReading.{read_mapping}
use Rattle.mapping_file.specs.declared.mapping.MapFault.{MapFault}
use Rattle.mapping_file.specs.declared.mapping.Mapping.{Mapping}
use Rattle.witness_file.specs.KindNames.{wit_kind_name}
use Rattle.witness_file.specs.WitnessReading.{read_witness}
use Rattle.witness_file.specs.declared.witness.WitFault.{WitFault}
use Rattle.witness_file.specs.declared.witness.Witness.{Witness}
use Rattle.command_frame.specs.Refusal.{text_refused}
use Rattle.command_frame.specs.Steps.{IsFile, Then}
use Rattle.command_frame.specs.declared.refusal.Quantity.TheVariants as quantity
use Rattle.command_frame.specs.declared.refusal.Refusal.{Refusal}

-- the mapping of a text, or its first fault
abbrev pub or_bad_mapping : Result Mapping MapFault → Result Mapping Refusal
or_bad_mapping (Ok mapping) = Ok mapping
or_bad_mapping (Err f) = Err (text_refused f.line (map_kind_name f.kind))

abbrev pub IsMapping : List ℕ → Result Mapping Refusal → Type 0
IsMapping text due = due ≡ or_bad_mapping (read_mapping text)

-- the witness of a text, or its first fault
abbrev pub or_bad_witness : Result Witness WitFault → Result Witness Refusal
or_bad_witness (Ok witness) = Ok witness
or_bad_witness (Err f) = Err (text_refused f.line (wit_kind_name f.kind))

abbrev pub IsWitness : List ℕ → Result Witness Refusal → Type 0
IsWitness text due = due ≡ or_bad_witness (read_witness text)

-- ---- an earlier mapping (ProGuard manual, "-applymapping")

-- that of a text
abbrev pub AreEarlier : List ℕ → Result (Option Mapping) Refusal → Type 0
AreEarlier text = Then (IsMapping text) (λ mapping due. due ≡ Ok (Some mapping))

-- that of the told file at a path
abbrev pub IsEarlierAt : Files → List ℕ → Result (Option Mapping) Refusal → Type 0
IsEarlierAt files path = Then (IsFile files quantity.Mapping path) AreEarlier

-- the same, or none where no path is given
abbrev pub IsEarlier : Files → Option (List ℕ) → Result (Option Mapping) Refusal → Type 0
IsEarlier files None due = due ≡ Ok None
IsEarlier files (Some path) due = IsEarlierAt files path due

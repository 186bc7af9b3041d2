-- What is said of a text (the project's own: lines that other readers can be checked by).
use Rattle.std.specs.Prelude.{ℕ, List, ◌++◌, codes, Result, Ok, Err}
use Rattle.std.specs.Fmt.{decimal}
use Rattle.mapping_file.specs.KindNames.{map_kind_name}
use Rattle.mapping_file.specs.Mappings.{mapping_text}
use Rattle.mapping_file.specs.declared.mapping.MapFault.{MapFault}
use Rattle.mapping_file.specs.declared.mapping.Mapping.{Mapping}
use Rattle.retrace_core.specs.Retraced.{retraced}
use Rattle.witness_file.specs.KindNames.{wit_kind_name}
use Rattle.witness_file.specs.Witnesses.{witness_text}
use Rattle.witness_file.specs.declared.witness.WitFault.{WitFault}
use Rattle.witness_file.specs.declared.witness.Witness.{Witness}

-- what is said of a text that was read and written again
abbrev pub ok_answer : List ℕ → List ℕ
ok_answer text = codes "ok " ++ text

-- what is said of a fault
abbrev pub fault_answer : ℕ → List ℕ → List ℕ
fault_answer line kind = decimal line ++ (codes " " ++ kind)

-- what is said of a mapping's text
abbrev pub mapping_answer : Result Mapping MapFault → List ℕ
mapping_answer (Ok map) = ok_answer (mapping_text map)
mapping_answer (Err f) = fault_answer f.line (map_kind_name f.kind)

-- what is said of a witness's text
abbrev pub witness_answer : Result Witness WitFault → List ℕ
witness_answer (Ok w) = ok_answer (witness_text w)
witness_answer (Err f) = fault_answer f.line (wit_kind_name f.kind)

-- what is said of a mapping's text and a trace
abbrev pub retrace_answer : Result Mapping MapFault → List ℕ → List ℕ
retrace_answer (Ok map) trace = ok_answer (retraced map trace)
retrace_answer (Err f) trace = fault_answer f.line (map_kind_name f.kind)

-- Trees and sinks in memory (the project's own: devices in memory, for trials).
use Rattle.std.specs.Prelude.{◌≡◌, ◌/◌, ℕ, IsTrue, IsFalse, List, [], ◌∷◌, length, take, Result, Ok, Err, refl}
use Rattle.std.specs.Coded.{Coded, code_by, coded×, coded_list, coded_ℕ}
use Rattle.std.specs.FinMap.{from_entries, insert, empty}
use Rattle.tree_io.specs.Calls.{CallCounts, counts_code, no_call, fails_next, passed, failed}
use Rattle.tree_io.specs.Files.{Files, files_code}
use Rattle.tree_io.specs.contracts.event.Event as event
use Rattle.tree_io.specs.declared.event.Event.{Event}
use Rattle.tree_io.specs.declared.faults.WriteFault.{WriteFault}
use Rattle.tree_io.specs.declared.faults.WriteFault.TheVariants as written
use Rattle.tree_io.specs.declared.file_at.FileAt.{FileAt}

-- files in memory, and the calls that were made
pub record MemoryFiles : Type 0 where
  pub files : Files
  pub counts : CallCounts
  pub log : List Event

-- they are stored as a tuple
abbrev pub memory_files_code : Coded MemoryFiles
memory_files_code =
    code_by (Files × (CallCounts × List Event))
    (coded× files_code (coded× counts_code (coded_list event.the_row.coded)))
    (λ m. (m.files, (m.counts, m.log))) (λ p. record { files = p.0; counts = p.1.0; log = p.1.1 }) (λ _. refl)

-- text in memory, and the calls that were made
pub record MemoryText : Type 0 where
  pub text : List ℕ
  pub counts : CallCounts
  pub log : List Event

abbrev pub memory_text_code : Coded MemoryText
memory_text_code =
    code_by (List ℕ × (CallCounts × List Event))
    (coded× (coded_list coded_ℕ) (coded× counts_code (coded_list event.the_row.coded)))
    (λ m. (m.text, (m.counts, m.log))) (λ p. record { text = p.0; counts = p.1.0; log = p.1.1 }) (λ _. refl)

-- the files that a map's entries tell
abbrev pub files_of_entries : List (List ℕ × List ℕ) → Files
files_of_entries entries = from_entries entries

-- files put one after the other over others
abbrev pub overlaid : Files → List FileAt → Files
overlaid files [] = files
overlaid files (f ∷ fs) = overlaid (insert files f.path f.bytes) fs

-- a tree in memory before its first call
abbrev pub tree_of : List FileAt → List ℕ → MemoryFiles
tree_of files fails = record { files = overlaid empty files; counts = no_call fails; log = [] }

-- a sink in memory before its first call
abbrev pub sink_of : List ℕ → MemoryText
sink_of fails = record { text = []; counts = no_call fails; log = [] }

-- the first half, rounded down
abbrev pub first_half : List ℕ → List ℕ
first_half bytes = take (length bytes / 2) bytes

-- a write fails just where it is named, and then it leaves the first half; after want of memory no file has changed
abbrev pub Writes : Result (Unit {0}) WriteFault → List ℕ → List ℕ → Files → CallCounts → Files → CallCounts → Type 0
Writes (Ok _) path bytes old calls new after =
    IsFalse (fails_next calls) × (new ≡ insert old path bytes) × (after ≡ passed calls)
Writes (Err written.Failed) path bytes old calls new after =
    IsTrue (fails_next calls) × (new ≡ insert old path (first_half bytes)) × (after ≡ failed calls)
Writes (Err written.OutOfMemory) path bytes old calls new after = (new ≡ old) × (after ≡ passed calls)

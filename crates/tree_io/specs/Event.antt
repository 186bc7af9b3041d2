-- Calls with their answers (the project's own: what was asked of the system, and what it said).
use Rattle.std.specs.Prelude.{ℕ, Bool, true, false, List, [], ◌∷◌, ◌++◌, Option, Some, None, Err}
use Rattle.std.specs.List.{filter, filter_map}
use Rattle.tree_io.specs.declared.event.Event.{Event}
use Rattle.tree_io.specs.declared.event.Event.TheVariants as event
use Rattle.tree_io.specs.declared.event.Note.{Note}
use Rattle.tree_io.specs.declared.event.Note.TheVariants as note
use Rattle.tree_io.specs.declared.faults.ListFault.TheVariants as listed
use Rattle.tree_io.specs.declared.faults.ReadFault.TheVariants as read
use Rattle.tree_io.specs.declared.faults.WriteFault.TheVariants as written
use Rattle.tree_io.specs.declared.faults.PutFault.TheVariants as appended
use Rattle.tree_io.specs.declared.file_at.FileAt.{FileAt}

-- what a note tells
abbrev pub event_of : Note → Event
event_of (note.Listed dir max answer) = event.Listed dir.now max answer.now
event_of (note.Read path max answer) = event.Read path.now max answer.now
event_of (note.Wrote path bytes answer) = event.Wrote path.now bytes.now answer.now
event_of (note.Put bytes answer) = event.Put bytes.now answer.now

-- one call more
abbrev pub noted : List Event → Note → List Event
noted events n = events ++ event_of n ∷ []

-- ---- what a log tells

-- the file that a call was to write
abbrev pub file_of : Event → Option FileAt
file_of (event.Wrote path bytes answer) = Some (record { path = path; bytes = bytes })
file_of _ = None

-- the path at which a call found no file to read
abbrev pub absent_of : Event → Option (List ℕ)
absent_of (event.Read path max (Err read.Absent)) = Some path
absent_of _ = None

-- a call answered that memory is wanting
abbrev pub wants_memory : Event → Bool
wants_memory (event.Listed dir max (Err listed.OutOfMemory)) = true
wants_memory (event.Read path max (Err read.OutOfMemory)) = true
wants_memory (event.Wrote path bytes (Err written.OutOfMemory)) = true
wants_memory (event.Put bytes (Err appended.OutOfMemory)) = true
wants_memory _ = false

-- the files that calls were to write, in their order
abbrev pub files_to_write : List Event → List FileAt
files_to_write calls = filter_map file_of calls

-- the paths at which there was no file to read
abbrev pub absent_paths : List Event → List (List ℕ)
absent_paths calls = filter_map absent_of calls

-- the calls for which memory was wanting
abbrev pub without_memory : List Event → List Event
without_memory calls = filter wants_memory calls

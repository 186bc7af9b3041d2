-- Files that fit the calls of a log (the project's own: what the system's files hold can't be said, but what they have
-- answered can).
use Rattle.std.specs.Prelude.{◌≡◌, ◌⊎◌, ℕ, List, [], ◌∷◌, ◌++◌, length, Option, Some, None, Ok, Err, IfSome}
use Rattle.std.specs.FinMap.{get, insert}
use Rattle.tree_io.specs.Event.{files_to_write, absent_paths, without_memory}
use Rattle.tree_io.specs.Files.{Files}
use Rattle.tree_io.specs.Tree.{due_list, due_read, Lists, ReadsFile}
use Rattle.tree_io.specs.declared.event.Event.{Event}
use Rattle.tree_io.specs.declared.event.Event.TheVariants.{Listed, Read, Wrote, Put}
use Rattle.tree_io.specs.declared.faults.WriteFault.TheVariants as written
use Rattle.tree_io.specs.declared.file_at.FileAt.{FileAt}

-- files that a call with this answer may find, and those that it leaves
abbrev pub Step : Event → Files → Files → Type 0
Step (Listed dir max answer) old new = (new ≡ old) × Lists answer (due_list old dir max)
Step (Read path max answer) old new = (new ≡ old) × ReadsFile answer (due_read (get old path) max)
Step (Wrote path bytes (Ok _)) old new = new ≡ insert old path bytes
Step (Wrote path bytes (Err written.Failed)) old new = (new ≡ old) ⊎ ((any : List ℕ) × (new ≡ insert old path any))
Step (Wrote path bytes (Err written.OutOfMemory)) old new = new ≡ old
Step (Put bytes answer) old new = new ≡ old

-- files that all these calls may find, one after the other, and those that they leave
abbrev pub Run : List Event → Files → Files → Type 0
Run [] old new = new ≡ old
Run (call ∷ calls) old new = (mid : Files) × Step call old mid × Run calls mid new

-- told files fit the calls, and go on being told
abbrev pub Tells : Option Files → Option Files → List Event → Type 0
Tells old new calls = IfSome old (λ files. (left : Files) × (new ≡ Some left) × Run calls files left)

-- calls were added to a log, told files fit them, and this holds of them
abbrev pub AddsCalls : List Event → List Event → Option Files → Option Files → (List Event → Type 0) → Type 0
AddsCalls log log2 told told2 Holds = (calls : List Event) × (log2 ≡ log ++ calls) × Tells told told2 calls
    × Holds calls

-- how often memory was wanting for a call
abbrev pub memory_faults : List Event → ℕ
memory_faults log = length (without_memory log)

-- calls were to write these files, found no file at these paths, and never lacked memory
pub record Did (files : List FileAt) (absent : List (List ℕ)) (calls : List Event) : Type 0 where
  pub wrote : files_to_write calls ≡ files
  pub missed : absent_paths calls ≡ absent
  pub had_memory : without_memory calls ≡ []

-- calls that wrote nothing and found no file at these paths alone, and what holds of all files that they fit; where
-- memory was wanting for an answer no more is said than that nothing was written
abbrev pub Sees : Option (List (List ℕ)) → (Files → Type 0) → List Event → Type 0
Sees None Holds calls = files_to_write calls ≡ []
Sees (Some absent) Holds calls = Did [] absent calls × ((files left : Files) → Run calls files left → Holds files)

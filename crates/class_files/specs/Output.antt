-- Files put one after the other (the project's own: what is written, and what stands where the writing stops).
use Rattle.std.specs.Prelude.{◌≡◌, ◌⊎◌, ℕ, List, [], ◌∷◌, ◌++◌, take, slice_get, Some, Result, Ok, Err}
use Rattle.std.specs.FinMap.{insert}
use Rattle.tree_io.specs.Event.{files_to_write}
use Rattle.tree_io.specs.Files.{Files}
use Rattle.tree_io.specs.Runs.{Did, Run}
use Rattle.tree_io.specs.declared.event.Event.{Event}
use Rattle.tree_io.specs.declared.faults.WriteFault.{WriteFault}
use Rattle.tree_io.specs.declared.faults.WriteFault.TheVariants.{Failed, OutOfMemory}
use Rattle.tree_io.specs.declared.file_at.FileAt.{FileAt}

abbrev pub put_all : Files → List FileAt → Files
put_all files [] = files
put_all files (f ∷ fs) = put_all (insert files f.path f.bytes) fs

-- the first n files were put, and then this one was to be
pub record StopsAt (files : List FileAt) (n : ℕ) (next : FileAt) (calls : List Event) : Type 0 where
  pub is_next : slice_get files n ≡ Some next
  pub wrote : files_to_write calls ≡ take n files ++ next ∷ []

-- the path of the next file may hold any bytes
abbrev pub StopsWithin : List FileAt → ℕ → FileAt → Files → Files → Type 0
StopsWithin files n next old new =
    (new ≡ put_all old (take n files))
    ⊎ ((bytes : List ℕ) × (new ≡ insert (put_all old (take n files)) next.path bytes))

-- all was put; or the device failed at one of the files; or memory was wanting for it
abbrev pub Writes : Result (Unit {0}) WriteFault → List FileAt → List Event → Type 0
Writes (Ok _) files calls = Did files [] calls × ((old new : Files) → Run calls old new → new ≡ put_all old files)
Writes (Err Failed) files calls = (n : ℕ) × (next : FileAt) × StopsAt files n next calls
    × Did (take n files ++ next ∷ []) [] calls
    × ((old new : Files) → Run calls old new → StopsWithin files n next old new)
Writes (Err OutOfMemory) files calls = (n : ℕ) × (next : FileAt) × StopsAt files n next calls
    × ((old new : Files) → Run calls old new → new ≡ put_all old (take n files))

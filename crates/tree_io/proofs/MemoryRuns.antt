-- The files of a tree in memory fit its calls.
use Rattle.std.proofs.Common.{◌≡◌, ℕ, List, [], ◌∷◌, Some, Result, Ok, Err, refl, ap, inr}
use Rattle.tree_io.specs.Calls.{CallCounts}
use Rattle.tree_io.specs.Files.{Files}
use Rattle.tree_io.specs.Memory.{Writes, first_half}
use Rattle.std.specs.FinMap.{get}
use Rattle.tree_io.specs.Runs.{Tells}
use Rattle.tree_io.specs.Tree.{due_list, due_read, Lists, ReadsFile}
use Rattle.tree_io.specs.declared.event.Event.TheVariants.{Listed, Read, Wrote}
use Rattle.tree_io.specs.declared.faults.ListFault.{ListFault}
use Rattle.tree_io.specs.declared.faults.ReadFault.{ReadFault}
use Rattle.tree_io.specs.declared.faults.WriteFault.{WriteFault}
use Rattle.tree_io.specs.declared.faults.WriteFault.TheVariants as written

pub listed_tells : (answer : Result (List (List ℕ)) ListFault) (dir : List ℕ) (max : ℕ) (old new : Files) → new ≡ old
    → Lists answer (due_list old dir max) → Tells (Some old) (Some new) (Listed dir max answer ∷ [])
listed_tells answer dir max old new same h = (old, ap Some same, (old, (refl, h), refl))

pub read_tells : (answer : Result (List ℕ) ReadFault) (path : List ℕ) (max : ℕ) (old new : Files) → new ≡ old
    → ReadsFile answer (due_read (get old path) max) → Tells (Some old) (Some new) (Read path max answer ∷ [])
read_tells answer path max old new same h = (old, ap Some same, (old, (refl, h), refl))

pub wrote_tells : (answer : Result (Unit {0}) WriteFault) (path bytes : List ℕ) (old : Files) (calls : CallCounts)
    (new : Files) (after : CallCounts)
    → Writes answer path bytes old calls new after → Tells (Some old) (Some new) (Wrote path bytes answer ∷ [])
wrote_tells (Ok _) path bytes old calls new after h = (new, refl, (new, h.1, refl))
wrote_tells (Err written.Failed) path bytes old calls new after h =
    (new, refl, (new, inr (first_half bytes, h.1), refl))
wrote_tells (Err written.OutOfMemory) path bytes old calls new after h = (new, refl, (new, h.0, refl))

-- A step that wanted memory before it asked the tree.
use Rattle.std.proofs.Common.{ℕ, List, Option, None, Result, refl, arith}
use Rattle.tree_io.specs.Files.{Files}
use Rattle.tree_io.specs.Runs.{Sees}
use Rattle.tree_io.specs.declared.event.Event.{Event}
use Rattle.tree_io.proofs.Runs.{made_none}
use Rattle.command_frame.proofs.Steps.{stopped}
use Rattle.command_frame.specs.Steps.{Finds, seen}
use Rattle.command_frame.specs.declared.refusal.Refusal.{Refusal}
use Rattle.command_frame.specs.declared.stop.Stop.TheVariants.{OutOfMemory}

pub found_nothing : {A : Type 0} (IsDue : Files → Result A Refusal → Type 0) (files : Option Files) (faults : ℕ)
    (calls : List Event) → Finds (stopped {A = A} OutOfMemory) IsDue (seen files faults calls) (seen files faults calls)
found_nothing IsDue files faults calls = record {
  files = refl;
  later = omega arith;
  device = λ is. absurd cc;
  found = made_none (Sees None (λ fs. Unit {0})) calls files refl;
}

-- What a method of the library sees of its operands, and what comes of it (Java SE 8 API; only the proof of the bodies
-- needs it).
use Rattle.std.specs.Prelude.{◌≡◌, ℕ, List, Option, Some, None, map}
use Rattle.jvm_model.specs.Calls.{all_seen}
use Rattle.jvm_model.specs.Heap.{Init}
use Rattle.jvm_model.specs.Library.{Row as Method, Seen as Operand, act}
use Rattle.jvm_model.specs.Value.{Value}
use Rattle.run_heap.specs.Worlds.{world_of}
use Rattle.run_heap.specs.declared.world.World.{World}
use Rattle.run_library.specs.Acts.{done_of, operand_of}
use Rattle.run_library.specs.declared.seen.Act.{Act}
use Rattle.run_library.specs.declared.seen.Seen.{Seen}

-- these are what is seen of the values
abbrev pub AreSeen : Option (List Operand) → World → List Value → Type 0
AreSeen operands w vs = (inits : List ℕ → Init) → all_seen (world_of inits w) vs ≡ operands

-- the same of those of the code
abbrev pub Sees : Option (List Seen) → World → List Value → Type 0
Sees None w vs = AreSeen None w vs
Sees (Some told) w vs = AreSeen (Some (map operand_of told)) w vs

-- this is done by a method with the values as its operands, or one of them refers to no object
abbrev pub IsAct : Option Act → World → Method → List Value → Type 0
IsAct None w m vs = AreSeen None w vs
IsAct (Some a) w m vs = (operands : List Operand) × AreSeen (Some operands) w vs × (done_of operands a ≡ act m operands)

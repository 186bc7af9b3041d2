-- Answers of `length_at`: what its calls ask for, and what it promises.
use Rattle.std.proofs.Common.{◌∙◌, refl, sym}
use Rattle.jvm_model.specs.Arrays.{length_in}
use Rattle.run_heap.specs.Worlds.{world_of}
use Rattle.run_heap.proofs.Putting.{array_found, none_found}
use Rattle.run_heap.proofs.arrays.length_at.Goals as goal

pub returns-in-Some : goal.returns-in-Some
returns-in-Some c = λ inits. c.length_of.ensures (world_of inits c.args.world.now) c.args.number
    ∙ array_found (world_of inits c.args.world.now) c.args.world.now.heap.items c.args.number c.in-Some.object.now
    (length_in (world_of inits c.args.world.now)) refl (sym c.in-Some.ensures)

pub returns-in-None : goal.returns-in-None
returns-in-None c = λ inits. none_found (world_of inits c.args.world.now) c.args.world.now.heap.items c.args.number
    (length_in (world_of inits c.args.world.now)) refl (sym c.in-None.ensures)

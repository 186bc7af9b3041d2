-- Answers of `component_at`: what its calls ask for, and what it promises.
use Rattle.std.proofs.Common.{◌∙◌, refl, rules, sym}
use Rattle.std.proofs.lemmas.Int.{to_z-of_z}
use mir.Syntax.{w32}
use mir.Val.{SFits}
use Rattle.jvm_model.specs.Arrays.{get_in}
use Rattle.run_heap.specs.Worlds.{world_of}
use Rattle.run_heap.proofs.Putting.{array_found, none_found}
use Rattle.run_heap.proofs.arrays.component_at.Goals as goal

pub returns-in_ok-component_of-in-Some : goal.returns-in_ok-component_of-in-Some
returns-in_ok-component_of-in-Some c =
    let fits : SFits w32 c.args.index = search rules in
    λ inits. (rw (to_z-of_z w32 c.args.index fits)
    at (c.in_ok-component_of-in-Some.ensures (world_of inits c.args.world.now) c.args.number))
    ∙ array_found (world_of inits c.args.world.now) c.args.world.now.heap.items c.args.number c.in-Some.object.now
    (get_in (world_of inits c.args.world.now) c.args.elem c.args.index) refl (sym c.in-Some.ensures)

pub returns-in-None : goal.returns-in-None
returns-in-None c = λ inits. none_found (world_of inits c.args.world.now) c.args.world.now.heap.items c.args.number
    (get_in (world_of inits c.args.world.now) c.args.elem c.args.index) refl (sym c.in-None.ensures)

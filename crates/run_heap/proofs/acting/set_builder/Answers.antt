-- Answers of `set_builder`: what its calls ask for, and what it promises.
use Rattle.std.proofs.Common.{◌<◌, length, ◌∙◌, List, None, ap, refl, rules, sym}
use Rattle.std.proofs.lemmas.Option.{slice_get_read}
use Rattle.jvm_model.specs.Answers.{Gives}
use Rattle.jvm_model.specs.Calls.{set_builder}
use Rattle.jvm_model.specs.Heap.{Object as Thing, World as Whole, with_object}
use Rattle.run_heap.specs.Worlds.{object_of, world_of}
use Rattle.run_heap.proofs.Changing.{as_before, changed, unanswered, units_not_set, units_same, units_set}
use Rattle.run_heap.proofs.acting.set_builder.Goals as goal

pub returns-then-set_units : goal.returns-then-set_units
returns-then-set_units c =
    let lt : c.args.number < length c.args.world.now.heap.items = search rules in
    let at = slice_get_read c.args.world.now.heap.items (length c.args.world.now.heap.items) c.args.number
    c.index_mut.result.now refl lt c.index_mut.ensures.value in (
      λ inits. let w : Whole = world_of inits c.args.world.now in
          changed w c.args.number c.args.world.now.heap.items c.index_mut.result.now c.set_units.new.object
          (set_builder w c.args.number c.args.units None) None refl at
          (units_set w c.args.number c.args.units None (object_of c.index_mut.result.now)
          (sym c.set_units.ensures.0 ∙ c.if-set_units.true)
          ∙ ap (λ (t : Thing). Gives None (with_object w c.args.number t)) (sym c.set_units.ensures.1)),
      tt,
    )

pub returns-else-set_units : goal.returns-else-set_units
returns-else-set_units c =
    let lt : c.args.number < length c.args.world.now.heap.items = search rules in
    let at = slice_get_read c.args.world.now.heap.items (length c.args.world.now.heap.items) c.args.number
    c.index_mut.result.now refl lt c.index_mut.ensures.value in
    let other = sym c.set_units.ensures.0 ∙ c.if-set_units.false in (
      λ inits. let w : Whole = world_of inits c.args.world.now in
          unanswered w c.args.number c.args.world.now.heap.items c.index_mut.result.now
          (set_builder w c.args.number c.args.units None) refl at
          (units_not_set w c.args.number c.args.units None (object_of c.index_mut.result.now) other),
      λ inits. ap (λ (ts : List Thing). let w : Whole = world_of inits c.args.world.now in record w { heap = ts })
          (as_before c.args.number c.args.world.now.heap.items c.index_mut.result.now c.set_units.new.object at
          (c.set_units.ensures.1 ∙ units_same (object_of c.index_mut.result.now) c.args.units other)),
    )

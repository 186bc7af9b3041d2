-- Answers of `append_at`: what its calls ask for, and what it promises.
use Rattle.std.proofs.Common.{◌<◌, length, ◌∙◌, List, Some, ap, refl, rules, sym}
use Rattle.std.proofs.lemmas.Option.{slice_get_read}
use Rattle.std.specs.Prelude.{map, slice_set}
use Rattle.jvm_model.specs.Answers.{Gives}
use Rattle.jvm_model.specs.Heap.{Object as Thing, World as Whole, with_object}
use Rattle.jvm_model.specs.Value.{Ref, Value}
use Rattle.run_heap.specs.bodies.Acting.{append_to}
use Rattle.run_heap.specs.Worlds.{object_of, world_of}
use Rattle.run_heap.proofs.Changing.{as_before, changed, more_not_set, more_same, more_set, unanswered}
use Rattle.run_heap.proofs.acting.append_at.Goals as goal

pub returns-then-branch : goal.returns-then-branch
returns-then-branch c =
    let lt : c.args.number < length c.args.world.now.heap.items = search rules in
    let at = slice_get_read c.args.world.now.heap.items (length c.args.world.now.heap.items) c.args.number
    c.index_mut.result.now refl lt c.index_mut.ensures.value in (
      λ inits. let w : Whole = world_of inits c.args.world.now in
          ap (λ (v : Value). Gives (Some v) (record w {
            heap = map object_of (slice_set c.args.world.now.heap.items c.args.number c.grow_units.new.object);
          })) c.reference.ensures
          ∙ changed w c.args.number c.args.world.now.heap.items c.index_mut.result.now c.grow_units.new.object
          (append_to w c.args.number c.args.units.now) (Some (Ref c.args.number)) refl at
          (more_set w c.args.number c.args.units.now (object_of c.index_mut.result.now)
          (sym c.in_ok-grow_units.ensures.0 ∙ c.if-branch.true)
          ∙ ap (λ (t : Thing). Gives (Some (Ref c.args.number)) (with_object w c.args.number t))
          (sym c.in_ok-grow_units.ensures.1)),
      tt,
    )

pub returns-else-branch : goal.returns-else-branch
returns-else-branch c =
    let lt : c.args.number < length c.args.world.now.heap.items = search rules in
    let at = slice_get_read c.args.world.now.heap.items (length c.args.world.now.heap.items) c.args.number
    c.index_mut.result.now refl lt c.index_mut.ensures.value in
    let other = sym c.in_ok-grow_units.ensures.0 ∙ c.if-branch.false in (
      λ inits. let w : Whole = world_of inits c.args.world.now in
          unanswered w c.args.number c.args.world.now.heap.items c.index_mut.result.now
          (append_to w c.args.number c.args.units.now) refl at
          (more_not_set w c.args.number c.args.units.now (object_of c.index_mut.result.now) other),
      λ inits. ap (λ (ts : List Thing). let w : Whole = world_of inits c.args.world.now in record w { heap = ts })
          (as_before c.args.number c.args.world.now.heap.items c.index_mut.result.now c.grow_units.new.object at
          (c.in_ok-grow_units.ensures.1 ∙ more_same (object_of c.index_mut.result.now) c.args.units.now other)),
    )

-- Answers of `put_at`: what its calls ask for, and what it promises.
use Rattle.std.proofs.Common.{◌<◌, length, ◌∙◌, List, ap, refl, rules, sym}
use Rattle.std.proofs.lemmas.Option.{slice_get_read}
use Rattle.jvm_model.specs.Heap.{Object as Thing, World as Whole}
use Rattle.run_heap.specs.Worlds.{world_of}
use Rattle.run_heap.proofs.Putting.{field_not_set, field_set, heap_same}
use Rattle.run_heap.proofs.objects.put_at.Goals as goal

pub returns-then-branch : goal.returns-then-branch
returns-then-branch c =
    let lt : c.args.number < length c.args.world.now.heap.items = search rules in
    let at = slice_get_read c.args.world.now.heap.items (length c.args.world.now.heap.items) c.args.number
    c.index_mut.result.now refl lt c.index_mut.ensures.value in (
      λ inits. field_set (world_of inits c.args.world.now) c.args.number c.args.world.now.heap.items
          c.index_mut.result.now c.put_into.new.object c.args.value c.in_ok-kept.kept c.args.key.now refl at
          (sym c.in_ok-put_into.ensures.0 ∙ c.if-branch.true) c.in_ok-kept.ensures c.in_ok-put_into.ensures.1,
      tt,
    )

pub returns-else-branch : goal.returns-else-branch
returns-else-branch c =
    let lt : c.args.number < length c.args.world.now.heap.items = search rules in
    let at = slice_get_read c.args.world.now.heap.items (length c.args.world.now.heap.items) c.args.number
    c.index_mut.result.now refl lt c.index_mut.ensures.value in
    let other = sym c.in_ok-put_into.ensures.0 ∙ c.if-branch.false in (
      λ inits. field_not_set (world_of inits c.args.world.now) c.args.number c.args.world.now.heap.items
          c.index_mut.result.now c.args.value c.args.key.now refl at other,
      λ inits. ap (λ (ts : List Thing). let w : Whole = world_of inits c.args.world.now in record w { heap = ts })
          (heap_same c.args.number c.args.world.now.heap.items c.index_mut.result.now c.put_into.new.object
          c.in_ok-kept.kept c.args.key.now at other c.in_ok-put_into.ensures.1),
    )

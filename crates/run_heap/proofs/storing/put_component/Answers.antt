-- Answers of `put_component`: what its calls ask for, and what it promises.
use Rattle.std.proofs.Common.{◌≡◌, ◌∙◌, List, None, ap, length, refl, rules, sym}
use Rattle.std.proofs.lemmas.Int.{to_z-of_z}
use Rattle.std.proofs.lemmas.Option.{slice_get_read, slice_get_within}
use Rattle.std.specs.Prelude.{map, slice_set}
use mir.Syntax.{w32}
use mir.Val.{SFits}
use Rattle.jvm_model.specs.Answers.{Gives}
use Rattle.jvm_model.specs.Arrays.{put_in}
use Rattle.jvm_model.specs.Heap.{Object as Thing, World as Whole}
use Rattle.run_heap.specs.bodies.Storing.{with_component}
use Rattle.run_heap.specs.Worlds.{object_of, world_of}
use Rattle.run_heap.specs.declared.world.Object.{Object}
use Rattle.run_heap.proofs.Putting.{array_found, map_set}
use Rattle.run_heap.proofs.storing.put_component.Goals as goal

pub returns-in-Puts : goal.returns-in-Puts
returns-in-Puts g c =
    let fits : SFits w32 c.args.index = search rules in
    let hs : List Object = c.args.world.now.heap.items in
    let at = sym c.in-Some.ensures in
    let there = slice_get_read hs (length hs) c.args.number c.index_mut.result.now refl
    (slice_get_within hs c.args.number c.in-Some.object.now at) c.index_mut.ensures.value in
    let same : c.index_mut.result.now ≡ c.in-Some.object.now = let e = sym there ∙ at in cc in (
      λ inits. let w : Whole = world_of inits c.args.world.now in
          ap (λ (ts : List Thing). Gives None (record w { heap = ts }))
          (map_set hs c.args.number c.set_component.new.object
          ∙ ap (λ (t : Thing). slice_set (map object_of hs) c.args.number t)
          (c.set_component.ensures
          ∙ ap (λ (o : Object). with_component (object_of o) c.in-Puts.at c.args.value) same))
          ∙ (rw (to_z-of_z w32 c.args.index fits) at (c.in-Puts.ensures inits c.args.number))
          ∙ array_found w hs c.args.number c.in-Some.object.now
          (put_in (g.S.Shapes.shape c.args.shapes.now) w c.args.elem c.args.index c.args.value) refl at,
      tt,
    )

pub returns-in-Raises : goal.returns-in-Raises
returns-in-Raises g c =
    let fits : SFits w32 c.args.index = search rules in (
      λ inits. let w : Whole = world_of inits c.args.world.now in
          (rw (to_z-of_z w32 c.args.index fits) at (c.in-Raises.ensures inits c.args.number))
          ∙ array_found w c.args.world.now.heap.items c.args.number c.in-Some.object.now
          (put_in (g.S.Shapes.shape c.args.shapes.now) w c.args.elem c.args.index c.args.value) refl
          (sym c.in-Some.ensures),
      λ inits. refl,
    )

pub returns-in-NoAnswer : goal.returns-in-NoAnswer
returns-in-NoAnswer g c =
    let fits : SFits w32 c.args.index = search rules in (
      λ inits. let w : Whole = world_of inits c.args.world.now in
          (rw (to_z-of_z w32 c.args.index fits) at (c.in-NoAnswer.ensures inits c.args.number))
          ∙ array_found w c.args.world.now.heap.items c.args.number c.in-Some.object.now
          (put_in (g.S.Shapes.shape c.args.shapes.now) w c.args.elem c.args.index c.args.value) refl
          (sym c.in-Some.ensures),
      λ inits. refl,
    )

-- Answers of `moved_locals`: what its calls ask for, and what it promises.
use Rattle.std.proofs.Common.{◌≡◌, List, ◌∷◌, ◌++◌}
use Rattle.std.specs.Vec.Iter.{into_iter_items}
use Rattle.class_model.specs.declared.frame.VType.{VType}
use Rattle.frame_rebuild.specs.Carried.{moved_locals}
use Rattle.frame_rebuild.specs.bodies.Ends.{ends_from}
use Rattle.frame_rebuild.specs.bodies.Fitting.{is_gone, stays}
use Rattle.frame_rebuild.proofs.Fronts.{more_ends, more_items, more_moved, more_words}
use Rattle.frame_rebuild.proofs.locals.moved_locals.Goals as goal

pub loop-ty-preserved : goal.loop-ty-preserved
loop-ty-preserved c =
    let m = c.args.moves.now in
    let e = c.loop-ty.end in
    let next = c.end_behind-next.result in
    let rest : List VType = into_iter_items c.next.new.self in
    let all : List VType = into_iter_items c.loop-ty.ty-iterator in
    let begins : all ≡ c.in-Some.ty ∷ rest = c.in-Some.ensures.steps.0 in
    let is = c.end_behind-next.ensures in
    record {
      moved = more_moved (stays m) (is_gone m) e next c.in-Some.ty rest all begins is
          c.loop-ty.moved c.push_local.new.locals
          (moved_locals (stays m) (is_gone m) c.args.from.slot c.args.types)
          c.loop-ty.invariant.moved c.in_ok-push_local.ensures;
      ends = more_ends (stays m) (is_gone m) e next c.in-Some.ty rest all begins is
          c.loop-ty.ends.items c.push.new.self.items
          (c.args.ends.now.items ++ ends_from (is_gone m) c.args.from c.args.types)
          c.loop-ty.invariant.ends c.in_ok-push.ensures.items;
      items = more_items (stays m) (is_gone m) e next c.in-Some.ty rest all begins is
          c.loop-ty.invariant.items;
      few = more_words (stays m) (is_gone m) e next c.in-Some.ty rest all begins is
          c.loop-ty.invariant.few;
    }

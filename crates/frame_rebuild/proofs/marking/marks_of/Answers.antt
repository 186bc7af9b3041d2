-- Answers of `marks_of`: what its calls ask for, and what it promises.
use Rattle.std.proofs.Common.{◌≡◌, ◌<◌, ◌≤◌, ℕ, ◌+◌, ◌-◌, ◌∙◌, ap, length, arith}
use Rattle.class_model.specs.FrameLists.{frame_numbered}
use Rattle.code_edit.specs.Rewriting.{place}
use Rattle.frame_rebuild.specs.bodies.Fitting.{end_of, is_led, stays}
use Rattle.frame_rebuild.proofs.Rows.{mark_before, marks_none, next_before, next_none}
use Rattle.frame_rebuild.proofs.marking.marks_of.Goals as goal

pub loop-left-init : goal.loop-left-init
loop-left-init c =
    let m = c.args.moves.now in
    let most : length c.args.frames.now ≤ c.len-left.result = omega (arith, c.len-left.ensures) in
    record {
      within = omega (arith, c.len-left.ensures);
      next = c.end_of-next.ensures
          ∙ next_none (stays m) (is_led m) (end_of m) c.args.frames.now c.len-left.result most;
      marks = c.in_ok-marks.ensures.items
          ∙ marks_none (stays m) (is_led m) (end_of m) c.args.frames.now c.len-left.result most;
    }

pub loop-left-preserved : goal.loop-left-preserved
loop-left-preserved c =
    let m = c.args.moves.now in
    let k : ℕ = c.loop-left.left - 1 in
    let step : k + 1 ≡ c.loop-left.left = omega (arith, c.loop-left-test.true) in
    let lt : k < length c.args.frames.now = omega
    (arith, c.loop-left-test.true, c.loop-left.invariant.within) in
    let to : c.place_of-place.result ≡ place (stays m) (frame_numbered c.args.frames.now k).index =
    c.place_of-place.ensures ∙ ap (λ (n : ℕ). place (stays m) n) c.index.ensures in
    record {
      within = omega (arith, c.loop-left.invariant.within);
      next = c.chosen-next.ensures
          ∙ next_before (stays m) (is_led m) (end_of m) c.args.frames.now k c.loop-left.left step lt
          c.counts-is_counted.result c.place_of-place.result c.loop-left.next
          c.counts-is_counted.ensures to
          c.loop-left.invariant.next;
      marks = c.in_ok-push.ensures.items
          ∙ mark_before (stays m) (is_led m) (end_of m) c.args.frames.now k c.loop-left.left step lt
          c.counts-is_counted.result c.place_of-place.result c.loop-left.next
          c.counts-is_counted.ensures to
          c.loop-left.invariant.next c.is_carried-mark.result c.is_carried-mark.ensures
          c.loop-left.marks.items
          c.loop-left.invariant.marks;
    }

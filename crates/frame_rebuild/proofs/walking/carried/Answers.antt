-- Answers of `carried`: what its calls ask for, and what it promises.
use Rattle.std.proofs.Common.{◌≡◌, ◌<◌, ℕ, ◌+◌, ◌++◌, [], ◌∷◌, ◌∙◌, List, Bool, cond, ap, sym, drop, length, arith}
use Rattle.class_model.specs.FrameLists.{Built, frame_numbered}
use Rattle.class_model.specs.declared.frame.FrameAt.{FrameAt}
use Rattle.class_model.specs.declared.frame.VType.{VType}
use Rattle.edit_tables.specs.Marks.{has}
use Rattle.frame_rebuild.specs.Carried.{carried, moved_frame, moved_locals}
use Rattle.frame_rebuild.specs.bodies.Ends.{ends_from, no_end}
use Rattle.frame_rebuild.specs.bodies.Fitting.{end_of, is_gone, is_led, stays}
use Rattle.frame_rebuild.proofs.Fronts.{none_ends, none_moved}
use Rattle.frame_rebuild.proofs.Rows.{before_next, carried_from, has_mark}
use Rattle.frame_rebuild.proofs.walking.carried.Goals as goal

pub loop-number-init : goal.loop-number-init
loop-number-init c =
    let m = c.args.moves.now in
    record {
      frames = ap (λ (b : Built). b.frames ++ carried (stays m) (is_led m) (is_gone m) (end_of m) c.args.frames.now)
          c.new-built.ensures;
      locals = ap (λ (b : Built). b.locals) c.new-built.ensures ∙ none_moved (stays m) (is_gone m) 0;
      ends = c.new-ends.ensures.items ∙ none_ends (stays m) (is_gone m) no_end;
    }

pub loop-number-preserved : goal.loop-number-preserved
loop-number-preserved c =
    let m = c.args.moves.now in
    let frames = c.args.frames.now in
    let n = c.loop-number.number in
    let lt : n < length frames = omega (arith, c.loop-number-test.true, c.len-number-end.ensures) in
    let f = frame_numbered frames n in
    let rest : List FrameAt = carried (stays m) (is_led m) (is_gone m) (end_of m) (drop (n + 1) frames) in
    let mark = c.has.ensures ∙ ap (λ (marks : List Bool). has marks n) (c.deref.ensures.value ∙ c.in_ok-marks.ensures)
    ∙ has_mark (stays m) (is_led m) (end_of m) frames n lt in
    record {
      frames = ap (λ (b : Built). b.frames ++ rest) c.in_ok-put_frame.ensures
          ∙ ap (λ (b : Built). (b.frames ++ cond c.has.result (moved_frame (stays m) (is_gone m) f ∷ []) []) ++ rest)
          c.in_ok-put_locals.ensures.built
          ∙ carried_from (stays m) (is_led m) (end_of m) (is_gone m) c.loop-number.built.frames frames n lt
          c.has.result mark
          ∙ c.loop-number.invariant.frames;
      locals = ap (λ (b : Built). b.locals) c.in_ok-put_frame.ensures
          ∙ ap (λ (b : Built). b.locals) c.in_ok-put_locals.ensures.built
          ∙ ap (λ (l : List VType). moved_locals (stays m) (is_gone m) 0 l) (before_next frames n);
      ends = c.in_ok-put_locals.ensures.ends
          ∙ ap (λ (l : List VType). ends_from (is_gone m) no_end l) (before_next frames n);
    }

-- Answers of `frame_numbers`: what its calls ask for, and what it promises.
use Rattle.std.proofs.Common.{◌<◌, ◌-◌, ℕ, Some, set, sym, subst, arith}
use Rattle.class_model.specs.FrameLists.{no_frame}
use Rattle.type_verifier.specs.bodies.Marks.{AreNumbersFrom}
use Rattle.type_verifier.proofs.Padding.{numbers_more}
use Rattle.type_verifier.proofs.places.frame_numbers.Goals as goal

pub loop-number-preserved-then-at-count : goal.loop-number-preserved-then-at-count
loop-number-preserved-then-at-count c =
    let n = c.loop-number.number - 1 in
    let most = c.loop-number.invariant.0 in
    let some = c.loop-number-test.true in (
      omega (arith, most),
      subst (λ (at : ℕ). AreNumbersFrom c.args.frames.now n c.args.count (set c.loop-number.numbers.items at (Some n)))
          (sym c.index-at.ensures)
          (numbers_more c.args.frames.now c.loop-number.number n c.args.count c.loop-number.numbers.items no_frame
          (omega (arith, some)) (omega (arith, some, most))
          (subst (λ (at : ℕ). at < c.args.count) c.index-at.ensures c.if-at-count.true) c.loop-number.invariant.1),
    )

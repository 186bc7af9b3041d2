-- Answers of `comparison`: what its calls ask for, and what it promises.
use Rattle.std.proofs.Common.{◌∙◌, sym, inl, inr, rules}
use Rattle.std.proofs.lemmas.Int.{to_z-of_z}
use mir.Syntax.{w64}
use mir.Val.{SFits}
use Rattle.run_library.proofs.Comparing.{compared_to_end}
use Rattle.run_library.proofs.units.comparison.Goals as goal
use Rattle.run_library.proofs.units.comparison.Goals.{then-loop-at-test+else-at-right, else-loop-at-test}

pub returns : goal.returns
returns c = let f : SFits w64 c.length_difference.result = search rules in to_z-of_z w64 c.length_difference.result f
    ∙ c.length_difference.ensures
    ∙ sym (compared_to_end c.args.left.now c.args.right.now c.loop-at.at c.loop-at.invariant.left
    c.loop-at.invariant.right (elim c.loop-at-test.branch [
      | then-loop-at-test+else-at-right w ↦ inr w.if-at-right.false
      | else-loop-at-test w ↦ inl w.loop-at-test.false
    ]))
    ∙ c.loop-at.invariant.same

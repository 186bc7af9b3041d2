-- Answers of `grow`: what its calls ask for, and what it promises.
use Rattle.std.proofs.Common.{◌≡◌, ◌+◌, ◌++◌, ◌∷◌, [], length, None, ap, ◌∙◌, arith}
use Rattle.std.proofs.lemmas.List.{length_push}
use Rattle.frame_read.specs.bodies.Numbers.{found}
use Rattle.frame_read.proofs.starts.grow.Goals as goal
use Rattle.code_read.proofs.Numbers.{found_push}

pub loop-preserved : goal.loop-preserved
loop-preserved c =
    let e : c.push.new.self.items ≡ c.loop.table.items ++ None ∷ [] = c.in_ok-push.ensures.items in
    let n : length c.push.new.self.items ≡ length c.loop.table.items + 1 = ap length e
    ∙ length_push c.loop.table.items None in
    let counted = c.loop.invariant.1 in
    let below = c.loop-test.true in (
      λ offset. ap (λ table. found table offset) e ∙ found_push c.loop.table.items offset
          ∙ c.loop.invariant.0 offset,
      omega (arith, n, counted),
      λ h k. omega (arith, n, counted, below, k),
    )

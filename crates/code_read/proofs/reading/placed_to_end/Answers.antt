-- Answers of `placed_to_end`: what its calls ask for, and what it promises.
use Rattle.std.proofs.Common.{◌≡◌, ◌++◌, ◌∷◌, ◌-◌, [], arith, inl, inr, sym, ◌∙◌}
use Rattle.std.proofs.lemmas.Result.{err_from_is_err_and}
use Rattle.std.proofs.lemmas.List.{length-append}
use Rattle.code_read.specs.Decoding.{placed_to_end}
use Rattle.code_read.proofs.ToEnd.{goes_on, ends, is_done}
use Rattle.code_read.proofs.reading.placed_to_end.Goals as goal

pub returns-then-is_at_end-clause-placed : goal.returns-then-is_at_end-clause-placed
returns-then-is_at_end-clause-placed c = is_done c.loop.placed
    (c.args.count - c.loop.counter) c.args.pool.now c.loop.cursor
    (placed_to_end c.args.count c.args.pool.now c.args.cursor.now)
    (inr (sym c.is_at_end.ensures ∙ c.if-is_at_end.true)) c.loop.invariant.0

pub returns-in_err-next : goal.returns-in_err-next
returns-in_err-next c =
    let p = err_from_is_err_and c.from_residual.result c.from_residual.ensures.1 in
    rw (p.1, p.2)
    (record {
      count = tt;
      placed = ends c.in_err-next.field-0.0 c.placed_at.new.cursor c.loop.placed c.args.count
          c.loop.counter c.args.pool.now c.loop.cursor (placed_to_end c.args.count c.args.pool.now c.args.cursor.now)
          c.loop-test.true (sym c.is_at_end.ensures ∙ c.if-is_at_end.false) c.in_err-next.ensures c.loop.invariant.0;
    })

pub loop-preserved : goal.loop-preserved
loop-preserved c =
    let e : c.push.new.self ≡ c.loop.placed ++ c.in_ok-next.next ∷ [] = c.in_ok-push.ensures in
    let counted = c.loop.invariant.1 in
    rw e (
      goes_on c.loop.placed c.args.count c.loop.counter c.args.pool.now c.loop.cursor c.placed_at.new.cursor
          c.in_ok-next.next (placed_to_end c.args.count c.args.pool.now c.args.cursor.now) c.loop-test.true
          (sym c.is_at_end.ensures ∙ c.if-is_at_end.false) c.in_ok-next.ensures c.loop.invariant.0,
      omega (arith, length-append c.loop.placed (c.in_ok-next.next ∷ [])),
    )

pub returns-clause-placed : goal.returns-clause-placed
returns-clause-placed c = is_done c.loop.placed (c.args.count - c.loop.counter) c.args.pool.now c.loop.cursor
    (placed_to_end c.args.count c.args.pool.now c.args.cursor.now) (inl (omega arith)) c.loop.invariant.0

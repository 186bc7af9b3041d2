-- Answers of `unmarked`: what its calls ask for, and what it promises.
use Rattle.std.proofs.Common.{arith}
use Rattle.keep_match.proofs.MarkLaw.{unmarked_all, unmarked_put}
use Rattle.keep_match.proofs.seeds.unmarked.Goals as goal

pub loop-number-preserved : goal.loop-number-preserved
loop-number-preserved c =
    unmarked_put c.args.set.now c.loop-number.number c.loop-number.rows.items _ _ c.class.result.now
    c.loop-number.invariant c.class.ensures.is c.in_ok-unmarked_row.ensures c.in_ok-push.ensures.items

pub returns : goal.returns
returns c =
    unmarked_all c.args.set.now c.loop-number.number c.loop-number.rows.items (omega arith) c.loop-number.invariant

-- Answers of `member_table`: what its calls ask for, and what it promises.
use Rattle.keep_match.proofs.TableLaw.{one_found}
use Rattle.keep_match.proofs.member_table.member_table.Goals as goal

pub loop-number-preserved : goal.loop-number-preserved
loop-number-preserved c =
    one_found c.args.specs.now c.loop-number.number c.index.result.now c.loop-number.table c.add_spec.new.table
    c.index.ensures c.loop-number.invariant c.in_ok-add_spec.ensures

-- Answers of `rows_of`: what its calls ask for, and what it promises.
use Rattle.std.proofs.Common.{arith}
use Rattle.method_places.proofs.InstanceRows.{rows_made}
use Rattle.method_places.proofs.methods.rows_of.Goals as goal

pub returns : goal.returns
returns c =
    rows_made c.args.alike.now.set.now c.args.alike.now.marks c.args.alike.now.keys.items
    c.args.alike.now.groups.items c.loop-number.rows c.loop-number.number c.requires c.loop-number.invariant.count
    (omega (arith, c.loop-number-test.false, c.len-number-end.ensures))
    (omega (arith, c.loop-number.auto.number-end, c.len-number-end.ensures)) c.loop-number.invariant.each

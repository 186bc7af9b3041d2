use Rattle.std.proofs.Common.{take}
use Rattle.keep_match.specs.bodies.Marks.{HasRows}
use Rattle.keep_match.proofs.seeds.mark_all.Given as goal

abbrev pub invariant-loop-keep : goal.invariant-loop-keep
invariant-loop-keep l = HasRows l.set (take l.keep-index l.keeps) l.rows.items

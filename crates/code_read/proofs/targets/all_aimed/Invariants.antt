use Rattle.std.proofs.Common.{◌≡◌, length}
use Rattle.std.specs.Vec.Iter.{into_iter_items, into_iter_len}
use Rattle.code_read.specs.Targets.{collected, placed_aimed}
use Rattle.code_read.specs.bodies.Targets.{aim_in}
use Rattle.code_read.proofs.Collecting.{onto}
use Rattle.code_read.proofs.targets.all_aimed.Given as goal

abbrev pub invariant-loop-next : goal.invariant-loop-next
invariant-loop-next l = (onto l.ops (collected (placed_aimed (aim_in l.table)) (into_iter_items l.next-iterator))
    ≡ collected (placed_aimed (aim_in l.table)) l.fn.placed)
    × (into_iter_len l.next-iterator ≡ length (into_iter_items l.next-iterator))

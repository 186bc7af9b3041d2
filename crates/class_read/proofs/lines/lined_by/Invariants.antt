use Rattle.std.proofs.Common.{◌≡◌, ◌++◌, length}
use Rattle.std.specs.Slice.Iter.{iter_rest}
use Rattle.std.specs.Vec.Iter.{into_iter_items, into_iter_len}
use Rattle.frame_read.specs.bodies.Numbers.{found}
use Rattle.class_read.specs.bodies.Lines.{lined_by}
use Rattle.class_read.proofs.lines.lined_by.Given as goal

abbrev pub invariant-loop-op : goal.invariant-loop-op
invariant-loop-op l = (l.ins ++ lined_by (found l.lines) (iter_rest l.starts) (into_iter_items l.op-iterator)
    ≡ lined_by (found l.lines) l.fn.starts l.fn.ops)
    × (into_iter_len l.op-iterator ≡ length (into_iter_items l.op-iterator))

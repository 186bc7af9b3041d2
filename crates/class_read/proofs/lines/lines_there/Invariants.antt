use Rattle.std.proofs.Common.{◌≡◌, ◌<◌, ℕ, drop, length}
use Rattle.std.specs.Prelude.{fold}
use Rattle.frame_read.specs.bodies.Numbers.{found}
use Rattle.class_read.specs.bodies.Lines.{last_there, line_there}
use Rattle.class_read.proofs.lines.lines_there.Given as goal

abbrev pub invariant-loop-row : goal.invariant-loop-row
invariant-loop-row l = (length l.lines.items ≡ l.count)
    × ((offset : ℕ) → offset < l.count
    → fold (last_there offset) (found l.lines.items offset) (drop l.row-index l.rows) ≡ line_there l.rows offset)

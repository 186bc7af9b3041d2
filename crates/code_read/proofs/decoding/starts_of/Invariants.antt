use Rattle.std.proofs.Common.{◌≡◌, ◌++◌, drop}
use Rattle.code_read.specs.Targets.{starts_of}
use Rattle.code_read.proofs.decoding.starts_of.Given as goal

abbrev pub invariant-loop-next : goal.invariant-loop-next
invariant-loop-next l = l.starts ++ starts_of (drop l.next-index l.placed) ≡ starts_of l.placed

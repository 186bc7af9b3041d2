use Rattle.std.proofs.Common.{◌≡◌, ◌++◌, map, take}
use Rattle.jv_base.specs.External.{dotted}
use Rattle.text_lines.proofs.spelled.push_class.Given as goal

abbrev pub invariant-loop-byte : goal.invariant-loop-byte
invariant-loop-byte l = l.out.items ≡ l.initial.out.items ++ dotted (take l.byte-index l.name)

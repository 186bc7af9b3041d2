use Rattle.std.proofs.Common.{length}
use denote.Text.{Utf8}
use denote.Shadow.{shadow}
use Rattle.std.specs.Str.{chars}
use Rattle.keep_match.specs.bodies.Scan.{IsPassed}
use Rattle.keep_match.specs.Wildcards.{pieces, dotted_chars}
use Rattle.keep_match.proofs.scan.behind_part.Given as goal

abbrev pub invariant-loop-next : goal.invariant-loop-next
invariant-loop-next l =
    shadow (Utf8 l.left) × IsPassed (pieces (chars l.pattern)) (dotted_chars l.dot l.text) (dotted_chars l.dot l.left)

abbrev pub decreases-loop-next : goal.decreases-loop-next
decreases-loop-next l = length l.left

use Rattle.std.proofs.Common.{length}
use Rattle.std.specs.Str.{chars}
use Rattle.keep_match.specs.bodies.Scan.{IsSame, pieces_at, text_at}
use Rattle.keep_match.specs.Wildcards.{pieces, dotted_chars}
use Rattle.keep_match.proofs.scan.is_cut.Given as goal

abbrev pub invariant-loop-rest : goal.invariant-loop-rest
invariant-loop-rest l =
    IsSame (pieces (chars l.pattern)) (dotted_chars l.dot l.text) (pieces_at l.place) (text_at l.dot l.place)

abbrev pub decreases-loop-rest : goal.decreases-loop-rest
decreases-loop-rest l = length l.place.pattern.now

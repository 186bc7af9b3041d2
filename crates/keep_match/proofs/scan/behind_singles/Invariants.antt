use Rattle.std.proofs.Common.{◌≤◌, length}
use Rattle.std.specs.Str.{chars}
use Rattle.keep_match.specs.bodies.Scan.{IsRead, IsSingle, pieces_at, text_at}
use Rattle.keep_match.specs.Wildcards.{pieces, dotted_chars}
use Rattle.keep_match.proofs.scan.behind_singles.Given as goal

abbrev pub invariant-loop-piece : goal.invariant-loop-piece
invariant-loop-piece l =
    IsRead IsSingle (pieces (chars l.pattern)) (dotted_chars l.dot l.text) (pieces_at l.place) (text_at l.dot l.place)
    × length l.place.pattern.now ≤ length l.pattern

abbrev pub decreases-loop-piece : goal.decreases-loop-piece
decreases-loop-piece l = length l.place.pattern.now

use Rattle.std.proofs.Common.{◌≤◌, length}
use denote.Text.{Utf8}
use denote.Shadow.{shadow}
use Rattle.keep_match.specs.bodies.Scan.{IsPlain}
use Rattle.keep_match.specs.Wildcards.{dotted_chars}
use Rattle.keep_match.proofs.scan.behind_dot.Given as goal

abbrev pub invariant-loop-character : goal.invariant-loop-character
invariant-loop-character l =
    shadow (Utf8 l.left) × IsPlain (dotted_chars l.dot l.text) (dotted_chars l.dot l.left)
    × length l.left ≤ length l.text

abbrev pub decreases-loop-character : goal.decreases-loop-character
decreases-loop-character l = length l.left

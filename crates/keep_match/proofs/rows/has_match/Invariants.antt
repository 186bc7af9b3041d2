use Rattle.std.proofs.Common.{◌≡◌, drop}
use Rattle.std.specs.List.{list_any}
use Rattle.keep_match.specs.Matches.{members_matched}
use Rattle.keep_match.specs.Seeds.{has_match}
use Rattle.keep_match.proofs.rows.has_match.Given as goal

abbrev pub invariant-loop-member : goal.invariant-loop-member
invariant-loop-member l =
    list_any (λ b. b) (drop l.member (members_matched l.spec l.class)) ≡ has_match l.class l.spec

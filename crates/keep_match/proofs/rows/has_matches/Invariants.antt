use Rattle.std.proofs.Common.{◌≡◌, drop}
use Rattle.std.specs.List.{list_all}
use Rattle.keep_match.specs.Seeds.{has_match}
use Rattle.keep_match.proofs.rows.has_matches.Given as goal

abbrev pub invariant-loop-spec : goal.invariant-loop-spec
invariant-loop-spec l = list_all (has_match l.class) (drop l.spec-index l.specs) ≡ list_all (has_match l.class) l.specs

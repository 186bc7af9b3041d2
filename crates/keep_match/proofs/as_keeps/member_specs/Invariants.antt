use Rattle.std.proofs.Common.{◌≡◌, take}
use Rattle.keep_match.proofs.as_keeps.member_specs.Given as goal

abbrev pub invariant-loop-spec : goal.invariant-loop-spec
invariant-loop-spec l = l.copies ≡ take l.spec-index l.specs

use Rattle.std.proofs.Common.{take}
use Rattle.std.specs.List.{All}
use Rattle.why_kept.specs.bodies.Searching.{Grows, IsNearBy, IsSound}
use Rattle.why_kept.proofs.search.find_derived.Given as goal

abbrev pub invariant-loop-pair : goal.invariant-loop-pair
invariant-loop-pair l = record {
  sound : IsSound l.sys l.level l.search;
  grows : Grows l.sys l.fn.search l.search;
  near : All (IsNearBy l.sys l.search l.level) (take l.pair-index l.pairs);
}

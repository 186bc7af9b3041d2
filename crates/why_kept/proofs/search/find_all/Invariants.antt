use Rattle.std.proofs.Common.{take}
use Rattle.why_kept.specs.bodies.Searching.{AreNear, Grows, IsSound}
use Rattle.why_kept.proofs.search.find_all.Given as goal

abbrev pub invariant-loop-item : goal.invariant-loop-item
invariant-loop-item l = record {
  sound : IsSound l.sys l.level l.search;
  grows : Grows l.sys l.fn.search l.search;
  near : AreNear l.sys l.search l.level (take l.item-index l.items);
}

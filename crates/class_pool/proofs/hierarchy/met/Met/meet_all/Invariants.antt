use Rattle.std.proofs.Common.{◌≡◌, ◌++◌, take}
use Rattle.class_pool.specs.Walk.{each_once}
use Rattle.class_pool.proofs.hierarchy.met.Met.meet_all.Given as goal

abbrev pub invariant-loop-id : goal.invariant-loop-id
invariant-loop-id l = record {
  count : l.self.count ≡ l.fn.self.count;
  ids : l.self.ids ≡ l.fn.self.ids ++ each_once l.fn.self.ids (take l.id-index l.ids);
}

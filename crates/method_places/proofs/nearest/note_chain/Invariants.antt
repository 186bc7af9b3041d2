use Rattle.std.proofs.Common.{◌≡◌, ◌++◌, drop, take}
use Rattle.std.specs.List.{flat_map}
use Rattle.method_places.specs.bodies.Nearest.{AreNoted, AreUpTo, program_front, rows_by}
use Rattle.method_places.proofs.nearest.note_chain.Given as goal

abbrev pub invariant-loop-class : goal.invariant-loop-class
invariant-loop-class l = record {
  noted : AreNoted l.stamp (flat_map (rows_by l.table) (take l.class-index l.chain)) l.notes.items;
  front : program_front l.chain ≡ take l.class-index l.chain ++ program_front (drop l.class-index l.chain);
  stamps : AreUpTo l.stamp l.notes.items;
}

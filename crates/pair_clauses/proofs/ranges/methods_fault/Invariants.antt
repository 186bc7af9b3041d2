use Rattle.std.proofs.Common.{◌≡◌, ◌≤◌}
use Rattle.std.specs.List.{filter_map, zip}
use Rattle.pair_clauses.specs.Finding.{first_place}
use Rattle.pair_clauses.specs.LineRanges.{range_fault_of}
use Rattle.pair_clauses.specs.Members.{with_name}
use Rattle.pair_clauses.proofs.Ranged.{leaving_from}
use Rattle.pair_clauses.proofs.ranges.methods_fault.Given as goal

abbrev pub invariant-loop-index : goal.invariant-loop-index
invariant-loop-index l = record {
  left : leaving_from l.line l.class l.given.methods l.out.methods l.index l.count
      ≡ first_place (range_fault_of l.line l.class)
      (zip (filter_map with_name (zip l.class.methods l.given.methods)) l.out.methods);
  few : l.count ≤ l.index;
}

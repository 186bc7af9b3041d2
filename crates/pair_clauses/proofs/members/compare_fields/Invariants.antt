use Rattle.std.proofs.Common.{◌≡◌, ◌≤◌, ◌+◌, length}
use Rattle.std.specs.List.{filter_map, zip}
use Rattle.pair_clauses.specs.Members.{IsSameField, with_name}
use Rattle.pair_clauses.specs.Places.{place_of_field}
use Rattle.pair_clauses.proofs.Unlike.{FoundBehind, named_from}
use Rattle.pair_clauses.proofs.members.compare_fields.Given as goal

abbrev pub invariant-loop-index : goal.invariant-loop-index
invariant-loop-index l = record {
  left : FoundBehind (IsSameField l.names) (λ e. place_of_field l.class e.0) l.class.fields l.new l.outs
      l.index l.count;
  counted : l.count + length (named_from l.class.fields l.new l.index)
      ≡ length (filter_map with_name (zip l.class.fields l.new));
  few : l.count ≤ l.index;
}

use Rattle.std.proofs.Common.{◌≡◌, ◌≤◌, ◌+◌, length}
use Rattle.std.specs.List.{filter_map, zip}
use Rattle.pair_clauses.specs.Members.{IsSameMethod, with_name}
use Rattle.pair_clauses.specs.Places.{place_of_method}
use Rattle.pair_clauses.proofs.Unlike.{FoundBehind, named_from}
use Rattle.pair_clauses.proofs.members.compare_methods.Given as goal

abbrev pub invariant-loop-index : goal.invariant-loop-index
invariant-loop-index l = record {
  left : FoundBehind (IsSameMethod l.names l.filter) (λ e. place_of_method l.class e.0) l.class.methods l.new l.outs
      l.index l.count;
  counted : l.count + length (named_from l.class.methods l.new l.index)
      ≡ length (filter_map with_name (zip l.class.methods l.new));
  few : l.count ≤ l.index;
}

use Rattle.std.proofs.Common.{◌≤◌, map}
use Rattle.pair_clauses.specs.Codes.{IsSameBody}
use Rattle.pair_clauses.specs.Places.{place_of_method}
use Rattle.pair_edits.specs.Entries.{edited_method}
use Rattle.pair_clauses.proofs.Unlike.{FoundBehind}
use Rattle.pair_edits.proofs.codes.body_differs.Given as goal

abbrev pub invariant-loop-index : goal.invariant-loop-index
invariant-loop-index l = record {
  left : FoundBehind (IsSameBody l.names l.filter) (λ e. place_of_method l.class e.0)
      (map (edited_method l.entries l.class) l.class.methods) l.new
      l.outs l.index
      l.count;
  few : l.count ≤ l.index;
}

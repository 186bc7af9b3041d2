use Rattle.std.proofs.Common.{◌≡◌, drop, not}
use Rattle.std.specs.List.{find}
use Rattle.pair_clauses.specs.Closing.{has_line, lost_seed}
use Rattle.pair_clauses.proofs.closing.seed_fault.Given as goal

abbrev pub invariant-loop-seed : goal.invariant-loop-seed
invariant-loop-seed l =
    find (λ x. not (has_line l.lined x)) (drop l.seed-index l.sys.seeds) ≡ lost_seed l.sys l.lined

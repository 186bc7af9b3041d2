use Rattle.std.proofs.Common.{◌≡◌, drop}
use Rattle.std.specs.List.{zip}
use Rattle.pair_clauses.specs.Finding.{first_place}
use Rattle.pair_clauses.specs.FixedNames.{moved_in}
use Rattle.pair_clauses.proofs.fixed.package_fault.Given as goal

abbrev pub invariant-loop-number : goal.invariant-loop-number
invariant-loop-number l =
    first_place moved_in (zip (drop l.number l.input) (drop l.number l.given))
    ≡ first_place moved_in (zip l.input l.given)

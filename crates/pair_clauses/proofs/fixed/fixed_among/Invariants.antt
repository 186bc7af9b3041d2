use Rattle.std.proofs.Common.{◌≡◌, drop}
use Rattle.std.specs.List.{zip}
use Rattle.pair_clauses.specs.Finding.{first_place}
use Rattle.pair_clauses.specs.FixedNames.{fixed_in}
use Rattle.pair_clauses.specs.bodies.FixedKinds.{fixed_kinds}
use Rattle.pair_clauses.proofs.fixed.fixed_among.Given as goal

abbrev pub invariant-loop-number : goal.invariant-loop-number
invariant-loop-number l =
    first_place (fixed_in (fixed_kinds l.fixed)) (zip (drop l.number l.input) (drop l.number l.given))
    ≡ first_place (fixed_in (fixed_kinds l.fixed)) (zip l.input l.given)

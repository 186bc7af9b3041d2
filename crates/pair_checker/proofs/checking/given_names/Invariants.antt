use Rattle.std.proofs.Common.{◌≡◌, ◌++◌, drop, map}
use Rattle.new_names.specs.NewNames.{names_given}
use Rattle.pair_checker.proofs.checking.given_names.Given as goal

abbrev pub invariant-loop-number : goal.invariant-loop-number
invariant-loop-number l =
    l.given ++ map (names_given l.names) (drop l.number l.input) ≡ map (names_given l.names) l.input

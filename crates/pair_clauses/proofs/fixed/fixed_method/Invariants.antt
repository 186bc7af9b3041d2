use Rattle.std.proofs.Common.{◌≡◌, drop}
use Rattle.std.specs.List.{zip}
use Rattle.std.specs.Option.{option_copied}
use Rattle.pair_clauses.specs.Finding.{first_place}
use Rattle.pair_clauses.specs.FixedNames.{is_among_methods, method_fault}
use Rattle.pair_clauses.proofs.fixed.fixed_method.Given as goal

abbrev pub invariant-loop-index : goal.invariant-loop-index
invariant-loop-index l =
    first_place (method_fault (is_among_methods (option_copied l.fixed)) l.class)
    (zip (drop l.index l.class.methods) (drop l.index l.names))
    ≡ first_place (method_fault (is_among_methods (option_copied l.fixed)) l.class) (zip l.class.methods l.names)

use Rattle.std.proofs.Common.{◌≡◌, drop}
use Rattle.std.specs.List.{zip}
use Rattle.class_model.specs.declared.class.Class.{Class}
use Rattle.new_names.specs.NewNames.{class_line}
use Rattle.new_names.specs.declared.class_names.ClassNames.{ClassNames}
use Rattle.pair_clauses.specs.Finding.{first_place}
use Rattle.pair_clauses.specs.LineRanges.{class_range_fault}
use Rattle.pair_clauses.specs.Members.{new_one}
use Rattle.pair_clauses.proofs.ranges.range_fault.Given as goal

abbrev pub invariant-loop-number : goal.invariant-loop-number
invariant-loop-number l =
    let fault = λ (p : Class × ClassNames). class_range_fault (class_line l.names p.0.name) p.0 p.1 (new_one l.output p.1)
    in
    first_place fault (zip (drop l.number l.input) (drop l.number l.given)) ≡ first_place fault (zip l.input l.given)

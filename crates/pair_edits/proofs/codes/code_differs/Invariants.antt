use Rattle.std.proofs.Common.{map}
use Rattle.class_model.specs.declared.class.Class.{Class}
use Rattle.new_names.specs.declared.class_names.ClassNames.{ClassNames}
use Rattle.pair_clauses.specs.Codes.{ClassCodeDiffers}
use Rattle.pair_clauses.specs.Members.{expected_methods, new_one}
use Rattle.pair_edits.specs.Entries.{edited_class}
use Rattle.pair_clauses.proofs.Searching.{FoundFrom}
use Rattle.pair_edits.proofs.codes.code_differs.Given as goal

abbrev pub invariant-loop-number : goal.invariant-loop-number
invariant-loop-number l = FoundFrom (λ (p : Class × ClassNames). ClassCodeDiffers l.names l.filter p.0
    (expected_methods p.0 p.1) (new_one l.output p.1)) (map (edited_class l.entries) l.input) l.given l.number

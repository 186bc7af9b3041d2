use Rattle.class_model.specs.declared.class.Class.{Class}
use Rattle.new_names.specs.declared.class_names.ClassNames.{ClassNames}
use Rattle.pair_clauses.specs.Members.{LinedDiffers, new_one}
use Rattle.pair_clauses.proofs.Searching.{FoundFrom}
use Rattle.pair_clauses.proofs.members.member_differs.Given as goal

abbrev pub invariant-loop-number : goal.invariant-loop-number
invariant-loop-number l = FoundFrom (λ (p : Class × ClassNames). LinedDiffers l.names l.filter p.0 p.1
    (new_one l.output p.1)) l.input l.given l.number

use Rattle.std.proofs.Common.{◌≡◌, drop}
use Rattle.std.specs.List.{list_any}
use Rattle.keep_match.specs.bodies.Above.{is_other_met}
use Rattle.keep_match.proofs.class_spec.is_one_met.Given as goal

abbrev pub invariant-loop-id : goal.invariant-loop-id
invariant-loop-id l =
    list_any (is_other_met l.pattern l.set l.number) (drop l.id-index l.ids)
    ≡ list_any (is_other_met l.pattern l.set l.number) l.ids

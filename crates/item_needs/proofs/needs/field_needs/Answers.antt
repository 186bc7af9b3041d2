-- Answers of `field_needs`: what its calls ask for, and what it promises.
use Rattle.std.proofs.Common.{ap, ◌∙◌}
use Rattle.require_sys.specs.Requires.{field_wants}
use Rattle.item_numbers.specs.bodies.Wanting.{Wanted, wanting}
use Rattle.item_needs.proofs.SharedFrames.{same_is}
use Rattle.item_numbers.proofs.SortedNeeds.{gathered_then}
use Rattle.item_needs.proofs.needs.field_needs.Goals as goal

pub returns-clause-needs : goal.returns-clause-needs
returns-clause-needs c =
    let set = c.args.wants.now.classes in
    gathered_then c.take_needs.result set c.args.own c.want_of_field.new.wants
    (field_wants set c.args.number c.args.field.now)
    (same_is _ _ (c.in_ok-want_of_field.ensures
    ∙ ap (λ (w : Wanted). wanting w (field_wants w.classes c.args.number c.args.field.now)) c.requires.before))
    c.take_needs.ensures.needs

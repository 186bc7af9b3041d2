-- Answers of `class_needs`: what its calls ask for, and what it promises.
use Rattle.std.proofs.Common.{ℕ, ap, subst, ◌∙◌}
use Rattle.std.specs.Prelude.{◌≡◌, IfOk}
use Rattle.require_sys.specs.Requires.{class_wants, needs_of}
use Rattle.item_numbers.specs.bodies.Wanting.{Wanted, wanting}
use Rattle.item_needs.proofs.SharedFrames.{same_is}
use Rattle.item_numbers.proofs.SortedNeeds.{gathered_then}
use Rattle.item_needs.proofs.needs.class_needs.Goals as goal

pub returns-clause-needs : goal.returns-clause-needs
returns-clause-needs c =
    let set = c.args.numbered.now.set.now in
    let wants = class_wants set c.args.kept.now c.args.number c.args.class.now in
    subst (λ (k : ℕ). IfOk c.take_needs.result (λ needs. needs ≡ needs_of set k wants)) c.class_item.ensures
    (gathered_then c.take_needs.result set c.class_item.result c.want_of_class.new.wants wants
    (same_is _ _ (c.in_ok-want_of_class.ensures
    ∙ ap (λ (w : Wanted). wanting w (class_wants w.classes c.args.kept.now c.args.number c.args.class.now))
    c.requires.before))
    c.take_needs.ensures.needs)

-- Answers of `push_others`: what its calls ask for, and what it promises.
use Rattle.std.proofs.Common.{sym}
use Rattle.std.proofs.lemmas.List.{append-nil}
use Rattle.item_numbers.specs.bodies.Supers.{other_number}
use Rattle.item_numbers.proofs.Meeting.{optional_more}
use Rattle.item_numbers.proofs.supers.push_others.Goals as goal

pub loop-id-init : goal.loop-id-init
loop-id-init c = sym (append-nil c.args.numbers.now.items)

pub loop-id-preserved : goal.loop-id-preserved
loop-id-preserved c =
    optional_more (other_number c.args.own) c.args.ids.now c.loop-id.id-index c.id-item.result c.args.numbers.now.items
    c.loop-id.numbers.items _ c.loop-id-test.true c.id-item.is c.loop-id.invariant c.in_ok-push_other.ensures

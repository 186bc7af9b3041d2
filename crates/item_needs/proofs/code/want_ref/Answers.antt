-- Answers of `want_ref`: what its calls ask for, and what it promises.
use Rattle.std.proofs.Common.{subst}
use Rattle.std.specs.Prelude.{OnOk}
use Rattle.item_needs.specs.bodies.Known.{ref_wants}
use Rattle.item_numbers.specs.bodies.Wanting.{HasSame, Wanted, wanting}
use Rattle.item_needs.proofs.SharedFrames.{on_same}
use Rattle.item_needs.proofs.code.want_ref.Goals as goal

pub returns : goal.returns
returns c =
    subst (λ (w : Wanted). OnOk c.want_ref_and_keep.result (HasSame c.want_ref_and_keep.new.wants
    (wanting w (ref_wants w.classes c.args.number c.args.kind c.args.r.now))))
    (c.in_ok-want_known.ensures.other c.if-branch.false)
    (on_same c.want_ref_and_keep.result c.want_ref_and_keep.new.wants _ c.want_ref_and_keep.ensures)

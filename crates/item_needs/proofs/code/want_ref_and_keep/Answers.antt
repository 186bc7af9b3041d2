-- Answers of `want_ref_and_keep`: what its calls ask for, and what it promises.
use Rattle.item_needs.specs.bodies.Known.{ref_wants}
use Rattle.item_needs.proofs.Remembering.{kept_then, last_wanted}
use Rattle.item_needs.proofs.code.want_ref_and_keep.Goals as goal

pub keep-requires : goal.keep-requires
keep-requires c =
    last_wanted c.args.wants.now c.want_ref_anew.new.wants c.count-start.result
    (λ cs. ref_wants cs c.args.number c.args.kind c.args.r.now)
    c.count-start.ensures c.in_ok-want_ref_anew.ensures

pub returns : goal.returns
returns c =
    kept_then c.keep.result c.args.wants.now c.want_ref_anew.new.wants c.keep.new.self
    (ref_wants c.args.wants.now.classes c.args.number c.args.kind c.args.r.now) c.in_ok-want_ref_anew.ensures
    c.keep.ensures

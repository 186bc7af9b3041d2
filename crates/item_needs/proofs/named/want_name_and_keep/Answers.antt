-- Answers of `want_name_and_keep`: what its calls ask for, and what it promises.
use Rattle.require_sys.specs.Requires.{name_wants}
use Rattle.item_needs.proofs.Remembering.{kept_then, last_wanted}
use Rattle.item_needs.proofs.named.want_name_and_keep.Goals as goal

pub keep_text-requires : goal.keep_text-requires
keep_text-requires c =
    last_wanted c.args.wants.now c.want_class_named.new.wants c.count-start.result (λ cs. name_wants cs c.args.name.now)
    c.count-start.ensures c.in_ok-want_class_named.ensures

pub returns : goal.returns
returns c =
    kept_then c.keep_text.result c.args.wants.now c.want_class_named.new.wants c.keep_text.new.self
    (name_wants c.args.wants.now.classes c.args.name.now) c.in_ok-want_class_named.ensures c.keep_text.ensures

-- Answers of `want_field_and_keep`: what its calls ask for, and what it promises.
use Rattle.jv_base.specs.Descriptors.{read_field}
use Rattle.require_sys.specs.Requires.{field_text_wants}
use Rattle.item_needs.proofs.Remembering.{kept_then, last_wanted}
use Rattle.item_needs.proofs.named.want_field_and_keep.Goals as goal

pub keep_text-requires : goal.keep_text-requires
keep_text-requires c =
    last_wanted c.args.wants.now c.want_field_read.new.wants c.count-start.result (λ cs. field_text_wants cs
    (read_field c.args.text.now))
    c.count-start.ensures c.in_ok-want_field_read.ensures

pub returns : goal.returns
returns c =
    kept_then c.keep_text.result c.args.wants.now c.want_field_read.new.wants c.keep_text.new.self
    (field_text_wants c.args.wants.now.classes (read_field c.args.text.now)) c.in_ok-want_field_read.ensures
    c.keep_text.ensures

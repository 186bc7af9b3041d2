-- Answers of `want_method_and_keep`: what its calls ask for, and what it promises.
use Rattle.jv_base.specs.Descriptors.{read_method}
use Rattle.require_sys.specs.Requires.{method_text_wants}
use Rattle.item_needs.proofs.Remembering.{kept_then, last_wanted}
use Rattle.item_needs.proofs.named.want_method_and_keep.Goals as goal

pub keep_text-requires : goal.keep_text-requires
keep_text-requires c =
    last_wanted c.args.wants.now c.want_method_read.new.wants c.count-start.result (λ cs. method_text_wants cs
    (read_method c.args.text.now))
    c.count-start.ensures c.in_ok-want_method_read.ensures

pub returns : goal.returns
returns c =
    kept_then c.keep_text.result c.args.wants.now c.want_method_read.new.wants c.keep_text.new.self
    (method_text_wants c.args.wants.now.classes (read_method c.args.text.now)) c.in_ok-want_method_read.ensures
    c.keep_text.ensures

-- Answers of `want_of_method`: what its calls ask for, and what it promises.
use Rattle.item_needs.proofs.SharedFrames.{method_then}
use Rattle.item_needs.proofs.members.want_of_method.Goals as goal

pub returns : goal.returns
returns c =
    method_then c.want_code.result c.args.number c.args.kept.now c.args.method.now c.args.wants.now
    c.want_class.new.self
    c.want_method_type.new.wants c.want_throws.new.wants c.want_code.new.wants c.in_ok-want_class.ensures
    c.in_ok-want_method_type.ensures c.in_ok-want_throws.ensures c.want_code.ensures

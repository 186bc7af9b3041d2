-- Answers of `member_kind`: what its calls ask for, and what it promises.
use Rattle.std.proofs.Common.{◌∙◌, sym}
use Rattle.link_check.proofs.Methods.{instance_is_method}
use Rattle.link_check.proofs.overriding.implemented.member_kind.Goals as goal

pub selected_kind-requires-clause-method : goal.selected_kind-requires-clause-method
selected_kind-requires-clause-method c = instance_is_method c.args.set.now c.args.m.now
    (sym c.is_instance_method.ensures ∙ c.if-is_instance_method.true)

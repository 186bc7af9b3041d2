-- Answers of `Stack::has_copy`: what its calls ask for, and what it promises.
use Rattle.std.proofs.Common.{List, sym, ap, ◌∙◌}
use Rattle.std.specs.List.{list_any}
use Rattle.class_model.specs.declared.frame.VType.{VType}
use Rattle.type_verifier.specs.Effects.{is_copy}
use Rattle.type_verifier.proofs.Lists.{any_reversed}
use Rattle.type_verifier.proofs.stack.Stack.has_copy.Goals as goal

pub returns : goal.returns
returns c =
    c.has_copy.ensures
    ∙ ap (λ (types : List VType). list_any (is_copy c.args.old.now) types) c.as_slice.ensures.value
    ∙ sym (any_reversed (is_copy c.args.old.now) c.self.inside.items.items)
    ∙ ap (λ (types : List VType). list_any (is_copy c.args.old.now) types) c.self.view_is

-- Answers of `Stack::substitute`: what its calls ask for, and what it promises.
use Rattle.std.proofs.Common.{List, reverse, sym, ap, ◌∙◌}
use Rattle.class_model.specs.declared.frame.VType.{VType}
use Rattle.std.specs.Prelude.{if◌then◌else◌}
use Rattle.std.proofs.lemmas.Result.{on_ok_weaker}
use Rattle.type_verifier.specs.Effects.{is_copy, substituted}
use Rattle.type_verifier.proofs.Lists.{map_reversed}
use Rattle.type_verifier.proofs.stack.Stack.substitute.Goals as goal

pub returns : goal.returns
returns c =
    let old : VType = c.args.old.now in
    let new : VType = c.args.new.now in
    on_ok_weaker c.substitute_items.result
    (λ e. ap (λ (types : List VType). reverse types) e
    ∙ sym (map_reversed (λ ty. if is_copy old ty then new else ty) c.self.inside.items.items)
    ∙ ap (λ (types : List VType). substituted old new types) c.self.view_is)
    c.substitute_items.ensures.are

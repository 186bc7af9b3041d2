-- Answers of `is_stack_assignable`: what its calls ask for, and what it promises.
use Rattle.std.proofs.Common.{List, reverse, sym, ap, ◌∙◌}
use Rattle.std.specs.Cmp.Lexicographic.{pointwise}
use Rattle.class_model.specs.declared.frame.VType.{VType}
use Rattle.type_verifier.specs.Assignable.{is_item_assignable}
use Rattle.type_verifier.proofs.Lists.{pairs_reversed}
use Rattle.type_verifier.proofs.assignability.is_stack_assignable.Goals as goal

pub returns : goal.returns
returns c =
    let classes = c.args.set.now in
    let from : List VType = c.from_bottom.result.now in
    let to : List VType = c.from_bottom-2.result.now in
    c.are_items_assignable.ensures ∙ sym (pairs_reversed (is_item_assignable classes) from to)
    ∙ ap (λ (types : List VType). pointwise (is_item_assignable classes) types (reverse to)) c.from_bottom.ensures
    ∙ ap (λ (types : List VType). pointwise (is_item_assignable classes) c.args.from.now types) c.from_bottom-2.ensures

-- Answers of `item_texts`: what its calls ask for, and what it promises.
use Rattle.std.proofs.Common.{◌++◌, List, ℕ, sym, ap, ◌∙◌, arith}
use Rattle.std.proofs.lemmas.List.{take_all}
use Rattle.list_texts.specs.ItemTexts.{item_texts, item_texts_of}
use Rattle.why_command.proofs.AllTexts.{texts_more}
use Rattle.why_command.proofs.items.item_texts.Goals as goal

pub loop-number-preserved : goal.loop-number-preserved
loop-number-preserved c =
    let class = c.class.result.now in
    c.in_ok-push_items.ensures
    ∙ ap (λ (t : List (List ℕ)). t ++ item_texts_of class) c.loop-number.invariant
    ∙ sym (texts_more c.args.set.now c.loop-number.number class c.class.ensures.is)

pub returns : goal.returns
returns c =
    c.loop-number.invariant
    ∙ ap item_texts (take_all c.loop-number.number c.args.set.now
    (omega (arith, c.loop-number-test.false, c.len-number-end.ensures)))

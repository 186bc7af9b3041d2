-- Answers of `const_acts`: what its calls ask for, and what it promises.
use Rattle.std.proofs.Common.{ap, true, false, ◌∙◌}
use Rattle.code_edit.specs.ConstEdits.{is_beyond}
use Rattle.pass_const.specs.Taking.{count_marks}
use Rattle.pass_const.proofs.Listing.{edits_are}
use Rattle.pass_const.proofs.acts.const_acts.Goals as goal

pub returns-then-is_beyond : goal.returns-then-is_beyond
returns-then-is_beyond c =
    let asked = c.in_ok-asked.asked.items in
    edits_are c.args.code.now asked c.new.result.items c.in_ok-asked.ensures.is true
    (c.if-is_beyond.ensures
    ∙ ap (λ n. is_beyond n c.len.result)
    (c.count_marks.ensures.is ∙ ap count_marks c.deref.ensures.value)
    ∙ ap (is_beyond (count_marks asked)) c.len.ensures) c.new.ensures.items

pub returns : goal.returns
returns c =
    let asked = c.in_ok-asked.asked.items in
    edits_are c.args.code.now asked c.in_ok-acts.acts.items c.in_ok-asked.ensures.is false
    (c.if-is_beyond.ensures
    ∙ ap (λ n. is_beyond n c.len.result)
    (c.count_marks.ensures.is ∙ ap count_marks c.deref.ensures.value)
    ∙ ap (is_beyond (count_marks asked)) c.len.ensures) c.in_ok-acts.ensures

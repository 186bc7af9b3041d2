-- Answers of `facts_of_slot`: what its calls ask for, and what it promises.
use Rattle.std.proofs.Common.{ap, map, sym, subst, ◌∙◌}
use Rattle.code_edit.specs.Facts.{IsLargest}
use Rattle.const_facts.specs.Order.{int_of}
use Rattle.const_facts.proofs.Ending.{is_largest}
use Rattle.const_facts.proofs.Whole.{is_whole}
use Rattle.const_facts.proofs.work.facts_of_slot.Goals as goal

pub begin-requires-clause-whole : goal.begin-requires-clause-whole
begin-requires-clause-whole c = is_whole c.args.code.now c.requires.sound c.requires.few

pub settle-requires-clause-whole : goal.settle-requires-clause-whole
settle-requires-clause-whole c = is_whole c.args.code.now c.requires.sound c.requires.few

pub returns : goal.returns
returns c =
    subst (IsLargest c.args.code.now c.args.slot)
    (sym (c.in_ok-known.ensures ∙ ap (map int_of) c.deref.ensures.value))
    (is_largest c.args.code.now c.args.slot c.settle.new.work
    c.in_ok-settle.ensures.open c.in_ok-settle.ensures.empty c.requires.reached)

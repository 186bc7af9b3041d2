-- Answers of `JumpsRules::note`: what its calls ask for, and what it promises.
use Rattle.std.proofs.Common.{◌∙◌, sym, ap, length}
use Rattle.edit_tables.specs.Marks.{none, with_skip}
use Rattle.edit_legal.proofs.Noting.{aims_more, skips_more}
use Rattle.edit_legal.proofs.jumps.JumpsRules.note.Goals as goal

pub returns-clause-noted : goal.returns-clause-noted
returns-clause-noted c = λ before h. (
  aims_more c.args.self.now.aims c.keep_act.new.aims before c.args.act.now h.0
      c.in_ok-keep_act.ensures,
  c.mark_skip.ensures ∙ ap (with_skip c.args.act.now) h.1
      ∙ sym (skips_more before c.args.act.now (none (length c.args.self.now.skippable.items))),
)

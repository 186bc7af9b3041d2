-- Answers of `ConstantsRules::note`: what its calls ask for, and what it promises.
use Rattle.std.proofs.Common.{◌∙◌, sym, ap, length}
use Rattle.edit_legal.specs.Decidable.{next_up_to, with_folded}
use Rattle.edit_tables.specs.Marks.{none}
use Rattle.edit_legal.proofs.Noting.{folds_more, number_more}
use Rattle.edit_legal.proofs.constants.ConstantsRules.note.Goals as goal

pub returns-clause-noted : goal.returns-clause-noted
returns-clause-noted c = λ before h. (
  c.next_number-self.ensures
      ∙ ap (λ m. next_up_to m (length c.args.self.now.known.acts.now)) h.0
      ∙ number_more before c.args.act.now (length c.args.self.now.known.acts.now),
  c.mark_fold.ensures ∙ ap (with_folded c.args.act.now) h.1
      ∙ sym (folds_more before c.args.act.now
      (none (length c.args.self.now.known.code.now.ins))),
)

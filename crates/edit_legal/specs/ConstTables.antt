-- The tables of const (the project's own; only the code's contracts need it).
use Rattle.std.specs.Prelude.{◌≡◌, List, length}
use Rattle.class_model.specs.declared.code.Code.{Code}
use Rattle.code_edit.specs.declared.act.Act.{Act}
use Rattle.const_tables.specs.FirstFacts.{AreFirst}
use Rattle.const_tables.specs.Folding.{folds_of, unfolded}
use Rattle.const_tables.specs.Predecessors.{predecessors}
use Rattle.edit_legal.specs.declared.constants.Constants.{Constants}
use Rattle.edit_legal.specs.declared.support.Known.{Known}
use Rattle.edit_legal.specs.Decidable.{still_aimed}
use Rattle.edit_legal.specs.Movable.{end_from}
use Rattle.edit_tables.specs.Marks.{none, target_marks, with_entries}

-- what acts tell of a code
pub record IsKnown (acts : List Act) (code : Code) (known : Known) : Type 0 where
  pub same_code : known.code.now ≡ code
  pub same_acts : known.acts.now ≡ acts
  pub first : AreFirst 0 acts known.facts
  pub marks : known.targets.items ≡ target_marks code

-- the tables of acts on a code, of which none was noted
pub record IsConstants (acts : List Act) (code : Code) (rules : Constants) : Type 0 where
  pub tells : IsKnown acts code rules.known
  pub lists : rules.predecessors.items ≡ predecessors code
  pub begin : rules.entries.items ≡ with_entries code.handlers (none (length code.ins))
  pub last :
      rules.end ≡ end_from 0 0 (unfolded (folds_of acts (length code.ins)) code)
  pub still : rules.aimed.items
      ≡ still_aimed (folds_of acts (length code.ins))
      (unfolded (folds_of acts (length code.ins)) code) code
  pub unmarked : rules.folded.items ≡ none (length code.ins)
  pub none_noted : rules.count ≡ 0

-- Lists of what stays tell what the acts of a step leave.
use Rattle.std.proofs.Common.{ℕ, List, Bool, ◌≡◌, sym, subst}
use Rattle.std.specs.Prelude.{length}
use Rattle.class_model.specs.declared.code.Code.{Code}
use Rattle.code_edit.specs.declared.act.Act.{Act}
use Rattle.code_edit.specs.declared.act.Pass.TheVariants.{Const, Jumps, Reach, Slots}
use Rattle.const_tables.specs.Folding.{folds_of, unfolded}
use Rattle.const_tables.proofs.FoldTable.{unfolded_long, unfolded_where}
use Rattle.edit_check.specs.Lives.{TellsLives}
use Rattle.edit_check.specs.StepTables.{cuts_of, skips_of}
use Rattle.edit_check.specs.Uncut.{uncut}
use Rattle.edit_check.proofs.Applying.{kept_long, kept_where}
use Rattle.edit_tables.specs.Marks.{target_marks}
use Rattle.edit_tables.specs.Swept.{swept_of}
use Rattle.edit_tables.specs.Unskipped.{unskipped}
use Rattle.edit_tables.proofs.Staying.{going_long, going_where}
use Rattle.edit_tables.proofs.Sweeping.{swept_is, swept_long}

module _ (acts : List Act) (code : Code) (lives : List Bool) where
  pub drops_tell : (n : ℕ) → n ≡ length code.ins → lives ≡ swept_of acts n
      → TellsLives Reach acts code lives
  drops_tell n len is =
      subst (TellsLives Reach acts code)
      (sym (subst (λ m. lives ≡ swept_of acts m) len is))
      (record { long = swept_long acts (length code.ins); each = swept_is acts (length code.ins) })

  pub folds_tell : lives ≡ unfolded (folds_of acts (length code.ins)) code
      → TellsLives Const acts code lives
  folds_tell is =
      subst (TellsLives Const acts code) (sym is)
      (record { long = unfolded_long acts code; each = unfolded_where acts code })

  pub cuts_tell : lives ≡ uncut (cuts_of acts code) (target_marks code) code
      → TellsLives Slots acts code lives
  cuts_tell is =
      subst (TellsLives Slots acts code) (sym is)
      (record { long = kept_long acts code; each = λ at lt. kept_where acts code at })

  pub skips_tell : lives ≡ unskipped (skips_of acts code) code
      → TellsLives Jumps acts code lives
  skips_tell is =
      subst (TellsLives Jumps acts code) (sym is)
      (record { long = going_long acts code; each = λ at lt. going_where acts code at })

-- Answers of `stepped`: what its calls ask for, and what it promises.
use Rattle.std.proofs.Common.{sym, subst}
use Rattle.code_edit.specs.SoundCode.{IsSound}
use Rattle.edit_premises.proofs.EditedSound.{applied_sound}
use Rattle.pair_edits.proofs.after.stepped.Goals as goal

pub returns-in_ok-after-in-Ok : goal.returns-in_ok-after-in-Ok
returns-in_ok-after-in-Ok c = (
  c.in-Ok.ensures.judged,
  c.in_ok-after-in-Ok.ensures,
  subst IsSound (sym c.in_ok-after-in-Ok.ensures)
      (applied_sound c.args.step.now.pass c.args.step.now.acts c.args.code.now c.in-Ok.ensures.right c.requires.sound),
)

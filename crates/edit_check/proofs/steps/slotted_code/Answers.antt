-- Answers of `slotted_code`: what its calls ask for, and what it promises.
use Rattle.edit_check.proofs.Stepping.{slots_few}
use Rattle.edit_check.proofs.steps.slotted_code.Goals as goal

pub changed-requires : goal.changed-requires
changed-requires c =
    slots_few c.args.acts.now c.args.code.now c.in_ok-tables.tables 4294967295 c.in_ok-tables.ensures
    c.requires.few

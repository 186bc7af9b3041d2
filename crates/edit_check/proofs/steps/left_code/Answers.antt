-- Answers of `left_code`: what its calls ask for, and what it promises.
use Rattle.std.proofs.Common.{subst}
use Rattle.edit_check.specs.StepTables.{IsReachTables}
use Rattle.edit_check.proofs.Stepping.{reach_few}
use Rattle.edit_check.proofs.steps.left_code.Goals as goal

pub changed-requires : goal.changed-requires
changed-requires c =
    reach_few c.args.acts.now c.args.code.now c.in_ok-tables.tables 4294967295
    (subst (λ n. IsReachTables c.args.acts.now n c.in_ok-tables.tables) c.len.ensures
    c.in_ok-tables.ensures)
    c.requires.few

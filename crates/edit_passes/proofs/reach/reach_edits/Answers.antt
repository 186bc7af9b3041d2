-- Answers of `reach_edits`: what its calls ask for, and what it promises.
use Rattle.std.proofs.Common.{◌∙◌}
use Rattle.edit_passes.proofs.Reaching.{found_few, reach_is}
use Rattle.edit_passes.proofs.reach.reach_edits.Goals as goal

pub runs-requires : goal.runs-requires
runs-requires c =
    found_few c.args.code.now c.requires.sound c.deref.result.now 4294967295
    (c.deref.ensures.value ∙ c.in_ok-marks.ensures) c.requires.few

pub returns-clause-acts : goal.returns-clause-acts
returns-clause-acts c =
    reach_is c.args.code.now c.requires.sound c.deref.result.now c.in_ok-acts.acts
    (c.deref.ensures.value ∙ c.in_ok-marks.ensures) c.in_ok-acts.ensures

-- Answers of `moves_of`: what its calls ask for, and what it promises.
use Rattle.std.proofs.Common.{List, Bool, ◌∙◌, ap}
use Rattle.code_edit.specs.declared.act.Act.{Act}
use Rattle.edit_tables.specs.Places.{counts_from}
use Rattle.frame_rebuild.specs.bodies.Slots.{slots_of}
use Rattle.frame_rebuild.proofs.Telling.{moves_tell}
use Rattle.frame_rebuild.proofs.rebuilding.moves_of.Goals as goal

pub returns : goal.returns
returns c =
    moves_tell c.args.edits.now.pass c.args.edits.now.acts c.args.code.now
    (record {
      lives = c.in_ok-lives.lives;
      places = c.in_ok-places.places;
      targets = c.in_ok-targets.targets;
      cut = c.in_ok-cut.cut;
    })
    c.in_ok-lives.ensures
    (c.in_ok-places.ensures ∙ ap (λ (lives : List Bool). counts_from 0 lives) c.deref.ensures.value)
    c.in_ok-targets.ensures
    (c.in_ok-cut.ensures ∙ ap (λ (acts : List Act). slots_of c.args.code.now acts) c.as_slice.ensures)

-- How a frame's locals follow from those before, as its form says (only the proof of frame_form needs it).
use Rattle.std.specs.Prelude.{ℕ, ◌-◌, List, length, nat_eq, if◌then◌else◌}
use Rattle.class_model.specs.declared.frame.VType.{VType}
use Rattle.class_model.specs.CanonicalFrames.{is_append, is_chop, same_types}
use Rattle.frame_write.specs.declared.form.Change.{Change}
use Rattle.frame_write.specs.declared.form.Change.TheVariants as change

-- the first that fits: the same, some fewer, some more
abbrev pub change_due : List VType → List VType → Change
change_due before locals =
    if same_types before locals then change.Same
    else if is_chop before locals then change.Fewer (length before - length locals)
    else if is_append before locals then change.More (length locals - length before)
    else change.Other

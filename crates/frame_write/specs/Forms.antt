-- The form in which a frame is written, as the definitions have it (JVMS 4.7.4).
use Rattle.std.specs.Prelude.{ℕ, zero, suc, ◌^◌, ◌<◌, ◌≤◌, List, length}
use Rattle.class_model.specs.declared.frame.VType.{VType}
use Rattle.class_model.specs.declared.frame.FrameAt.{FrameAt}
use Rattle.class_model.specs.FrameLists.{frame_numbered}
use Rattle.class_model.specs.CanonicalFrames.{Form, same, same_with_item, chop, append, full}
use Rattle.frame_write.specs.declared.form.FrameForm.{FrameForm}
use Rattle.frame_write.specs.declared.form.FrameForm.TheVariants as form

-- a form with what is written of the frame
abbrev pub form_of_row : FrameForm → Form
form_of_row form.Same = same
form_of_row (form.SameWithItem item) = same_with_item item
form_of_row (form.Chop gone) = chop gone
form_of_row (form.Append new) = append new
form_of_row (form.Full frame) = full frame.locals frame.stack

-- the locals behind which the frame of a number stands: those of the one before, and for the first frame these
-- (JVMS 4.7.4)
abbrev pub locals_before : List VType → List FrameAt → ℕ → List VType
locals_before first frames zero = first
locals_before first frames (suc number) = (frame_numbered frames number).frame.locals

-- at most three locals go or come, and the lists of a whole frame fit their counts (JVMS 4.7.4)
abbrev pub IsShortForm : Form → Type 0
IsShortForm (chop gone) = gone ≤ 3
IsShortForm (append new) = length new ≤ 3
IsShortForm (full locals stack) = (length locals < 2 ^ 16) × (length stack < 2 ^ 16)
IsShortForm _ = Unit {0}

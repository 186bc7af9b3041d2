-- What fits the rows of a StackMapTable (JVMS 4.7.3, 4.7.4).
use Rattle.std.specs.Prelude.{ℕ, ◌^◌, ◌<◌, length}
use Rattle.class_model.specs.declared.frame.Frame.{Frame}

-- the offset of an instruction in a code (JVMS 4.7.3)
abbrev pub IsOffset : ℕ → Type 0
IsOffset offset = offset < 2 ^ 16

-- number_of_locals and number_of_stack_items fit two bytes each (JVMS 4.7.4, full_frame)
pub record HasShortLists (frame : Frame) : Type 0 where
  pub locals : length frame.locals < 2 ^ 16
  pub stack : length frame.stack < 2 ^ 16

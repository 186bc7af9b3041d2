-- A run that has ended (only the proof of the bodies needs it).
use Rattle.std.specs.Prelude.{Bool, true, false}
use Rattle.jvm_model.specs.State.{Control, Returned, Threw, Wrong}

-- nothing happens any more
abbrev pub has_ended : Control → Bool
has_ended (Returned value) = true
has_ended (Threw n) = true
has_ended Wrong = true
has_ended _ = false

-- A frame that is kept or made (only the proof of the walk needs it).
use Rattle.type_verifier.specs.declared.declared.Declared.{Declared}
use Rattle.type_verifier.specs.declared.declared.Declared.TheVariants.{Kept, Made}
use Rattle.type_verifier.specs.declared.frame.TypeFrame.{TypeFrame}

-- the frame
abbrev pub frame_of : Declared → TypeFrame
frame_of (Kept frame) = frame.now
frame_of (Made frame) = frame

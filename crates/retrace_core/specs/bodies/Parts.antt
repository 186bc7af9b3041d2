-- What the code has of lines in parts (only the proof of `retrace` needs it).
use Rattle.std.specs.Prelude.{ℕ, List, Option}
use Rattle.std.specs.Option.{option_map}
use Rattle.std.specs.Borrow.{Bor}
use Rattle.retrace_core.specs.Frames.{Frame}
use Rattle.retrace_core.specs.Heads.{Head}
use Rattle.retrace_core.specs.declared.frame.FrameParts.{FrameParts}
use Rattle.retrace_core.specs.declared.head.HeadParts.{HeadParts}

abbrev pub frame_shown : FrameParts → Frame
frame_shown f = record { blanks = f.blanks.now; class = f.class.now; method = f.method.now; number = f.number.now }

abbrev pub head_shown : HeadParts → Head
head_shown h = record { front = h.front.now; class = h.class.now; text = h.text.now }

abbrev pub two_shown : Option (Bor (List ℕ) × Bor (List ℕ)) → Option (List ℕ × List ℕ)
two_shown parts = option_map (λ p. (p.0.now, p.1.now)) parts

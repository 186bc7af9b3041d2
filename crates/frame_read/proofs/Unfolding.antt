-- What readers are computed with, for attributes that unfold it.
use Rattle.std.specs.Prelude.{⊤}
use Rattle.format_reading.specs.Reader.{bind, give, here, lead, settle, u1, u2}
use Rattle.class_model.specs.ReadingFrames.{read_frame, read_frames, read_type}

-- numbers, and what each leads to
unfoldable pub numbers : ⊤
unfolding u1 u2 lead bind give
numbers = tt

-- a verification_type_info
unfoldable pub types : ⊤
unfolding numbers read_type
types = tt

-- a row
unfoldable pub row : ⊤
unfolding lead bind give here settle read_frame
row = tt

-- the rows behind their count
unfoldable pub table : ⊤
unfolding u2 lead bind read_frames
table = tt

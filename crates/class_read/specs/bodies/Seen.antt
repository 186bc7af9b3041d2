-- What answers that are lent show (only the proof of read_class needs it).
use Rattle.std.specs.Prelude.{Result, Ok, Err}
use Rattle.std.specs.Borrow.{Bor}

-- the value that is lent, or the fault
abbrev pub lent_value : {A X : Type 0} → Result (Bor A) X → Result A X
lent_value (Ok x) = Ok x.now
lent_value (Err e) = Err e

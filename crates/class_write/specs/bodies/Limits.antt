-- The counts that a class to be written has (only the proof of write_class needs it).
use Rattle.std.specs.Prelude.{◌<◌, List, length, IfSome, Option}
use Rattle.std.specs.List.{All}
use Rattle.class_model.specs.declared.code.Code.{Code}
use Rattle.class_model.specs.declared.class.Method.{Method}

-- the instructions of a method's code are counted by a number of four bytes
abbrev pub IsCounted : Option Code → Type 0
IsCounted code = IfSome code (λ (c : Code). length c.ins < 4294967295)

-- those of each method
abbrev pub AreCounted : List Method → Type 0
AreCounted methods = All (λ (m : Method). IsCounted m.code) methods

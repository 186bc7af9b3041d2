-- The same files are never taken as two sets, nor refused for two faults, nor both
-- (the project's own: the answer is the only one).
use Rattle.std.specs.Prelude.{◌≡◌, List}
use Rattle.tree_io.specs.declared.file_at.FileAt.{FileAt}
use Rattle.class_model.specs.declared.class.Class.{Class}
use Rattle.set_read.specs.Accepted.{IsAccepted, IsFault}
use Rattle.set_read.specs.declared.fault.SetFault.{SetFault}

-- two sets that the same files are taken as are the same
abbrev pub IsOneSet : Type 0
IsOneSet = (files : List FileAt) (classes other : List Class) → IsAccepted files classes → IsAccepted files other
    → classes ≡ other

-- two faults of the same files are the same
abbrev pub IsOneFault : Type 0
IsOneFault = (files : List FileAt) (fault other : SetFault) → IsFault files fault → IsFault files other → fault ≡ other

-- files that are taken as a set have no fault
abbrev pub NotBoth : Type 0
NotBoth = (files : List FileAt) (classes : List Class) (fault : SetFault) → IsAccepted files classes
    → IsFault files fault → ⊥

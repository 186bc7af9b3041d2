-- Values that calls change (the project's own: each call may want memory).
use Rattle.std.specs.Prelude.{◌≡◌, Result, Ok, Err}
use Rattle.jv_base.specs.declared.outcome.Or.{Or}
use Rattle.jv_base.specs.declared.outcome.Or.TheVariants.{Fault, OutOfMemory}

-- the value is the one that is due, or the fault is; where memory was wanting, nothing is said
abbrev pub ChangesOr : {T S F : Type 0} → Result T (Or F) → S → Result S F → Type 0
ChangesOr (Ok x) new due = due ≡ Ok new
ChangesOr (Err (Fault f)) new due = due ≡ Err f
ChangesOr (Err OutOfMemory) new due = Unit {0}

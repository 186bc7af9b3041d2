-- Two values at most at the top of the stack (only the proof of the bodies of dup, pop and swap needs it).
use Rattle.std.specs.Prelude.{◌≡◌, ℕ, List, [], Option, Some, None, Result, Ok, Err}
use Rattle.std.specs.List.{cons_option}
use Rattle.jv_base.specs.declared.outcome.Or.{Or}
use Rattle.jv_base.specs.declared.outcome.Or.TheVariants as or
use Rattle.class_model.specs.declared.frame.VType.{VType}
use Rattle.type_verifier.specs.declared.fault.TypeKind.{TypeKind}
use Rattle.type_verifier.specs.declared.fault.TypeKind.TheVariants.{Operand}
use Rattle.type_verifier.specs.declared.words.Values.{Values}
use Rattle.type_verifier.specs.declared.words.Words.{Words}
use Rattle.type_verifier.specs.declared.words.Words.TheVariants.{Zero, One, Two}
use Rattle.type_verifier.specs.Effects.{Split}

abbrev pub count_of : Words → ℕ
count_of Zero = 0
count_of One = 1
count_of Two = 2

abbrev pub values : Values → List VType
values v = cons_option v.upper (cons_option v.lower [])

-- the values at the top, and the stack below them
abbrev pub Splits : Result Values TypeKind → List VType → Option Split → Type 0
Splits (Ok v) new due = due ≡ Some (values v, new)
Splits (Err kind) new due = (kind ≡ Operand) × (due ≡ None)

-- the stack that is due, or a wrong operand
abbrev pub Leaves : Result (Unit {0}) (Or TypeKind) → List VType → Option (List VType) → Type 0
Leaves (Ok _) new due = due ≡ Some new
Leaves (Err (or.Fault kind)) new due = (kind ≡ Operand) × (due ≡ None)
Leaves (Err or.OutOfMemory) new due = Unit {0}

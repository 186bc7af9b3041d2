-- What a call answers that may want memory, beside what is due (the project's own: each call may want memory).
use Rattle.std.specs.Prelude.{◌≡◌, Result, Ok, Err}
use Rattle.jv_base.specs.declared.outcome.Or.{Or}
use Rattle.jv_base.specs.declared.outcome.Or.TheVariants.{Fault, OutOfMemory}

-- one step after the other, up to the first fault
infixl 10 ◌>>=◌
abbrev pub ◌>>=◌ : {A B X : Type 0} → Result A X → (A → Result B X) → Result B X
(Ok x) >>= f = f x
(Err e) >>= f = Err e

-- the fault is the one that is due; want of memory is free
abbrev pub FaultIs : {V X : Type 0} → Or X → Result V X → Type 0
FaultIs (Fault f) due = due ≡ Err f
FaultIs OutOfMemory due = Unit {0}

-- what came, seen by view, is what is due, unless memory was wanting
abbrev pub Gives : {T V X : Type 0} → (T → V) → Result T (Or X) → Result V X → Type 0
Gives view (Ok x) due = due ≡ Ok (view x)
Gives view (Err e) due = FaultIs e due

-- the same where contracts see the value itself
abbrev pub IsDue : {T X : Type 0} → Result T (Or X) → Result T X → Type 0
IsDue result due = Gives (λ x. x) result due

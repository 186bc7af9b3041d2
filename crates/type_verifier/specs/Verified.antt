-- Which methods and sets are typed (JVMS 4.10.1), and the first faults of those that aren't.
use Rattle.std.specs.Prelude.{◌≡◌, ◌<◌, ◌⊎◌, ℕ, List, Some, Result, Ok, Err, slice_get}
use Rattle.jv_base.specs.declared.outcome.Or.{Or}
use Rattle.jv_base.specs.declared.outcome.Or.TheVariants as or
use Rattle.class_model.specs.declared.class.Class.{Class}
use Rattle.class_model.specs.declared.class.Method.{Method}
use Rattle.class_model.specs.declared.code.Code.{Code}
use Rattle.type_verifier.specs.declared.fault.TypeFault.{TypeFault}
use Rattle.type_verifier.specs.Environment.{Environment}
use Rattle.type_verifier.specs.Typed.{IsFirstFault, Typed}

-- what the rules look at, for a method of a class and a code (JVMS 4.10.1.6)
abbrev pub environment : List Class → ℕ → Class → ℕ → Method → Code → Environment
environment classes own class number method code = record {
  classes = classes;
  own = own;
  class = class;
  number = number;
  method = method;
  code = code;
}

-- ---- methods

-- a method without a code, or one whose code is typed (JVMS 4.10.1.5, 4.10.1.6, methodIsTypeSafe)
abbrev pub IsTypedMethod : List Class → ℕ → Class → ℕ → Method → Type 0
IsTypedMethod classes own class number method =
    (code : Code) → method.code ≡ Some code → Typed (environment classes own class number method code)

-- the same by the numbers of the class and the method (JVMS 4.10.1.5, 4.10.1.6, methodIsTypeSafe)
abbrev pub IsTypedAt : List Class → ℕ → ℕ → Type 0
IsTypedAt classes own number = (c : Class) → slice_get classes own ≡ Some c
    → (m : Method) → slice_get c.methods number ≡ Some m → IsTypedMethod classes own c number m

-- a method has a code, and this is its first fault (the project's own: which fault is told)
abbrev pub IsMethodFault : List Class → ℕ → ℕ → TypeFault → Type 0
IsMethodFault classes own number fault = (c : Class) × (slice_get classes own ≡ Some c)
    × (m : Method) × (slice_get c.methods number ≡ Some m)
    × (code : Code) × (m.code ≡ Some code) × IsFirstFault (environment classes own c number m code) fault

-- the method is typed, or this is its first fault (the project's own: which fault is told)
abbrev pub JudgesMethod : Result (Unit {0}) (Or TypeFault) → List Class → ℕ → ℕ → Type 0
JudgesMethod (Ok _) classes own number = IsTypedAt classes own number
JudgesMethod (Err (or.Fault fault)) classes own number = IsMethodFault classes own number fault
JudgesMethod (Err or.OutOfMemory) classes own number = Unit {0}

-- ---- sets

-- each method of each class is typed (JVMS 4.10.1, classIsTypeSafe)
abbrev pub AreTyped : List Class → Type 0
AreTyped classes = (own number : ℕ) → IsTypedAt classes own number

-- a method comes before the one of this class and number: class after class, method after method
-- (the project's own: which fault is told)
abbrev pub IsBefore : ℕ → ℕ → ℕ → ℕ → Type 0
IsBefore other place own number = (other < own) ⊎ ((other ≡ own) × place < number)

-- the first fault of a set: that of its method, and all methods before that one are typed
-- (the project's own: which fault is told)
abbrev pub IsSetFault : List Class → TypeFault → Type 0
IsSetFault classes fault = IsMethodFault classes fault.class fault.method fault
    × ((own number : ℕ) → IsBefore own number fault.class fault.method → IsTypedAt classes own number)

-- the set is typed, or this is its first fault (the project's own: which fault is told)
abbrev pub JudgesSet : Result (Unit {0}) (Or TypeFault) → List Class → Type 0
JudgesSet (Ok _) classes = AreTyped classes
JudgesSet (Err (or.Fault fault)) classes = IsSetFault classes fault
JudgesSet (Err or.OutOfMemory) classes = Unit {0}

-- the place of a fault is one of the set (the project's own: a place is told by numbers)
abbrev pub IsPlace : List Class → TypeFault → Type 0
IsPlace classes fault = (c : Class) × (slice_get classes fault.class ≡ Some c)
    × (m : Method) × (slice_get c.methods fault.method ≡ Some m)

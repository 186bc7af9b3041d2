-- What a frame is answered that asks (JVMS 6.5).
use Rattle.std.specs.Prelude.{ℕ, List, Option, Some, None}
use Rattle.jvm_model.specs.Exceptions.{Exception}
use Rattle.jvm_model.specs.Heap.{Init, Fresh, Begun, Ready, Failed, World}
use Rattle.jvm_model.specs.Value.{Key, Value}

-- It is done, and gives a value or nothing; an exception is made and thrown; a method of the program begins with
-- these arguments; a class has to be initialised first; or an operand is of another kind.
pub data Answer : Type 0 where
  Gives : Option Value → World → Answer
  Raises : Exception → Answer
  Begins : Key → List Value → Answer
  Awaits : (class : List ℕ) → Answer
  NoAnswer : Answer

-- where the class is initialised, or is being (JVMS 5.5)
abbrev pub once : Init → (class : List ℕ) → Answer → Answer
once Ready class a = a
once Begun class a = a
once Fresh class a = Awaits class
once Failed class a = Awaits class

-- the same by how far the initialisation of the class is
abbrev pub once_initialised : World → (class : List ℕ) → Answer → Answer
once_initialised w class a = once (w.inits class) class a

-- of what is there
abbrev pub of_some : {A : Type 0} → (A → Answer) → Option A → Answer
of_some f None = NoAnswer
of_some f (Some x) = f x

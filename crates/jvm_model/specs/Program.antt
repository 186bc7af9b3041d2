-- A program as the machine sees it: what names mean, and the codes (the project's own: resolution, JVMS 5.4.3, and
-- selection, JVMS 5.4.5, are given to the machine as functions).
use Rattle.std.specs.Prelude.{ℕ, List, Option, Bool}
use Rattle.class_model.specs.declared.code.Code.{Code}
use Rattle.class_model.specs.declared.op.MemberRef.{MemberRef}
use Rattle.jvm_model.specs.Exceptions.{Exception}
use Rattle.jvm_model.specs.Library.{Row}
use Rattle.jvm_model.specs.Value.{Key, Value}

-- What a call runs: a method of the program, one of the library, or nothing, so that an exception is thrown.
pub data Target : Type 0 where
  Program : Key → Target
  Library : Row → Target
  Fails : Exception → Target

-- What names mean. That nothing is told means that linking fails, which shouldn't be so in a set that was taken (not
-- proved yet).
pub record Shape : Type 0 where
  -- the field of a reference (JVMS 5.4.3.2)
  pub field : MemberRef → Option Key
  -- the method that invokestatic runs (JVMS 6.5.invokestatic)
  pub static_target : MemberRef → Option Target
  -- the method that invokespecial runs in a class (JVMS 6.5.invokespecial)
  pub special_target : (from : List ℕ) → MemberRef → Option Target
  -- the method that invokevirtual or invokeinterface runs on a receiver of a class (JVMS 6.5.invokevirtual,
  -- 6.5.invokeinterface)
  pub selected_target : (class : List ℕ) → MemberRef → Option Target
  -- the same on an array, which is an Object, a Cloneable and a Serializable (JLS 4.10.3, 10.8)
  pub array_target : MemberRef → Option Target
  -- a class is another one or one of its supertypes is (JLS 4.10.2)
  pub is_sub : List ℕ → List ℕ → Bool
  -- the class is one of the library, which is initialised before the program begins
  pub is_library : List ℕ → Bool
  -- the classes that are initialised before a class (JVMS 5.5, step 7)
  pub firsts : List ℕ → List (List ℕ)
  -- the class or interface initialisation method of a class (JVMS 2.9)
  pub clinit : List ℕ → Option Key
  -- the value of the attribute ConstantValue of a field (JVMS 4.7.2)
  pub constant : Key → Option Value

-- what names mean, and the code of each method that has one
pub record View : Type 0 where
  pub shape : Shape
  pub code : Key → Option Code

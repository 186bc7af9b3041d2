-- Objects, the heap, and all else that lies outside the frames (JVMS 2.5.3, 2.5.4).
use Rattle.std.specs.Prelude.{ℕ, List, [], ◌∷◌, ◌++◌, length, codes, Option, Some, None, slice_get, slice_set}
use Rattle.jv_base.specs.declared.types.FieldType.{FieldType}
use Rattle.jvm_model.specs.Types.{array_of, class_type}
use Rattle.jvm_model.specs.Value.{Key, Value, Lit, Ref}

-- An instance of a class has its fields; an exception also what its constructor was given, which is null in others. An
-- array has its component type and its components. A string and a StringBuilder have their UTF-16 units.
pub data Object : Type 0 where
  Instance : (class : List ℕ) → (fields : Key → Value) → (message cause : Value) → Object
  Array : FieldType → List Value → Object
  Str : List ℕ → Object
  Builder : List ℕ → Object

-- How far the initialisation of a class or interface is: not begun, begun, ended, or failed (JVMS 5.5).
pub data Init : Type 0 where
  Fresh : Init
  Begun : Init
  Ready : Init
  Failed : Init

-- The heap is the list of the objects in the order in which they were made: object n stands at place n. Object 0 is the
-- stream `System.out`, and what was written to it are the printed UTF-16 units.
pub record World : Type 0 where
  pub heap : List Object
  pub statics : Key → Value
  pub inits : List ℕ → Init
  pub printed : List ℕ

-- two classes of the library of which the machine knows more: that of strings
abbrev pub string : List ℕ
string = codes "java/lang/String"

-- and that of what builds them
abbrev pub string_builder : List ℕ
string_builder = codes "java/lang/StringBuilder"

-- the class of an object, or the type of an array (JVMS 2.4)
abbrev pub type_of : Object → FieldType
type_of (Instance class fields message cause) = class_type class
type_of (Array component values) = array_of component
type_of (Str units) = class_type string
type_of (Builder units) = class_type string_builder

-- the class of an object by name; that of an array counts as Object, whose methods it has (JVMS 6.5.invokevirtual)
abbrev pub class_of : Object → List ℕ
class_of (Instance class fields message cause) = class
class_of (Array component values) = codes "java/lang/Object"
class_of (Str units) = string
class_of (Builder units) = string_builder

-- the object of a reference, with a string for a literal
abbrev pub object_of : World → Value → Option Object
object_of w (Ref n) = slice_get w.heap n
object_of w (Lit units) = Some (Str units)
object_of w _ = None

-- one more object; its number is that of the objects before
abbrev pub with_new : World → Object → World
with_new w o = record w { heap = w.heap ++ o ∷ [] }

-- the reference to the next object that is made
abbrev pub newest : World → Value
newest w = Ref (length w.heap)

-- another object in place of one
abbrev pub with_object : World → ℕ → Object → World
with_object w n o = record w { heap = slice_set w.heap n o }

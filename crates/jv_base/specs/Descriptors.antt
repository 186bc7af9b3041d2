-- Reading descriptors from left to right (JVMS 4.3).
use Rattle.std.specs.Prelude.{◌≡◌, ℕ, ◌+◌, ◌&&◌, Bool, false, List, [], ◌∷◌, ◌++◌, nat_le, nat_lt, ◌==◌, Option, Some}
use Rattle.std.specs.Prelude.{None, Result, Ok, Err, if◌then◌else◌}
use Rattle.jv_base.specs.Names.{is_class_name, part_after}
use Rattle.jv_base.specs.Types.{field_text, method_text, argument_words, IsFieldType, IsMethodType}
use Rattle.jv_base.specs.Walk.{walk}
use Rattle.jv_base.specs.declared.descriptors.BadDescriptor.{BadDescriptor}
use Rattle.jv_base.specs.declared.types.Base.{Base}
use Rattle.jv_base.specs.declared.types.Base.TheVariants.{Boolean, Byte, Char, Short, Int, Long, Float, Double, Class}
use Rattle.jv_base.specs.declared.types.FieldType.{FieldType}
use Rattle.jv_base.specs.declared.types.MethodType.{MethodType}

-- the text is the type's descriptor (JVMS 4.3.2)
abbrev pub SpellsField : List ℕ → FieldType → Type 0
SpellsField text ty = IsFieldType ty × (field_text ty ≡ text)

-- the text is the descriptor of the type of a method (JVMS 4.3.3)
abbrev pub SpellsMethod : List ℕ → MethodType → Type 0
SpellsMethod text ty = IsMethodType ty × (method_text ty ≡ text)

-- the type with so many dimensions of this base (JVMS 4.3.2)
abbrev pub typed : ℕ → Base → FieldType
typed dims base = record { dims = dims; base = base }

-- the base type of a letter (JVMS 4.3.2, table 4.3-A)
abbrev pub letter_base : ℕ → Option Base
letter_base b =
    if b == 90 then Some Boolean
    else if b == 66 then Some Byte
    else if b == 67 then Some Char
    else if b == 83 then Some Short
    else if b == 73 then Some Int
    else if b == 74 then Some Long
    else if b == 70 then Some Float
    else if b == 68 then Some Double
    else None

-- what is begun of a field type: so many `[`, or an L behind them and so much of a class name, whose last part may be
-- begun
pub data Begun : Type 0 where
  brackets : ℕ → Begun
  name : ℕ → List ℕ → Bool → Begun

-- what one more byte makes of it
pub data Grown : Type 0 where
  more : Begun → Grown
  whole : FieldType → Grown

-- a type of one letter is whole (JVMS 4.3.2)
abbrev pub letter_grown : ℕ → Option Base → Option Grown
letter_grown dims (Some base) = Some (whole (typed dims base))
letter_grown dims None = None

-- so much of a class name, which goes on (JVMS 4.2.1, 4.3.2)
abbrev pub name_on : ℕ → List ℕ → Option Bool → Option Grown
name_on dims text (Some in_part) = Some (more (name dims text in_part))
name_on dims text None = None

-- a class name with one more byte, which a `;` ends (JVMS 4.3.2)
abbrev pub name_grown : ℕ → List ℕ → Bool → ℕ → Option Grown
name_grown dims text in_part b =
    if b == 59 then (if is_class_name text then Some (whole (typed dims (Class text))) else None)
    else name_on dims (text ++ b ∷ []) (part_after in_part b)

-- what one more byte makes of what is begun of a field type, at most 255 dimensions (JVMS 4.3.2, 4.4.1)
unfoldable pub grown : Begun → ℕ → Option Grown
grown (brackets dims) b =
    if b == 91 then (if nat_lt dims 255 then Some (more (brackets (dims + 1))) else None)
    else if b == 76 then Some (more (name dims [] false))
    else letter_grown dims (letter_base b)
grown (name dims text in_part) b = name_grown dims text in_part b

-- a field descriptor that is begun or whole
pub data FieldRead : Type 0 where
  field_begun : Begun → FieldRead
  field_whole : FieldType → FieldRead

-- a field descriptor with one more byte of its type (JVMS 4.3.2)
abbrev pub field_on : Option Grown → Option FieldRead
field_on (Some (more begun)) = Some (field_begun begun)
field_on (Some (whole ty)) = Some (field_whole ty)
field_on None = None

-- a field descriptor with one more byte; behind a whole type none may stand (JVMS 4.3.2)
abbrev pub field_byte : FieldRead → ℕ → Option FieldRead
field_byte (field_begun begun) b = field_on (grown begun b)
field_byte (field_whole ty) b = None

-- the type, where it is whole (JVMS 4.3.2)
abbrev pub field_end : FieldRead → Option FieldType
field_end (field_begun begun) = None
field_end (field_whole ty) = Some ty

-- where a method descriptor stands: before `(`, in a parameter, in the result, or behind it
pub data MethodPart : Type 0 where
  before : MethodPart
  parameter : Begun → MethodPart
  returned : Begun → MethodPart
  behind : Option FieldType → MethodPart

-- the parameters that are whole, and what stands behind them
pub record MethodRead : Type 0 where
  pub args : List FieldType
  pub part : MethodPart

-- nothing of a type is begun
abbrev pub is_fresh : Begun → Bool
is_fresh (brackets dims) = dims == 0
is_fresh (name dims text in_part) = false

-- these parameters, and what stands behind them (JVMS 4.3.3)
abbrev pub method_at : List FieldType → MethodPart → Option MethodRead
method_at args part = Some (record { args = args; part = part })

-- one more byte of a parameter; the parameters take at most 255 words (JVMS 4.3.3)
abbrev pub parameter_on : List FieldType → Option Grown → Option MethodRead
parameter_on args (Some (more begun)) = method_at args (parameter begun)
parameter_on args (Some (whole ty)) =
    if nat_le (argument_words (args ++ ty ∷ [])) 255 then method_at (args ++ ty ∷ []) (parameter (brackets 0)) else None
parameter_on args None = None

-- a byte behind the parameters: the end of them, or one more of a parameter, if a word is left (JVMS 4.3.3)
abbrev pub parameter_byte : List FieldType → Begun → ℕ → Option MethodRead
parameter_byte args begun b =
    if is_fresh begun && b == 41 then method_at args (returned (brackets 0))
    else if is_fresh begun && nat_le 255 (argument_words args) then None
    else parameter_on args (grown begun b)

-- one more byte of the type of the result (JVMS 4.3.3)
abbrev pub returned_on : List FieldType → Option Grown → Option MethodRead
returned_on args (Some (more begun)) = method_at args (returned begun)
returned_on args (Some (whole ty)) = method_at args (behind (Some ty))
returned_on args None = None

-- a byte behind `)`: the V of no result, or one more of the result's type (JVMS 4.3.3)
abbrev pub returned_byte : List FieldType → Begun → ℕ → Option MethodRead
returned_byte args begun b = if is_fresh begun
    && b == 86 then method_at args (behind None) else returned_on args (grown begun b)

-- a method descriptor with one more byte, where it stands here (JVMS 4.3.3)
abbrev pub part_byte : List FieldType → MethodPart → ℕ → Option MethodRead
part_byte args before b = if b == 40 then method_at args (parameter (brackets 0)) else None
part_byte args (parameter begun) b = parameter_byte args begun b
part_byte args (returned begun) b = returned_byte args begun b
part_byte args (behind ret) b = None

-- a method descriptor with one more byte (JVMS 4.3.3)
abbrev pub method_byte : MethodRead → ℕ → Option MethodRead
method_byte m b = part_byte m.args m.part b

-- the type of the method, where its result is whole (JVMS 4.3.3)
abbrev pub part_end : List FieldType → MethodPart → Option MethodType
part_end args before = None
part_end args (parameter begun) = None
part_end args (returned begun) = None
part_end args (behind ret) = Some (record { args = args; ret = ret })

-- the type of the method, if the text ends here (JVMS 4.3.3)
abbrev pub method_end : MethodRead → Option MethodType
method_end m = part_end m.args m.part

-- a place as the fault that tells it (the project's own: where the descriptor breaks off)
abbrev pub bad_descriptor : {V : Type 0} → Result V ℕ → Result V BadDescriptor
bad_descriptor (Ok x) = Ok x
bad_descriptor (Err at) = Err (record { place = at })

-- the type whose descriptor the text is, or how long its longest prefix is that is a prefix of a descriptor
-- (JVMS 4.3.2; the place of a fault is the project's own)
unfoldable pub read_field : List ℕ → Result FieldType BadDescriptor
read_field text = bad_descriptor (walk field_byte field_end (field_begun (brackets 0)) 0 text)

-- the same of the descriptor of a method (JVMS 4.3.3; the place of a fault is the project's own)
unfoldable pub read_method : List ℕ → Result MethodType BadDescriptor
read_method text = bad_descriptor (walk method_byte method_end (record { args = []; part = before }) 0 text)

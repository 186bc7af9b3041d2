-- What the methods of the library do (Java SE 8 API; the project's own, since the JVMS has no library). What they are
-- given they see without a class name, and what they do is one of a few acts, so that a row here says all of a method.
use Rattle.std.specs.Prelude.{ℕ, ◌+◌, ◌*◌, ◌^◌, ℤ, pos, negsuc, ◌-ℤ◌, List, [], ◌∷◌, ◌++◌, Option, Some, None, Bool}
use Rattle.std.specs.Prelude.{false}
use Rattle.std.specs.Prelude.{◌||◌, ◌==◌, codes, length, nat_lt, slice_get, slice_range, if◌then◌else◌}
use Rattle.std.specs.Fmt.{signed_decimal}
use Rattle.std.specs.Int.{w32, int_rem_euclid, int_wrap}
use Rattle.std.specs.Option.{option_map_or}
use Rattle.std.specs.Ordering.{int_eq}
use Rattle.std.specs.Int.RustNames.{unsigned_abs}
use Rattle.jv_base.specs.Names.{is_text}
use Rattle.jvm_model.specs.Exceptions.{Exception, NullPointer, TextIndex}
use Rattle.jvm_model.specs.Value.{Value, Int, Null, Ref, same_reference, truth}

-- The type of what is told as a text.
pub data Told : Type 0 where
  AsInt : Told
  AsLong : Told
  AsChar : Told
  AsBoolean : Told
  AsString : Told

-- The methods, a constructor for each row of the API's tables.
pub data Row : Type 0 where
  ObjectInit : Row
  ObjectEquals : Row
  StringLength : Row
  StringCharAt : Row
  StringEquals : Row
  StringHashCode : Row
  StringIsEmpty : Row
  StringFrom : Row
  StringBetween : Row
  StringCompareTo : Row
  StringToString : Row
  StringValueOf : Told → Row
  BuilderInit : Row
  BuilderInitWith : Row
  BuilderAppend : Told → Row
  BuilderLength : Row
  BuilderToString : Row
  Print : Told → Row
  PrintLine : Told → Row
  EndLine : Row
  ThrowableInit : Row
  ThrowableInitWith : Row
  ThrowableInitFrom : Row
  GetMessage : Row
  GetCause : Row

-- An operand as a method sees it: a string or a StringBuilder with its units, an exception with what its constructor
-- was given, and any object with its reference.
pub data Seen : Type 0 where
  ANull : Seen
  AnInt : ℤ → Seen
  ALong : ℤ → Seen
  AString : (reference : Value) → (units : List ℕ) → Seen
  ABuilder : (number : ℕ) → (units : List ℕ) → Seen
  AnInstance : (number : ℕ) → (message cause : Value) → Seen
  AnArray : (number : ℕ) → Seen

-- What a method does: it returns a value or nothing, makes a string and returns it, changes a StringBuilder or an
-- exception, writes to the stream, or throws an exception that it makes. The last is no act: an operand is missing or
-- of another kind.
pub data Act : Type 0 where
  Returns : Option Value → Act
  MakesString : List ℕ → Act
  SetsBuilder : (number : ℕ) → (units : List ℕ) → Option Value → Act
  SetsThrown : (number : ℕ) → (message cause : Value) → Act
  Writes : List ℕ → Act
  Throws : Exception → Act
  NoAct : Act

-- ---- texts

-- the value as a text: a number in decimal, a char as its unit, a boolean as true unless it is 0
-- (Java SE 8 API, String.valueOf; of an int outside its type the project's own)
abbrev pub value_text : Told → Seen → Option (List ℕ)
value_text AsInt (AnInt z) = Some (signed_decimal z)
value_text AsLong (ALong z) = Some (signed_decimal z)
value_text AsChar (AnInt z) = Some (unsigned_abs (int_rem_euclid z (pos 65536)) ∷ [])
value_text AsBoolean (AnInt z) = Some (if int_eq z (pos 0) then codes "false" else codes "true")
value_text AsString (AString reference units) = Some units
value_text AsString ANull = Some (codes "null")
value_text _ _ = None

-- what is done with it
abbrev pub with_told : Option (List ℕ) → (List ℕ → Act) → Act
with_told None act = NoAct
with_told (Some units) act = act units

-- the reference of an operand that is one
abbrev pub reference : Seen → Option Value
reference ANull = Some Null
reference (AString r units) = Some r
reference (ABuilder n units) = Some (Ref n)
reference (AnInstance n message cause) = Some (Ref n)
reference (AnArray n) = Some (Ref n)
reference _ = None

-- the same, where it may be a string
abbrev pub string_reference : Seen → Option Value
string_reference ANull = Some Null
string_reference (AString r units) = Some r
string_reference _ = None

-- the same, where it may be an exception
abbrev pub instance_reference : Seen → Option Value
instance_reference ANull = Some Null
instance_reference (AnInstance n message cause) = Some (Ref n)
instance_reference _ = None

-- what is done with it
abbrev pub with_reference : Option Value → (Value → Act) → Act
with_reference None act = NoAct
with_reference (Some r) act = act r

-- s[0]*31^(n-1) + s[1]*31^(n-2) + ... + s[n-1], which int arithmetic wraps (Java SE 8 API, String.hashCode)
abbrev pub polynomial : List ℕ → ℕ
polynomial [] = 0
polynomial (u ∷ us) = u * 31 ^ length us + polynomial us

-- the difference of the first unlike units, else that of the lengths (Java SE 8 API, String.compareTo)
abbrev pub comparison : List ℕ → List ℕ → ℤ
comparison (u ∷ us) (v ∷ vs) = if u == v then comparison us vs else pos u -ℤ pos v
comparison us vs = pos (length us) -ℤ pos (length vs)

-- an int is returned; a length past 2^31 - 1 wraps (the project's own: a JVM has no such text)
abbrev pub int : ℤ → Act
int z = Returns (Some (Int (int_wrap w32 z)))

-- a truth value is returned
abbrev pub boolean : Bool → Act
boolean b = Returns (Some (truth b))

-- the unit with an index, where there is one (Java SE 8 API, String.charAt)
abbrev pub unit_at : List ℕ → ℤ → Act
unit_at units (pos n) = option_map_or (λ u. int (pos u)) (slice_get units n) (Throws TextIndex)
unit_at units (negsuc n) = Throws TextIndex

-- the units from one index to before another, where they ascend within the text (Java SE 8 API, String.substring)
abbrev pub part_of : List ℕ → ℤ → ℤ → Act
part_of units (pos a) (pos b) = if nat_lt b a || nat_lt (length units) b then Throws TextIndex
    else MakesString (slice_range units a b)
part_of units _ _ = Throws TextIndex

-- ---- the methods

-- What a method does with its operands, the receiver first, which is never null (Java SE 8 API, but for what is said
-- beside a row). Each text that is made is a new string (the project's own).
abbrev pub act : Row → List Seen → Act
act ObjectInit (x ∷ []) = with_reference (reference x) (λ r. Returns None)
act ObjectEquals (x ∷ y ∷ []) = with_reference (reference x)
    (λ r. with_reference (reference y) (λ s. boolean (same_reference r s)))
act StringLength (AString r us ∷ []) = int (pos (length us))
act StringCharAt (AString r us ∷ AnInt i ∷ []) = unit_at us i
act StringEquals (AString r us ∷ AString s vs ∷ []) = boolean (is_text us vs)
act StringEquals (AString r us ∷ x ∷ []) = with_reference (reference x) (λ s. boolean false)
act StringHashCode (AString r us ∷ []) = int (pos (polynomial us))
act StringIsEmpty (AString r us ∷ []) = boolean (length us == 0)
act StringFrom (AString r us ∷ AnInt a ∷ []) = part_of us a (pos (length us))
act StringBetween (AString r us ∷ AnInt a ∷ AnInt b ∷ []) = part_of us a b
act StringCompareTo (AString r us ∷ AString s vs ∷ []) = int (comparison us vs)
act StringCompareTo (AString r us ∷ ANull ∷ []) = Throws NullPointer
act StringToString (AString r us ∷ []) = Returns (Some r)
act (StringValueOf ty) (x ∷ []) = with_told (value_text ty x) MakesString
act BuilderInit (ABuilder n us ∷ []) = SetsBuilder n [] None
act BuilderInitWith (ABuilder n us ∷ AString r vs ∷ []) = SetsBuilder n vs None
act BuilderInitWith (ABuilder n us ∷ ANull ∷ []) = Throws NullPointer
act (BuilderAppend ty) (ABuilder n us ∷ x ∷ []) =
    with_told (value_text ty x) (λ vs. SetsBuilder n (us ++ vs) (Some (Ref n)))
act BuilderLength (ABuilder n us ∷ []) = int (pos (length us))
act BuilderToString (ABuilder n us ∷ []) = MakesString us
act (Print ty) (AnInstance n m c ∷ x ∷ []) = with_told (value_text ty x) Writes
act (PrintLine ty) (AnInstance n m c ∷ x ∷ []) = with_told (value_text ty x) (λ us. Writes (us ++ 10 ∷ []))
act EndLine (AnInstance n m c ∷ []) = Writes (10 ∷ [])
act ThrowableInit (AnInstance n m c ∷ []) = SetsThrown n Null Null
act ThrowableInitWith (AnInstance n m c ∷ x ∷ []) = with_reference (string_reference x) (λ r. SetsThrown n r Null)
act ThrowableInitFrom (AnInstance n m c ∷ x ∷ y ∷ []) = with_reference (string_reference x)
    (λ r. with_reference (instance_reference y) (SetsThrown n r))
act GetMessage (AnInstance n m c ∷ []) = Returns (Some m)
act GetCause (AnInstance n m c ∷ []) = Returns (Some c)
act _ _ = NoAct

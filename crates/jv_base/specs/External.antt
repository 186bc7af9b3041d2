-- Types as Java source spells them (JLS 4.2, 4.3, 10.1, with classes by their binary names, JLS 13.1).
use Rattle.std.specs.Prelude.{◌≡◌, ℕ, ◌+◌, ◌&&◌, Bool, false, List, [], ◌∷◌, ◌++◌, map, nat_lt, ◌==◌}
use Rattle.std.specs.Prelude.{Option, Some, None, Result, codes, if◌then◌else◌}
use Rattle.std.specs.List.{repeat}
use Rattle.jv_base.specs.Descriptors.{typed, bad_descriptor}
use Rattle.jv_base.specs.Names.{is_class_name, is_text, part_after}
use Rattle.jv_base.specs.Types.{IsFieldType}
use Rattle.jv_base.specs.Walk.{walk}
use Rattle.jv_base.specs.declared.descriptors.BadDescriptor.{BadDescriptor}
use Rattle.jv_base.specs.declared.types.Base.{Base}
use Rattle.jv_base.specs.declared.types.Base.TheVariants.{Boolean, Byte, Char, Short, Int, Long, Float, Double, Class}
use Rattle.jv_base.specs.declared.types.FieldType.{FieldType}

-- one byte in place of another
abbrev pub swapped : ℕ → ℕ → ℕ → ℕ
swapped from to b = if b == from then to else b

-- a class name with dots in place of slashes, and back
abbrev pub dotted : List ℕ → List ℕ
dotted name = map (swapped 47 46) name

-- a text with slashes in place of dots (JVMS 4.2.1)
abbrev pub slashed : List ℕ → List ℕ
slashed text = map (swapped 46 47) text

-- the word of a base type, or a class name with dots
unfoldable pub word_text : Base → List ℕ
word_text Boolean = codes "boolean"
word_text Byte = codes "byte"
word_text Char = codes "char"
word_text Short = codes "short"
word_text Int = codes "int"
word_text Long = codes "long"
word_text Float = codes "float"
word_text Double = codes "double"
word_text (Class name) = dotted name

-- the base type, and `[]` for each dimension
unfoldable pub external_text : FieldType → List ℕ
external_text ty = word_text ty.base ++ repeat ty.dims (codes "[]")

-- the text is the type's spelling
abbrev pub SpellsExternal : List ℕ → FieldType → Type 0
SpellsExternal text ty = IsFieldType ty × (external_text ty ≡ text)

-- the base type of a word that is no class name
unfoldable pub keyword_base : List ℕ → Option Base
keyword_base word =
    if is_text word (codes "boolean") then Some Boolean
    else if is_text word (codes "byte") then Some Byte
    else if is_text word (codes "char") then Some Char
    else if is_text word (codes "short") then Some Short
    else if is_text word (codes "int") then Some Int
    else if is_text word (codes "long") then Some Long
    else if is_text word (codes "float") then Some Float
    else if is_text word (codes "double") then Some Double
    else None

-- the base type of a keyword, else of a class name (JLS 4.2, 4.3)
abbrev pub or_class : List ℕ → Option Base → Option Base
or_class word (Some base) = Some base
or_class word None = if is_class_name word then Some (Class word) else None

-- the base type of a word, in which slashes stand for dots
unfoldable pub word_base : List ℕ → Option Base
word_base word = or_class word (keyword_base word)

-- what was read: so much of a word, whose last part may be begun; a `[` behind so many `[]`; or so many `[]`
pub data External : Type 0 where
  word : List ℕ → Bool → External
  opened : ℕ → Base → External
  closed : ℕ → Base → External

-- so much of a word, which goes on (JLS 13.1)
abbrev pub word_on : List ℕ → Option Bool → Option External
word_on text (Some in_part) = Some (word text in_part)
word_on text None = None

-- a `[` behind a word (JLS 10.1)
abbrev pub word_opened : Option Base → Option External
word_opened (Some base) = Some (opened 0 base)
word_opened None = None

-- a word with one more byte: a dot stands where a class name has a slash (JLS 13.1)
abbrev pub word_byte : List ℕ → Bool → ℕ → Option External
word_byte text in_part b =
    if b == 91 then word_opened (word_base text)
    else if b == 47 then None
    else word_on (text ++ swapped 46 47 b ∷ []) (part_after in_part (swapped 46 47 b))

-- a spelling with one more byte; at most 255 dimensions (JLS 10.1; JVMS 4.4.1)
unfoldable pub external_byte : External → ℕ → Option External
external_byte (word text in_part) b = word_byte text in_part b
external_byte (opened dims base) b = if b == 93 then Some (closed (dims + 1) base) else None
external_byte (closed dims base) b = if b == 91 && nat_lt dims 255 then Some (opened dims base) else None

-- the type of a word, without dimensions (JLS 4.2, 4.3)
abbrev pub word_whole : Option Base → Option FieldType
word_whole (Some base) = Some (typed 0 base)
word_whole None = None

-- the type, where it is whole (JLS 4.2, 4.3, 10.1)
unfoldable pub external_end : External → Option FieldType
external_end (word text in_part) = word_whole (word_base text)
external_end (opened dims base) = None
external_end (closed dims base) = Some (typed dims base)

-- the type that the text spells, or how long its longest prefix is that is a prefix of a spelling
unfoldable pub read_external : List ℕ → Result FieldType BadDescriptor
read_external text = bad_descriptor (walk external_byte external_end (word [] false) 0 text)

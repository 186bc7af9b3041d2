-- The lines of a witness and what they say (the project's own; docs/WITNESS.md).
use Rattle.std.specs.Prelude.{◌≡◌, ◌⊎◌, ℕ, ◌<◌, ◌≤◌, ◌^◌, ℤ, pos, negsuc, List, ◌++◌, Result, Ok, Err, IsTrue, codes}
use Rattle.std.specs.Fmt.{decimal, signed_decimal}
use Rattle.jv_base.specs.Descriptors.{SpellsMethod, read_method}
use Rattle.jv_base.specs.External.{dotted}
use Rattle.jv_base.specs.Names.{is_class_name, is_method_name}
use Rattle.jv_base.specs.declared.descriptors.BadDescriptor.{BadDescriptor}
use Rattle.jv_base.specs.declared.types.MethodType.{MethodType}
use Rattle.text_lines.specs.Members.{method_text}
use Rattle.code_edit.specs.declared.act.Act.{Act}
use Rattle.witness_file.specs.ActWords.{parts_of}
use Rattle.witness_file.specs.declared.acts.Numbers.{Numbers}
use Rattle.witness_file.specs.declared.acts.Numbers.TheVariants.{One, Two, Three, Four}
use Rattle.witness_file.specs.declared.line.WitnessLine.{WitnessLine}
use Rattle.witness_file.specs.declared.line.WitnessLine.TheVariants as line

-- a number and what stands behind it
abbrev pub spaced : ℕ → List ℕ → List ℕ
spaced n text = decimal n ++ (codes " " ++ text)

-- numbers, of which the fourth is a value
abbrev pub numbers_text : Numbers → List ℕ
numbers_text (One a) = decimal a
numbers_text (Two a b) = spaced a (decimal b)
numbers_text (Three a b c) = spaced a (spaced b (decimal c))
numbers_text (Four a b c v) = spaced a (spaced b (spaced c (signed_decimal v)))

-- the word of an act and its numbers
unfoldable pub act_text : Act → List ℕ
act_text a = (parts_of a).0 ++ (codes " " ++ numbers_text (parts_of a).1)

-- a method by its descriptor, as `int twice(int)`; what is no descriptor stands as it is
abbrev pub member_text : List ℕ → Result MethodType BadDescriptor → List ℕ → List ℕ
member_text name (Ok ty) descriptor = method_text ty name
member_text name (Err e) descriptor = name ++ descriptor

-- `method class type name(types)`
abbrev pub method_line_text : List ℕ → List ℕ → List ℕ → List ℕ
method_line_text class name ty = codes "method " ++ (dotted class
    ++ (codes " " ++ member_text name (read_method ty) ty))

-- the text of a line, without its end
unfoldable pub line_text : WitnessLine → List ℕ
line_text line.Head = codes "witness 1"
line_text (line.Method class name ty) = method_line_text class name ty
line_text (line.Step number) = codes "step " ++ decimal number
line_text (line.Act a) = act_text a

-- a signed number of 32 bits
abbrev pub IsValue : ℤ → Type 0
IsValue (pos n) = n < 2 ^ 31
IsValue (negsuc n) = n < 2 ^ 31

-- numbers of 32 bits
abbrev pub AreNumbers : Numbers → Type 0
AreNumbers (One a) = a < 2 ^ 32
AreNumbers (Two a b) = (a < 2 ^ 32) × (b < 2 ^ 32)
AreNumbers (Three a b c) = (a < 2 ^ 32) × (b < 2 ^ 32) × (c < 2 ^ 32)
AreNumbers (Four a b c v) = (a < 2 ^ 32) × (b < 2 ^ 32) × (c < 2 ^ 32) × IsValue v

-- the numbers of an act are of 32 bits
abbrev pub IsAct : Act → Type 0
IsAct a = AreNumbers (parts_of a).1

-- a class, a method's name and a descriptor (JVMS 4.2, 4.3.3)
pub record IsMethodLine (class name ty : List ℕ) : Type 0 where
  pub class_named : IsTrue (is_class_name class)
  pub method_named : IsTrue (is_method_name name)
  pub described : (of_type : MethodType) × SpellsMethod ty of_type

-- what a line says has a spelling
abbrev pub IsLine : WitnessLine → Type 0
IsLine line.Head = Unit {0}
IsLine (line.Method class name ty) = IsMethodLine class name ty
IsLine (line.Step number) = (1 ≤ number) × (number ≤ 6)
IsLine (line.Act a) = IsAct a

-- the text is a value's; 0 may have a sign
abbrev pub IsValueText : List ℕ → ℤ → Type 0
IsValueText text value = (text ≡ signed_decimal value) ⊎ ((value ≡ pos 0) × (text ≡ codes "-0"))

-- the text is that of the numbers
abbrev pub IsNumbersText : List ℕ → Numbers → Type 0
IsNumbersText text (Four a b c v) =
    (value : List ℕ) × IsValueText value v × (text ≡ spaced a (spaced b (spaced c value)))
IsNumbersText text n = text ≡ numbers_text n

-- the text is the line's spelling
abbrev pub IsTextOf : List ℕ → WitnessLine → Type 0
IsTextOf text (line.Act a) =
    (numbers : List ℕ) × IsNumbersText numbers (parts_of a).1 × (text ≡ (parts_of a).0 ++ (codes " " ++ numbers))
IsTextOf text l = text ≡ line_text l

-- the text says this
abbrev pub SpellsLine : List ℕ → WitnessLine → Type 0
SpellsLine text l = IsLine l × IsTextOf text l

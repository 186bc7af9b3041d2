-- Types and members in lines, spelled as a mapping file has them (ProGuard manual, "ReTrace", the mapping file:
-- original types as in Java source, JLS 4.2, 4.3, 8.4, 10.1, with classes by their binary names, JLS 13.1).
use Rattle.std.specs.Prelude.{◌≡◌, ℕ, nat_le, ◌==◌, List, [], ◌∷◌, ◌++◌, length, Option, Some, None, IsTrue, codes}
use Rattle.std.specs.Prelude.{if◌then◌else◌}
use Rattle.std.specs.List.{join_by, slice_split}
use Rattle.std.specs.Option.{option_map}
use Rattle.std.specs.Result.{result_ok}
use Rattle.jv_base.specs.External.{dotted, external_text, read_external}
use Rattle.jv_base.specs.Names.{is_class_name, is_text}
use Rattle.jv_base.specs.Types.{argument_words}
use Rattle.jv_base.specs.declared.types.Base.{Base}
use Rattle.jv_base.specs.declared.types.Base.TheVariants.{Class}
use Rattle.jv_base.specs.declared.types.FieldType.{FieldType}
use Rattle.jv_base.specs.declared.types.MethodType.{MethodType}
use Rattle.text_lines.specs.Cut.{◌>>=◌, where_true}

-- ---- spellings

-- the type of what a method gives, `void` where it gives nothing (JLS 8.4.5)
abbrev pub result_text : Option FieldType → List ℕ
result_text None = codes "void"
result_text (Some ty) = external_text ty

-- the types of parameters, a comma between two
abbrev pub arguments_text : List FieldType → List ℕ
arguments_text args = join_by external_text (codes ",") args

-- a method, as `int twice(int)`
abbrev pub method_text : MethodType → List ℕ → List ℕ
method_text ty name =
    result_text ty.ret ++ (codes " " ++ (name ++ (codes "(" ++ (arguments_text ty.args ++ codes ")"))))

-- the text is the name of a class, with dots (JLS 13.1)
abbrev pub SpellsClass : List ℕ → List ℕ → Type 0
SpellsClass text name = IsTrue (is_class_name name) × (text ≡ dotted name)

-- ---- reading

-- the type that a text spells, if it spells one
abbrev pub type_of : List ℕ → Option FieldType
type_of text = result_ok (read_external text)

-- the name of a base type that is a class
abbrev pub class_of_base : Base → Option (List ℕ)
class_of_base (Class name) = Some name
class_of_base _ = None

-- the name of a type that is a class
abbrev pub class_of_type : FieldType → Option (List ℕ)
class_of_type ty = if ty.dims == 0 then class_of_base ty.base else None

-- the class name that a text spells with dots
abbrev pub class_of : List ℕ → Option (List ℕ)
class_of text = type_of text >>= class_of_type

-- the type of what a method gives, none where it is `void`
abbrev pub result_of : List ℕ → Option (Option FieldType)
result_of text = if is_text text (codes "void") then Some None else option_map (λ ty. Some ty) (type_of text)

-- the types that texts spell, one by one
abbrev pub types_of : List (List ℕ) → Option (List FieldType)
types_of [] = Some []
types_of (text ∷ texts) = type_of text >>= (λ ty. option_map (λ tys. ty ∷ tys) (types_of texts))

-- the types of parameters, a comma between two
abbrev pub arguments_of : List ℕ → Option (List FieldType)
arguments_of text = if length text == 0 then Some [] else types_of (slice_split (λ b. b == 44) text)

-- a method's type; the parameters take at most 255 words (JVMS 4.3.3)
abbrev pub method_type : Option FieldType → List FieldType → Option MethodType
method_type ret args = where_true (nat_le (argument_words args) 255) (record { args = args; ret = ret })

-- the type of a method by the texts of its result and of its parameters
abbrev pub method_type_of : List ℕ → List ℕ → Option MethodType
method_type_of ret args = result_of ret >>= (λ r. arguments_of args >>= (λ a. method_type r a))

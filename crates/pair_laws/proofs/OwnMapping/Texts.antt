-- The lines of a mapping are texts.
use Rattle.std.proofs.Common.{◌≡◌, ℕ, zero, suc, ◌<◌, ◌==◌, Bool, true, false, cond, List, [], ◌∷◌, ◌++◌, map}
use Rattle.std.proofs.Common.{Option, Some, None, refl, sym, ap, ◌∙◌, arith, codes, lit<}
use Rattle.std.specs.Prelude.{IsUtf8, IfSome}
use Rattle.std.specs.Fmt.{decimal}
use Rattle.std.specs.List.{AllByRecursion, flat_map, repeat}
use Rattle.std.proofs.lemmas.Bool.{and_from, and_parts}
use Rattle.std.proofs.lemmas.Fmt.{IsAscii-decimal}
use Rattle.std.proofs.lemmas.List.{map-append}
use Rattle.std.proofs.lemmas.Str.{IsUtf8-append, IsUtf8-from_ascii, IsUtf8-nil}
use lib.Utf8.{encode, encodes, scalar, scalars}
use Rattle.jv_base.specs.External.{slashed, dotted, external_text, swapped, word_text}
use Rattle.jv_base.specs.declared.types.Base.{Base}
use Rattle.jv_base.specs.declared.types.Base.TheVariants as base
use Rattle.jv_base.specs.declared.types.FieldType.{FieldType}
use Rattle.jv_base.specs.declared.types.MethodType.{MethodType}
use Rattle.jv_base.proofs.Swapping.{swapped_char}
use Rattle.class_model.specs.OpValues.{IsBaseValue}
use Rattle.class_laws.specs.ClassValues.{IsFieldTypeValue, IsMethodTypeValue}
use Rattle.text_lines.specs.Members.{arguments_text, method_text, result_text}
use Rattle.mapping_file.specs.MapLines.{IsRange, class_line_text, field_line_text, method_line_text, range_text}
use Rattle.mapping_file.specs.declared.mapping.MapField.{MapField}
use Rattle.mapping_file.specs.declared.mapping.MapMethod.{MapMethod}
use Rattle.mapping_file.specs.declared.mapping.Range.{Range}

-- ---- names

module _ (from to : ℕ) (low : from < 128) (small : to < 128) (is_scalar : scalar to ≡ true) where
  swapped_scalar : (c : ℕ) → scalar c ≡ true → scalar (swapped from to c) ≡ true
  swapped_scalar c is = by (c == from)
    where
      by : (t : Bool) → scalar (cond t to c) ≡ true
      by true = is_scalar
      by false = is

  swapped_scalars : (cs : List ℕ) → scalars cs ≡ true → scalars (map (swapped from to) cs) ≡ true
  swapped_scalars [] are = refl
  swapped_scalars (c ∷ cs) are =
      let parts = and_parts (scalar c) (scalars cs) are in
      and_from (scalar (swapped from to c)) (scalars (map (swapped from to) cs)) (swapped_scalar c parts.0)
      (swapped_scalars cs parts.1)

  swapped_all : (cs : List ℕ) → encodes (map (swapped from to) cs) ≡ map (swapped from to) (encodes cs)
  swapped_all [] = refl
  swapped_all (c ∷ cs) =
      (λ i. swapped_char from to c low small i ++ swapped_all cs i)
      ∙ sym (map-append (swapped from to) (encode c) (encodes cs))

  swapped_utf8 : (name : List ℕ) → IsUtf8 name → IsUtf8 (map (swapped from to) name)
  swapped_utf8 name h = (
    map (swapped from to) h.0,
    (swapped_scalars h.0 h.1.0, swapped_all h.0 ∙ ap (map (swapped from to)) h.1.1),
  )

-- a name with dots in place of slashes is a text
pub dotted_utf8 : (name : List ℕ) → IsUtf8 name → IsUtf8 (dotted name)
dotted_utf8 = swapped_utf8 47 46 (lit< tt) (lit< tt) refl

-- and one with slashes in place of dots
pub slashed_utf8 : (name : List ℕ) → IsUtf8 name → IsUtf8 (slashed name)
slashed_utf8 = swapped_utf8 46 47 (lit< tt) (lit< tt) refl

-- ---- types

word_utf8 : (b : Base) → IsBaseValue b → IsUtf8 (word_text b)
unfolding word_text lib.Utf8.encode
word_utf8 (base.Class name) h = dotted_utf8 name h
word_utf8 base.Boolean h = (codes "boolean", (refl, refl))
word_utf8 base.Byte h = (codes "byte", (refl, refl))
word_utf8 base.Char h = (codes "char", (refl, refl))
word_utf8 base.Short h = (codes "short", (refl, refl))
word_utf8 base.Int h = (codes "int", (refl, refl))
word_utf8 base.Long h = (codes "long", (refl, refl))
word_utf8 base.Float h = (codes "float", (refl, refl))
word_utf8 base.Double h = (codes "double", (refl, refl))

brackets_utf8 : (n : ℕ) → IsUtf8 (repeat n (codes "[]"))
unfolding lib.Utf8.encode
brackets_utf8 zero = IsUtf8-nil
brackets_utf8 (suc n) =
    IsUtf8-append (codes "[]") (repeat n (codes "[]")) (codes "[]", (refl, refl)) (brackets_utf8 n)

type_utf8 : (ty : FieldType) → IsFieldTypeValue ty → IsUtf8 (external_text ty)
unfolding external_text
type_utf8 ty h =
    IsUtf8-append (word_text ty.base) (repeat ty.dims (codes "[]")) (word_utf8 ty.base h) (brackets_utf8 ty.dims)

result_utf8 : (ty : Option FieldType) → IfSome ty IsFieldTypeValue → IsUtf8 (result_text ty)
unfolding lib.Utf8.encode
result_utf8 None h = (codes "void", (refl, refl))
result_utf8 (Some ty) h = type_utf8 ty h

comma_utf8 : IsUtf8 (codes ",")
unfolding lib.Utf8.encode
comma_utf8 = (codes ",", (refl, refl))

behind_utf8 : (types : List FieldType) → AllByRecursion IsFieldTypeValue types
    → IsUtf8 (flat_map (λ ty. codes "," ++ external_text ty) types)
behind_utf8 [] h = IsUtf8-nil
behind_utf8 (ty ∷ types) h =
    IsUtf8-append (codes "," ++ external_text ty) (flat_map (λ t. codes "," ++ external_text t) types)
    (IsUtf8-append (codes ",") (external_text ty) comma_utf8 (type_utf8 ty h.0)) (behind_utf8 types h.1)

arguments_utf8 : (types : List FieldType) → AllByRecursion IsFieldTypeValue types → IsUtf8 (arguments_text types)
arguments_utf8 [] h = IsUtf8-nil
arguments_utf8 (ty ∷ types) h =
    IsUtf8-append (external_text ty) (flat_map (λ t. codes "," ++ external_text t) types) (type_utf8 ty h.0)
    (behind_utf8 types h.1)

-- ---- what stands between

arrow_utf8 : IsUtf8 (codes " -> ")
unfolding lib.Utf8.encode
arrow_utf8 = (codes " -> ", (refl, refl))

colon_utf8 : IsUtf8 (codes ":")
unfolding lib.Utf8.encode
colon_utf8 = (codes ":", (refl, refl))

pub blank_utf8 : IsUtf8 (codes " ")
unfolding lib.Utf8.encode
blank_utf8 = (codes " ", (refl, refl))

blanks_utf8 : IsUtf8 (codes "    ")
unfolding lib.Utf8.encode
blanks_utf8 = (codes "    ", (refl, refl))

open_utf8 : IsUtf8 (codes "(")
unfolding lib.Utf8.encode
open_utf8 = (codes "(", (refl, refl))

close_utf8 : IsUtf8 (codes ")")
unfolding lib.Utf8.encode
close_utf8 = (codes ")", (refl, refl))

number_utf8 : (n : ℕ) → n < 65536 → IsUtf8 (decimal n)
number_utf8 n small = IsUtf8-from_ascii (decimal n) (IsAscii-decimal n (omega (arith, small)))

range_utf8 : (range : Option Range) → IfSome range IsRange → IsUtf8 (range_text range)
range_utf8 None h = IsUtf8-nil
range_utf8 (Some r) h =
    IsUtf8-append (decimal r.first) (codes ":" ++ (decimal r.last ++ codes ":")) (number_utf8 r.first h.0)
    (IsUtf8-append (codes ":") (decimal r.last ++ codes ":") colon_utf8
    (IsUtf8-append (decimal r.last) (codes ":") (number_utf8 r.last h.1) colon_utf8))

-- ---- lines

pub class_line_utf8 : (old new : List ℕ) → IsUtf8 old → IsUtf8 new → IsUtf8 (class_line_text old new)
class_line_utf8 old new h k =
    IsUtf8-append (dotted old) (codes " -> " ++ (dotted new ++ codes ":")) (dotted_utf8 old h)
    (IsUtf8-append (codes " -> ") (dotted new ++ codes ":") arrow_utf8
    (IsUtf8-append (dotted new) (codes ":") (dotted_utf8 new k) colon_utf8))

pub field_line_utf8 : (f : MapField) → IsFieldTypeValue f.ty → IsUtf8 f.old → IsUtf8 f.new
    → IsUtf8 (field_line_text f)
field_line_utf8 f ty old new =
    IsUtf8-append (codes "    ") (external_text f.ty ++ (codes " " ++ (f.old ++ (codes " -> " ++ f.new)))) blanks_utf8
    (IsUtf8-append (external_text f.ty) (codes " " ++ (f.old ++ (codes " -> " ++ f.new))) (type_utf8 f.ty ty)
    (IsUtf8-append (codes " ") (f.old ++ (codes " -> " ++ f.new)) blank_utf8
    (IsUtf8-append f.old (codes " -> " ++ f.new) old (IsUtf8-append (codes " -> ") f.new arrow_utf8 new))))

pub member_utf8 : (ty : MethodType) (name : List ℕ) → IsMethodTypeValue ty → IsUtf8 name → IsUtf8 (method_text ty name)
member_utf8 ty name value text =
    IsUtf8-append (result_text ty.ret) (codes " " ++ (name ++ (codes "(" ++ (arguments_text ty.args ++ codes ")"))))
    (result_utf8 ty.ret value.returned)
    (IsUtf8-append (codes " ") (name ++ (codes "(" ++ (arguments_text ty.args ++ codes ")"))) blank_utf8
    (IsUtf8-append name (codes "(" ++ (arguments_text ty.args ++ codes ")")) text
    (IsUtf8-append (codes "(") (arguments_text ty.args ++ codes ")") open_utf8
    (IsUtf8-append (arguments_text ty.args) (codes ")") (arguments_utf8 ty.args value.arguments) close_utf8))))

pub method_line_utf8 : (m : MapMethod) → IfSome m.lines IsRange → IsMethodTypeValue m.ty → IsUtf8 m.old → IsUtf8 m.new
    → IsUtf8 (method_line_text m)
method_line_utf8 m lines ty old new =
    IsUtf8-append (codes "    ") (range_text m.lines ++ (method_text m.ty m.old ++ (codes " -> " ++ m.new))) blanks_utf8
    (IsUtf8-append (range_text m.lines) (method_text m.ty m.old ++ (codes " -> " ++ m.new)) (range_utf8 m.lines lines)
    (IsUtf8-append (method_text m.ty m.old) (codes " -> " ++ m.new) (member_utf8 m.ty m.old ty old)
    (IsUtf8-append (codes " -> ") m.new arrow_utf8 new)))

-- The descriptor of each row of the library is read as the row's type.
use Rattle.std.proofs.Common.{◌≡◌, ◌≤◌, Bool, true, false, [], ◌∷◌, Option, Some, None, Ok, refl, arith}
use Rattle.std.proofs.Common.{if◌then◌else◌, ◌==◌, ◌&&◌}
use Rattle.std.specs.Prelude.{IfSome}
use Rattle.jv_base.specs.Descriptors.{read_method}
use Rattle.jv_base.specs.Names.{is_class_name, is_member_name, is_name_byte, is_primitive_or_void}
use Rattle.jv_base.specs.Types.{IsBase, IsFieldType, IsMethodType, argument_words, is_wide_base, method_text, words_of}
use Rattle.jv_base.specs.declared.types.Base.{Base}
use Rattle.jv_base.specs.declared.types.Base.TheVariants as base
use Rattle.jv_base.specs.declared.types.FieldType.{FieldType}
use Rattle.jv_base.specs.declared.types.MethodType.{MethodType}
use Rattle.jv_base.proofs.MethodLaw.{read_method-only}
use Rattle.jvm_model.specs.Heap.{string, string_builder}
use Rattle.jvm_model.specs.Library.{AsBoolean, AsChar, AsInt, AsLong, AsString, BuilderAppend, BuilderInit}
use Rattle.jvm_model.specs.Library.{BuilderInitWith, BuilderLength, BuilderToString, EndLine, GetCause, GetMessage}
use Rattle.jvm_model.specs.Library.{ObjectEquals, ObjectInit, Print, PrintLine, Row, StringBetween, StringCharAt}
use Rattle.jvm_model.specs.Library.{StringCompareTo, StringEquals, StringFrom, StringHashCode, StringIsEmpty}
use Rattle.jvm_model.specs.Library.{StringLength, StringToString, StringValueOf, ThrowableInit, ThrowableInitFrom}
use Rattle.jvm_model.specs.Library.{ThrowableInitWith, Told}
use Rattle.type_verifier.specs.Assignable.{class_type}
use Rattle.fit_laws.specs.RowTypes.{exception, object, plain, row_parameters, row_result, told}

-- the type of a row
abbrev pub row_type : Row → MethodType
row_type row = record { args = row_parameters row; ret = row_result row }

-- ---- its parts

plain_is : (b : Base) → IsBase b → IsFieldType (plain b)
plain_is b is = record { dimensions = omega arith; named = is }

object_is : IsFieldType (class_type object)
unfolding is_class_name is_member_name is_name_byte is_primitive_or_void
object_is = record { dimensions = omega arith; named = refl }

string_is : IsFieldType (class_type string)
unfolding is_class_name is_member_name is_name_byte is_primitive_or_void
string_is = record { dimensions = omega arith; named = refl }

string_builder_is : IsFieldType (class_type string_builder)
unfolding is_class_name is_member_name is_name_byte is_primitive_or_void
string_builder_is = record { dimensions = omega arith; named = refl }

exception_is : IsFieldType (class_type exception)
unfolding is_class_name is_member_name is_name_byte is_primitive_or_void
exception_is = record { dimensions = omega arith; named = refl }

told_is : (ty : Told) → IsFieldType (told ty)
told_is AsInt = plain_is base.Int tt
told_is AsLong = plain_is base.Long tt
told_is AsChar = plain_is base.Char tt
told_is AsBoolean = plain_is base.Boolean tt
told_is AsString = string_is

-- ---- its words

words_low : (ty : FieldType) → words_of ty ≤ 2
unfolding words_of
words_low ty = by (ty.dims == 0 && is_wide_base ty.base) where
  by : (b : Bool) → (if b then 2 else 1) ≤ 2
  by true = omega arith
  by false = omega arith

none_is : (ret : Option FieldType) → IfSome ret IsFieldType → IsMethodType (record { args = []; ret = ret })
unfolding argument_words
none_is ret r = record { arguments = tt; words = omega arith; returned = r }

one_is : (a : FieldType) (ret : Option FieldType) → IsFieldType a → IfSome ret IsFieldType
    → IsMethodType (record { args = a ∷ []; ret = ret })
unfolding argument_words
one_is a ret p r = record {
  arguments = (p, tt);
  words = let low = words_low a in omega (arith, low);
  returned = r;
}

two_is : (a b : FieldType) (ret : Option FieldType) → IsFieldType a → IsFieldType b → IfSome ret IsFieldType
    → IsMethodType (record { args = a ∷ b ∷ []; ret = ret })
unfolding argument_words
two_is a b ret p q r = record {
  arguments = (p, (q, tt));
  words = let low = words_low a in let other = words_low b in omega (arith, low, other);
  returned = r;
}

-- ---- row by row

row_is : (row : Row) → IsMethodType (row_type row)
row_is ObjectInit = none_is None tt
row_is ObjectEquals = one_is (class_type object) (Some (plain base.Boolean)) object_is (plain_is base.Boolean tt)
row_is StringLength = none_is (Some (plain base.Int)) (plain_is base.Int tt)
row_is StringCharAt = one_is (plain base.Int) (Some (plain base.Char)) (plain_is base.Int tt) (plain_is base.Char tt)
row_is StringEquals = one_is (class_type object) (Some (plain base.Boolean)) object_is (plain_is base.Boolean tt)
row_is StringHashCode = none_is (Some (plain base.Int)) (plain_is base.Int tt)
row_is StringIsEmpty = none_is (Some (plain base.Boolean)) (plain_is base.Boolean tt)
row_is StringFrom = one_is (plain base.Int) (Some (class_type string)) (plain_is base.Int tt) string_is
row_is StringBetween = two_is (plain base.Int) (plain base.Int) (Some (class_type string)) (plain_is base.Int tt)
    (plain_is base.Int tt) string_is
row_is StringCompareTo = one_is (class_type string) (Some (plain base.Int)) string_is (plain_is base.Int tt)
row_is StringToString = none_is (Some (class_type string)) string_is
row_is (StringValueOf ty) = one_is (told ty) (Some (class_type string)) (told_is ty) string_is
row_is BuilderInit = none_is None tt
row_is BuilderInitWith = one_is (class_type string) None string_is tt
row_is (BuilderAppend ty) = one_is (told ty) (Some (class_type string_builder)) (told_is ty) string_builder_is
row_is BuilderLength = none_is (Some (plain base.Int)) (plain_is base.Int tt)
row_is BuilderToString = none_is (Some (class_type string)) string_is
row_is (Print ty) = one_is (told ty) None (told_is ty) tt
row_is (PrintLine ty) = one_is (told ty) None (told_is ty) tt
row_is EndLine = none_is None tt
row_is ThrowableInit = none_is None tt
row_is ThrowableInitWith = one_is (class_type string) None string_is tt
row_is ThrowableInitFrom = two_is (class_type string) (class_type exception) None string_is exception_is tt
row_is GetMessage = none_is (Some (class_type string)) string_is
row_is GetCause = none_is (Some (class_type exception)) exception_is

pub row_reads : (row : Row) → read_method (method_text (row_type row)) ≡ Ok (row_type row)
row_reads row = read_method-only (method_text (row_type row)) (row_type row) (row_is row, refl)

-- Descriptors of fields and methods (JVMS 4.3).
use Rattle.std.specs.Prelude.{ℕ, ◌≤◌, ◌&&◌, ◌==◌, Bool, true, false, List, ◌++◌, IsTrue, Option, Some, None, IfSome}
use Rattle.std.specs.Prelude.{if◌then◌else◌, replicate, codes}
use Rattle.std.specs.List.{AllByRecursion, flat_map, sum_by}
use Rattle.jv_base.specs.Names.{is_class_name}
use Rattle.jv_base.specs.declared.types.Base.{Base}
use Rattle.jv_base.specs.declared.types.Base.TheVariants.{Boolean, Byte, Char, Short, Int, Long, Float, Double, Class}
use Rattle.jv_base.specs.declared.types.FieldType.{FieldType}
use Rattle.jv_base.specs.declared.types.MethodType.{MethodType}

-- a base type's letter, or L, the class name and a semicolon (JVMS 4.3.2)
unfoldable pub base_text : Base → List ℕ
base_text Boolean = codes "Z"
base_text Byte = codes "B"
base_text Char = codes "C"
base_text Short = codes "S"
base_text Int = codes "I"
base_text Long = codes "J"
base_text Float = codes "F"
base_text Double = codes "D"
base_text (Class name) = codes "L" ++ (name ++ codes ";")

-- a `[` for each dimension, and then the base type (JVMS 4.3.2)
unfoldable pub field_text : FieldType → List ℕ
field_text ty = replicate ty.dims 91 ++ base_text ty.base

-- the result's type, or V where there is none (JVMS 4.3.3)
unfoldable pub result_text : Option FieldType → List ℕ
result_text None = codes "V"
result_text (Some ty) = field_text ty

-- the parameters' types in parentheses, and then the result's (JVMS 4.3.3)
unfoldable pub method_text : MethodType → List ℕ
method_text ty = codes "(" ++ (flat_map field_text ty.args ++ (codes ")" ++ result_text ty.ret))

-- a long or a double takes two words (JVMS 4.3.3)
abbrev pub is_wide_base : Base → Bool
is_wide_base Long = true
is_wide_base Double = true
is_wide_base _ = false

-- how many words an argument of this type takes (JVMS 4.3.3)
unfoldable pub words_of : FieldType → ℕ
words_of ty = if ty.dims == 0 && is_wide_base ty.base then 2 else 1

-- how many words the arguments take, `this` aside (JVMS 4.3.3)
unfoldable pub argument_words : List FieldType → ℕ
argument_words args = sum_by words_of args

-- a class is named by a class name (JVMS 4.3.2)
abbrev pub IsBase : Base → Type 0
IsBase (Class name) = IsTrue (is_class_name name)
IsBase _ = Unit {0}

-- the type has a descriptor (JVMS 4.3.2, 4.4.1)
pub record IsFieldType (ty : FieldType) : Type 0 where
  pub dimensions : ty.dims ≤ 255
  pub named : IsBase ty.base

-- the type has a descriptor (JVMS 4.3.3)
pub record IsMethodType (ty : MethodType) : Type 0 where
  pub arguments : AllByRecursion IsFieldType ty.args
  pub words : argument_words ty.args ≤ 255
  pub returned : IfSome ty.ret IsFieldType

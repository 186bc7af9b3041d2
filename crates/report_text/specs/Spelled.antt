-- Classes and members in texts: names with dots (JLS 13.1), types as Java source spells them, members as a mapping file
-- has them (ProGuard manual, ReTrace, the mapping file).
use Rattle.std.specs.Prelude.{ℕ, List, ◌++◌, Option, Some, None, codes, map}
use Rattle.std.specs.List.{join_by}
use Rattle.jv_base.specs.External.{dotted, external_text}
use Rattle.jv_base.specs.declared.types.FieldType.{FieldType}
use Rattle.class_model.specs.declared.class.Class.{Class}
use Rattle.class_model.specs.declared.class.Field.{Field}
use Rattle.class_model.specs.declared.class.Method.{Method}

-- the name of a class with dots in place of slashes (JLS 13.1)
abbrev pub class_text : Class → List ℕ
class_text c = dotted c.name

-- a type and a name (ProGuard manual, ReTrace, the mapping file)
abbrev pub field_text : Field → List ℕ
field_text f = external_text f.ty ++ codes " " ++ f.name

-- the type of what a method gives, `void` where it gives nothing (JLS 8.4.5)
abbrev pub result_text : Option FieldType → List ℕ
result_text None = codes "void"
result_text (Some ty) = external_text ty

-- the result's type, a name, and the parameters' types in parentheses, a comma between two
-- (ProGuard manual, ReTrace, the mapping file)
abbrev pub method_text : Method → List ℕ
method_text m = result_text m.ty.ret ++ codes " " ++ m.name ++ codes "(" ++ join_by external_text
    (codes ",") m.ty.args ++ codes ")"

-- the members of a class in the order of their numbers: fields first, then methods
-- (the project's own: a member is told by its number)
abbrev pub member_texts : Class → List (List ℕ)
member_texts c = map field_text c.fields ++ map method_text c.methods

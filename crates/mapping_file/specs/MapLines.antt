-- The lines of a mapping file and what they say (ProGuard manual, "ReTrace", the mapping file).
use Rattle.std.specs.Prelude.{◌≡◌, ℕ, ◌<◌, List, [], ◌++◌, Option, Some, None, IsTrue, IfSome, codes}
use Rattle.std.specs.Fmt.{decimal}
use Rattle.jv_base.specs.External.{dotted, external_text}
use Rattle.jv_base.specs.Names.{is_class_name, is_member_name, is_method_name}
use Rattle.jv_base.specs.Types.{IsFieldType, IsMethodType}
use Rattle.text_lines.specs.Members.{method_text}
use Rattle.mapping_file.specs.declared.line.MapLine.{MapLine}
use Rattle.mapping_file.specs.declared.line.MapLine.TheVariants as line
use Rattle.mapping_file.specs.declared.mapping.MapField.{MapField}
use Rattle.mapping_file.specs.declared.mapping.MapMethod.{MapMethod}
use Rattle.mapping_file.specs.declared.mapping.Range.{Range}

-- `old -> new:`
abbrev pub class_line_text : List ℕ → List ℕ → List ℕ
class_line_text old new = dotted old ++ (codes " -> " ++ (dotted new ++ codes ":"))

-- `    type old -> new`
abbrev pub field_line_text : MapField → List ℕ
field_line_text f = codes "    " ++ (external_text f.ty ++ (codes " " ++ (f.old ++ (codes " -> " ++ f.new))))

-- `first:last:`, where lines are told
abbrev pub range_text : Option Range → List ℕ
range_text None = []
range_text (Some r) = decimal r.first ++ (codes ":" ++ (decimal r.last ++ codes ":"))

-- `    type old(types) -> new`, with lines before the type where they are told
abbrev pub method_line_text : MapMethod → List ℕ
method_line_text m = codes "    " ++ (range_text m.lines ++ (method_text m.ty m.old ++ (codes " -> " ++ m.new)))

-- the text of a line, without its end
unfoldable pub line_text : MapLine → List ℕ
line_text (line.Class old new) = class_line_text old new
line_text (line.Field f) = field_line_text f
line_text (line.Method m) = method_line_text m

-- line numbers are those of a LineNumberTable (JVMS 4.7.12)
abbrev pub IsRange : Range → Type 0
IsRange r = (r.first < 65536) × (r.last < 65536)

-- a field has a type and names (JVMS 4.2.2, 4.3.2)
pub record IsField (f : MapField) : Type 0 where
  pub typed : IsFieldType f.ty
  pub old : IsTrue (is_member_name f.old)
  pub new : IsTrue (is_member_name f.new)

-- a method has a type and names, and lines where they are told (JVMS 4.2.2, 4.3.3)
pub record IsMethod (m : MapMethod) : Type 0 where
  pub lines : IfSome m.lines IsRange
  pub typed : IsMethodType m.ty
  pub old : IsTrue (is_method_name m.old)
  pub new : IsTrue (is_method_name m.new)

-- what a line says has a spelling
abbrev pub IsLine : MapLine → Type 0
IsLine (line.Class old new) = IsTrue (is_class_name old) × IsTrue (is_class_name new)
IsLine (line.Field f) = IsField f
IsLine (line.Method m) = IsMethod m

-- the text is the line's spelling
abbrev pub SpellsLine : List ℕ → MapLine → Type 0
SpellsLine text l = IsLine l × (text ≡ line_text l)

-- Mapping files and mappings (ProGuard manual, "ReTrace", the mapping file; that no class stands twice is the project's
-- own).
use Rattle.std.specs.Prelude.{◌≡◌, ◌≢◌, ℕ, List, [], ◌∷◌, ◌++◌, map, Option, Some, None}
use Rattle.std.specs.List.{AllByRecursion, filter_map, flat_map}
use Rattle.std.specs.Str.{IsUtf8}
use Rattle.std.specs.Str.Lines.{lines}
use Rattle.text_lines.specs.Lines.{AreSpelled}
use Rattle.mapping_file.specs.MapLines.{IsLine, SpellsLine, line_text}
use Rattle.mapping_file.specs.declared.line.MapLine.{MapLine}
use Rattle.mapping_file.specs.declared.line.MapLine.TheVariants as line
use Rattle.mapping_file.specs.declared.mapping.MapClass.{MapClass}
use Rattle.mapping_file.specs.declared.mapping.MapField.{MapField}
use Rattle.mapping_file.specs.declared.mapping.MapMethod.{MapMethod}
use Rattle.mapping_file.specs.declared.mapping.Mapping.{Mapping}

-- ---- what lines tell

-- the field of a field's line
abbrev pub field_in : MapLine → Option MapField
field_in (line.Field f) = Some f
field_in _ = None

-- the method of a method's line
abbrev pub method_in : MapLine → Option MapMethod
method_in (line.Method m) = Some m
method_in _ = None

-- the line is a member's
abbrev pub IsMember : MapLine → Type 0
IsMember (line.Class old new) = ⊥
IsMember _ = Unit {0}

-- the lines are those of a class's members: fields and methods each in their order, mixed in any way
pub record TellMembers (ls : List MapLine) (c : MapClass) : Type 0 where
  pub members : AllByRecursion IsMember ls
  pub fields : filter_map field_in ls ≡ c.fields
  pub methods : filter_map method_in ls ≡ c.methods

-- the lines are those of classes: of each its own, and behind it those of its members
abbrev pub TellClasses : List MapLine → List MapClass → Type 0
TellClasses ls [] = ls ≡ []
TellClasses ls (c ∷ cs) = (members : List MapLine) × (others : List MapLine)
    × (ls ≡ line.Class c.old c.new ∷ (members ++ others)) × TellMembers members c × TellClasses others cs

-- the classes have other names, old and new
abbrev pub HasOtherNames : MapClass → MapClass → Type 0
HasOtherNames c d = (c.old ≢ d.old) × (c.new ≢ d.new)

-- no two of the classes have one name
abbrev pub AreApart : List MapClass → Type 0
AreApart [] = Unit {0}
AreApart (c ∷ cs) = AllByRecursion (HasOtherNames c) cs × AreApart cs

-- the lines are those of a mapping file that stands for the mapping
pub record StandFor (ls : List (List ℕ)) (m : Mapping) : Type 0 where
  pub told : List MapLine
  pub spelled : AreSpelled SpellsLine ls told
  pub classes : TellClasses told m.classes
  pub apart : AreApart m.classes

-- the text is a mapping file that stands for the mapping
abbrev pub Reading : List ℕ → Mapping → Type 0
Reading text m = StandFor (lines text) m

-- ---- how a mapping is written

-- the lines of a class: its own, then those of its fields, then those of its methods
abbrev pub class_lines : MapClass → List MapLine
class_lines c = line.Class c.old c.new ∷ (map (λ f. line.Field f) c.fields ++ map (λ m. line.Method m) c.methods)

-- a line with its end
abbrev pub ended_line : MapLine → List ℕ
ended_line l = line_text l ++ 10 ∷ []

-- the lines of each class, one behind the other
unfoldable pub mapping_text : Mapping → List ℕ
mapping_text m = flat_map (λ c. flat_map ended_line (class_lines c)) m.classes

-- the line has a spelling in UTF-8
abbrev pub IsTextLine : MapLine → Type 0
IsTextLine l = IsLine l × IsUtf8 (line_text l)

-- the mapping has a text: each of its lines has one, and no two classes have one name
pub record IsMapping (m : Mapping) : Type 0 where
  pub named : AllByRecursion (λ c. AllByRecursion IsTextLine (class_lines c)) m.classes
  pub apart : AreApart m.classes

-- ---- the laws

-- a text stands for one mapping at most
abbrev pub IsOneMapping : Type 0
IsOneMapping = (text : List ℕ) (m n : Mapping) → Reading text m → Reading text n → m ≡ n

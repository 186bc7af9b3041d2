-- The mapping that a text stands for, read line by line, or the first line at fault (ProGuard manual, "ReTrace", the
-- mapping file; the kinds of faults are the project's own).
use Rattle.std.specs.Prelude.{◌≡◌, ℕ, ◌||◌, Bool, List, [], ◌∷◌, ◌++◌, Option, Some, None, Result, Ok, Err}
use Rattle.std.specs.Prelude.{if◌then◌else◌}
use Rattle.std.specs.List.{list_any}
use Rattle.std.specs.Option.{option_to_list}
use Rattle.std.specs.Str.Lines.{lines}
use Rattle.jv_base.specs.Names.{is_text}
use Rattle.jv_base.specs.Outcome.{◌>>=◌}
use Rattle.text_lines.specs.Faults.{IsFirstAtFault}
use Rattle.text_lines.specs.Lines.{line_step, read_lines}
use Rattle.mapping_file.specs.LineReading.{line_said}
use Rattle.mapping_file.specs.Mappings.{StandFor}
use Rattle.mapping_file.specs.declared.line.MapLine.{MapLine}
use Rattle.mapping_file.specs.declared.line.MapLine.TheVariants as line
use Rattle.mapping_file.specs.declared.mapping.MapClass.{MapClass}
use Rattle.mapping_file.specs.declared.mapping.MapFault.{MapFault}
use Rattle.mapping_file.specs.declared.mapping.MapField.{MapField}
use Rattle.mapping_file.specs.declared.mapping.MapKind.{MapKind}
use Rattle.mapping_file.specs.declared.mapping.MapKind.TheVariants.{NotUtf8, BadLine, NoClass, Repeated}
use Rattle.mapping_file.specs.declared.mapping.MapMethod.{MapMethod}
use Rattle.mapping_file.specs.declared.mapping.Mapping.{Mapping}
use Rattle.mapping_file.specs.declared.reading.ClassesRead.{ClassesRead}

-- what was read: classes, and the last one, to which members may be added
abbrev pub all_classes : ClassesRead → List MapClass
all_classes r = r.before ++ option_to_list r.last

-- a class has one of these names
abbrev pub has_name : List MapClass → List ℕ → List ℕ → Bool
has_name cs old new = list_any (λ c. is_text old c.old) cs || list_any (λ c. is_text new c.new) cs

-- a class without members yet
abbrev pub empty_class : List ℕ → List ℕ → MapClass
empty_class old new = record { old = old; new = new; fields = []; methods = [] }

-- the class with one more field
abbrev pub with_field : MapField → MapClass → MapClass
with_field f c = record c { fields = c.fields ++ f ∷ [] }

-- the class with one more method
abbrev pub with_method : MapMethod → MapClass → MapClass
with_method m c = record c { methods = c.methods ++ m ∷ [] }

-- the last class changed; there must be one
abbrev pub in_last : List MapClass → Option MapClass → (MapClass → MapClass) → Result ClassesRead MapKind
in_last before None change = Err NoClass
in_last before (Some c) change = Ok (record { before = before; last = Some (change c) })

-- what was read, with what a line says
abbrev pub with_line : MapLine → ClassesRead → Result ClassesRead MapKind
with_line (line.Class old new) r = if has_name (all_classes r) old new then Err Repeated
    else Ok (record { before = all_classes r; last = Some (empty_class old new) })
with_line (line.Field f) r = in_last r.before r.last (with_field f)
with_line (line.Method m) r = in_last r.before r.last (with_method m)

-- a kind of fault at a line
abbrev pub fault : ℕ → MapKind → MapFault
fault n kind = record { line = n; kind = kind }

-- what the line of this number makes of what was read before it
abbrev pub step : ℕ → List ℕ → ClassesRead → Result ClassesRead MapFault
step = line_step fault NotUtf8 BadLine line_said with_line

-- nothing was read yet
abbrev pub nothing : ClassesRead
nothing = record { before = []; last = None }

-- the mapping that the text stands for, or the first line at fault and the kind
unfoldable pub read_mapping : List ℕ → Result Mapping MapFault
read_mapping text = read_lines step 1 (lines text) nothing >>= (λ r. Ok (record { classes = all_classes r }))

-- ---- the law

-- the line that is told is the first at fault
abbrev pub IsFirstFault : Type 0
IsFirstFault = (text : List ℕ) (f : MapFault) → read_mapping text ≡ Err f → IsFirstAtFault StandFor (lines text) f.line

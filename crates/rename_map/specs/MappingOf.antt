-- The mapping of classes to their new names (ProGuard manual, "-printmapping").
use Rattle.std.specs.Prelude.{ℕ, Bool, List, [], ◌∷◌, map, min, max, Option, Some, None, if◌then◌else◌}
use Rattle.std.specs.List.{filter_map, fold}
use Rattle.std.specs.Option.{option_and_then}
use Rattle.jv_base.specs.Types.{method_text}
use Rattle.class_model.specs.declared.class.Class.{Class}
use Rattle.class_model.specs.declared.class.Field.{Field}
use Rattle.class_model.specs.declared.class.Method.{Method}
use Rattle.class_model.specs.declared.code.Code.{Code}
use Rattle.class_model.specs.declared.code.Ins.{Ins}
use Rattle.mapping_file.specs.declared.mapping.MapClass.{MapClass}
use Rattle.mapping_file.specs.declared.mapping.MapField.{MapField}
use Rattle.mapping_file.specs.declared.mapping.MapMethod.{MapMethod}
use Rattle.mapping_file.specs.declared.mapping.Mapping.{Mapping}
use Rattle.mapping_file.specs.declared.mapping.Range.{Range}
use Rattle.class_rename.specs.Names.{Names}

-- a range that has one line more
abbrev pub widened : Range → ℕ → Range
widened r line = record { first = min r.first line; last = max r.last line }

-- from the least to the greatest of some lines, if there are any (the project's own: one range for a method)
abbrev pub range_of : List ℕ → Option Range
range_of [] = None
range_of (line ∷ lines) = Some (fold widened (record { first = line; last = line }) lines)

-- the lines of a code (JVMS 4.7.12)
abbrev pub lines_of : Code → List ℕ
lines_of code = filter_map (λ (i : Ins). i.line) code.ins

module _ (names : Names) where
  -- a field with its new name; its type names classes as before (ProGuard manual, "ReTrace")
  abbrev pub field_line : Field → MapField
  field_line f = record { ty = f.ty; old = f.name; new = names.field f.name }

  module _ (lines : Bool) where
    -- a method with its new name, and the lines of its code where lines are kept and it has any
    abbrev pub method_line : Method → MapMethod
    method_line m = record {
      lines = if lines then option_and_then (λ code. range_of (lines_of code)) m.code else None;
      ty = m.ty;
      old = m.name;
      new = names.method m.name (method_text m.ty);
    }

    -- a class with its new name, its fields and its methods
    abbrev pub class_lines : Class → MapClass
    class_lines c = record {
      old = c.name;
      new = names.class c.name;
      fields = map field_line c.fields;
      methods = map method_line c.methods;
    }

    -- all classes, in their order
    abbrev pub mapping_of : List Class → Mapping
    mapping_of classes = record { classes = map class_lines classes }

-- Classes with those of their optional attributes that are kept (ProGuard manual, "-keepattributes").
use Rattle.std.specs.Prelude.{ℕ, ◌&&◌, if◌then◌else◌, List, [], map, Option, None, option_map}
use Rattle.std.specs.Option.{option_map_or}
use Rattle.jv_base.specs.Utf16.{units_of}
use Rattle.class_model.specs.declared.code.Ins.{Ins}
use Rattle.class_model.specs.declared.code.Code.{Code}
use Rattle.class_model.specs.declared.class.Field.{Field}
use Rattle.class_model.specs.declared.class.Method.{Method}
use Rattle.class_model.specs.declared.class.Class.{Class}
use Rattle.attribute_filter.specs.declared.filter.AttributeFilter.{AttributeFilter}

-- ---- members

-- an instruction of a code without LineNumberTable (JVMS 4.7.12)
abbrev pub without_line : Ins → Ins
without_line i = record i { line = None }

-- a code without LineNumberTable (JVMS 4.7.12)
abbrev pub without_lines : Code → Code
without_lines code = record code { ins = map without_line code.ins }

-- a code with its LineNumberTable where it is kept (JVMS 4.7.12)
abbrev pub code_kept : AttributeFilter → Option Code → Option Code
code_kept filter code = if filter.line_numbers then code else option_map without_lines code

-- the classes that Exceptions names, where it is kept (JVMS 4.7.5)
abbrev pub throws_kept : AttributeFilter → List (List ℕ) → List (List ℕ)
throws_kept filter throws = if filter.exceptions then throws else []

-- a field with Synthetic and Deprecated where they are kept; its flags stay, ACC_SYNTHETIC among them
-- (JVMS 4.5, 4.7.8 and 4.7.15)
abbrev pub field_filtered : AttributeFilter → Field → Field
field_filtered filter field = record field {
  synthetic = filter.synthetic && field.synthetic;
  deprecated = filter.deprecated && field.deprecated;
}

-- a method with Exceptions, Synthetic and Deprecated, and its code with lines, where these are kept
-- (JVMS 4.7.5, 4.7.8, 4.7.12 and 4.7.15)
abbrev pub method_filtered : AttributeFilter → Method → Method
method_filtered filter m = record m {
  code = code_kept filter m.code;
  throws = throws_kept filter m.throws;
  synthetic = filter.synthetic && m.synthetic;
  deprecated = filter.deprecated && m.deprecated;
}

-- ---- classes

-- what a SourceFile holds: the name that all get, else its own (ProGuard manual, "-renamesourcefileattribute")
abbrev pub source_named : AttributeFilter → List ℕ → List ℕ
source_named filter own = option_map_or units_of filter.source_name own

-- the name of the source file, where there is a SourceFile and it is kept (JVMS 4.7.10)
abbrev pub source_kept : AttributeFilter → Option (List ℕ) → Option (List ℕ)
source_kept filter source = if filter.source_file then option_map (source_named filter) source else None

-- a class with SourceFile where it is kept (JVMS 4.7.10)
abbrev pub source_filtered : AttributeFilter → Class → Class
source_filtered filter c = record c { source = source_kept filter c.source }

-- a class with Synthetic and Deprecated where they are kept, and its members with theirs (JVMS 4.7.8 and 4.7.15)
abbrev pub members_filtered : AttributeFilter → Class → Class
members_filtered filter c = record c {
  fields = map (field_filtered filter) c.fields;
  methods = map (method_filtered filter) c.methods;
  synthetic = filter.synthetic && c.synthetic;
  deprecated = filter.deprecated && c.deprecated;
}

-- a class with its optional attributes where they are kept (ProGuard manual, "-keepattributes")
abbrev pub filtered : AttributeFilter → Class → Class
filtered filter c = members_filtered filter (source_filtered filter c)

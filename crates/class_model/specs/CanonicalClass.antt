-- The canonical spelling of a class (JVMS 4; which of its spellings it is, is the project's own).
use Rattle.std.specs.Prelude.{ℕ, ◌+◌, Bool, true, not, List, [], ◌∷◌, ◌++◌, length, map, slice_index, codes, Option}
use Rattle.std.specs.Prelude.{Some, None, nat_eq, ◌==◌, if◌then◌else◌}
use Rattle.std.specs.Int.{w16, to_be_bytes}
use Rattle.std.specs.List.{flat_map}
use Rattle.jv_base.specs.Utf16.{units_of}
use Rattle.jv_base.specs.Types.{field_text, method_text}
use Rattle.class_model.specs.declared.code.Code.{Code}
use Rattle.class_model.specs.declared.code.Ins.{Ins}
use Rattle.class_model.specs.declared.code.Handler.{Handler}
use Rattle.class_model.specs.declared.frame.VType.{VType}
use Rattle.class_model.specs.declared.class.Constant.{Constant}
use Rattle.class_model.specs.declared.class.Constant.TheVariants as constant
use Rattle.class_model.specs.declared.class.Field.{Field}
use Rattle.class_model.specs.declared.class.Method.{Method}
use Rattle.class_model.specs.declared.class.Class.{Class}
use Rattle.class_model.specs.Structure.{AttributeInfo, MemberInfo, ExceptionInfo, CodeInfo, code_info}
use Rattle.class_model.specs.Flags.{is_static}
use Rattle.class_model.specs.Frames.{initial_locals, stack_map_table}
use Rattle.class_model.specs.LineNumbers.{LineNumber, line_number}
use Rattle.class_model.specs.ClassFile.{ClassFile, class_file}
use Rattle.class_model.specs.declared.constant.PoolConstant.{PoolConstant}
use Rattle.class_model.specs.declared.constant.PoolConstant.TheVariants.{Utf8, Integer, Long, Str}
use Rattle.class_model.specs.CanonicalPool.{text_constants, class_constant, class_constants, string_constants}
use Rattle.class_model.specs.CanonicalPool.{long_constants, filled, index_of, infos_of}
use Rattle.class_model.specs.CanonicalCode.{places, code_bytes, pushed_constants, op_constants}
use Rattle.class_model.specs.CanonicalFrames.{frame_constants, rows}

-- ---- constants, in the order of the file (the project's own: one order for each class)

-- the code of a method that has one, none of an abstract one (JVMS 4.7.3)
abbrev pub code_in : Option Code → List Code
code_in (Some code) = code ∷ []
code_in None = []

-- the codes of all methods that have one, in the order of the methods
abbrev pub codes_of_methods : List Method → List Code
codes_of_methods [] = []
codes_of_methods (m ∷ methods) = code_in m.code ++ codes_of_methods methods

-- the constants that are pushed, over all methods and instructions
abbrev pub class_pushes : List Method → List PoolConstant
class_pushes methods = flat_map (λ (code : Code). flat_map (λ (i : Ins). pushed_constants i.op) code.ins)
    (codes_of_methods methods)

-- the name of an attribute that is written, and what its contents want
abbrev pub attribute_constants : Bool → List ℕ → List PoolConstant → List PoolConstant
attribute_constants written name contents = if written then text_constants name ++ contents else []

-- the table has a row, without which its attribute isn't written
abbrev pub is_some_item : {A : Type 0} → List A → Bool
is_some_item xs = not (length xs == 0)

-- Synthetic and Deprecated (JVMS 4.7.8, 4.7.15)
abbrev pub mark_constants : Bool → Bool → List PoolConstant
mark_constants synthetic deprecated =
    attribute_constants synthetic (codes "Synthetic") [] ++ attribute_constants deprecated (codes "Deprecated") []

-- what constantvalue_index refers to, with its parts: an int, a long or a string (JVMS 4.7.2)
abbrev pub value_constants : Constant → List PoolConstant
value_constants (constant.Int n) = Integer n ∷ []
value_constants (constant.Long n) = long_constants n
value_constants (constant.Text units) = string_constants units

-- those of a ConstantValue: the attribute's name, then the value (JVMS 4.7.2)
abbrev pub constant_value_constants : Option Constant → List PoolConstant
constant_value_constants (Some value) = text_constants (codes "ConstantValue") ++ value_constants value
constant_value_constants None = []

-- those of a field_info: name, descriptor, and its attributes ConstantValue, Synthetic and Deprecated (JVMS 4.5)
abbrev pub field_constants : Field → List PoolConstant
field_constants field = text_constants field.name ++ (text_constants (field_text field.ty)
    ++ (constant_value_constants field.constant ++ mark_constants field.synthetic field.deprecated))

-- the class that catch_type refers to; a handler of everything refers to none (JVMS 4.7.3)
abbrev pub caught_constants : Option (List ℕ) → List PoolConstant
caught_constants (Some name) = class_constants name
caught_constants None = []

-- the line differs from that of the instruction before (the project's own: no row says the same twice)
abbrev pub is_new_line : Option ℕ → ℕ → Bool
is_new_line (Some before) line = not (nat_eq before line)
is_new_line None line = true

-- a row at an instruction with a line that differs from that of the instruction before, else none (JVMS 4.7.12)
abbrev pub line_row : Option ℕ → ℕ → Option ℕ → List LineNumber
line_row before place None = []
line_row before place
    (Some line) = if is_new_line before line then record { start_pc = place; line_number = line } ∷ [] else []

-- the rows of instructions from number n on; all gives the offset of each by its number (JVMS 4.7.12)
abbrev pub line_rows_from : Option ℕ → List ℕ → ℕ → List Ins → List LineNumber
line_rows_from before all n [] = []
line_rows_from before all n (i ∷ ins) = line_row before (slice_index all n) i.line ++ line_rows_from i.line all
    (n + 1) ins

-- the LineNumberTable of a code whose instructions are at these places; before is the line ahead of its first one
-- (JVMS 4.7.12)
abbrev pub line_rows : Option ℕ → List ℕ → List Ins → List LineNumber
line_rows before all ins = line_rows_from before all 0 ins

-- instructions, handlers, attributes (JVMS 4.7.3, 4.7.4, 4.7.12)
abbrev pub code_constants : List VType → Code → List PoolConstant
code_constants first code = flat_map (λ (i : Ins). op_constants i.op) code.ins
    ++ (flat_map (λ (h : Handler). caught_constants h.caught) code.handlers
    ++ (attribute_constants (is_some_item (line_rows None [] code.ins)) (codes "LineNumberTable") []
    ++ attribute_constants (is_some_item code.frames) (codes "StackMapTable") (frame_constants first code.frames)))

-- those of the attribute Code, its name first; a method without code has no such attribute (JVMS 4.7.3)
abbrev pub body_constants : List VType → Option Code → List PoolConstant
body_constants first (Some code) = text_constants (codes "Code") ++ code_constants first code
body_constants first None = []

-- the locals of a method's initial frame (JVMS 4.10.1.6)
abbrev pub first_locals : List ℕ → Method → List VType
first_locals class m = initial_locals class (is_static m.flags.0) m.name m.ty

-- those of a method_info: name, descriptor, and its attributes Code, Exceptions, Synthetic and Deprecated (JVMS 4.6)
abbrev pub method_constants : List ℕ → Method → List PoolConstant
method_constants class m = text_constants m.name ++ (text_constants (method_text m.ty)
    ++ (body_constants (first_locals class m) m.code
    ++ (attribute_constants (is_some_item m.throws) (codes "Exceptions") (flat_map class_constants m.throws)
    ++ mark_constants m.synthetic m.deprecated)))

-- those of a SourceFile: the attribute's name, then the file's, whose units are kept as they are (JVMS 4.7.10)
abbrev pub source_constants : Option (List ℕ) → List PoolConstant
source_constants (Some units) = text_constants (codes "SourceFile") ++ Utf8 units ∷ []
source_constants None = []

-- the constants that a class wants: those that are pushed first, then in the order of the file
abbrev pub wanted : Class → List PoolConstant
wanted c = class_pushes c.methods ++ (class_constants c.name ++ (class_constants c.super_name
    ++ (flat_map class_constants c.interfaces ++ (flat_map field_constants c.fields
    ++ (flat_map (method_constants c.name) c.methods
    ++ (source_constants c.source ++ mark_constants c.synthetic c.deprecated))))))

-- the constants from index 1 on
unfoldable pub pool_of : Class → List PoolConstant
pool_of c = filled (wanted c)

-- ---- the structure

module _ (pool : List PoolConstant) where
  -- the index of the CONSTANT_Utf8 of a name or a descriptor (JVMS 4.4.7)
  abbrev pub text_index : List ℕ → ℕ
  text_index text = index_of pool (Utf8 (units_of text))

  -- the index of the CONSTANT_Class of a name (JVMS 4.4.1)
  abbrev pub class_index : List ℕ → ℕ
  class_index name = index_of pool (class_constant name)

  -- a number as a u2: two bytes, the high one first (JVMS 4)
  abbrev pub u2_of : ℕ → List ℕ
  u2_of n = to_be_bytes w16 n

  -- an attribute that is written (JVMS 4.7)
  abbrev pub attribute : Bool → List ℕ → List ℕ → List AttributeInfo
  attribute written name info = if written then record { attribute_name_index = text_index name; info = info } ∷ []
      else []

  -- Synthetic and then Deprecated, both without contents (JVMS 4.7.8, 4.7.15)
  abbrev pub mark_attributes : Bool → Bool → List AttributeInfo
  mark_attributes synthetic deprecated = attribute synthetic (codes "Synthetic") [] ++ attribute deprecated
      (codes "Deprecated") []

  -- the constantvalue_index of a field (JVMS 4.7.2)
  abbrev pub value_index : Constant → ℕ
  value_index (constant.Int n) = index_of pool (Integer n)
  value_index (constant.Long n) = index_of pool (Long n)
  value_index (constant.Text units) = index_of pool (Str units)

  -- the attribute ConstantValue of a field that has a value, whose contents are an index (JVMS 4.7.2)
  abbrev pub constant_attributes : Option Constant → List AttributeInfo
  constant_attributes (Some value) = attribute true (codes "ConstantValue") (u2_of (value_index value))
  constant_attributes None = []

  -- a field_info, its flags as they are (JVMS 4.5)
  abbrev pub field_raw : Field → MemberInfo
  field_raw field = record {
    access_flags = field.flags.0;
    name_index = text_index field.name;
    descriptor_index = text_index (field_text field.ty);
    attributes = constant_attributes field.constant ++ mark_attributes field.synthetic field.deprecated;
  }

  -- a catch_type, which is 0 where everything is caught (JVMS 4.7.3)
  abbrev pub caught_index : Option (List ℕ) → ℕ
  caught_index (Some name) = class_index name
  caught_index None = 0

  -- a handler, where instructions are at these places (JVMS 4.7.3)
  abbrev pub handler_raw : List ℕ → Handler → ExceptionInfo
  handler_raw all h = record {
    start_pc = slice_index all h.from;
    end_pc = slice_index all h.to;
    handler_pc = slice_index all h.entry;
    catch_type = caught_index h.caught;
  }

  -- the contents of the attribute LineNumberTable: the count of rows, then each (JVMS 4.7.12)
  abbrev pub line_table : List LineNumber → List ℕ
  line_table lines = u2_of (length lines) ++ flat_map line_number lines

  -- a code whose instructions are at these places (JVMS 4.7.4, 4.7.12)
  abbrev pub code_attributes : List VType → List ℕ → Code → List AttributeInfo
  code_attributes first all code =
      attribute (is_some_item (line_rows None all code.ins)) (codes "LineNumberTable")
      (line_table (line_rows None all code.ins))
      ++ attribute (is_some_item code.frames) (codes "StackMapTable")
      (stack_map_table (rows pool all first None code.frames))

  -- the items of a Code whose instructions are at these places; first are the locals of the initial frame (JVMS 4.7.3)
  abbrev pub code_raw : List VType → List ℕ → Code → CodeInfo
  code_raw first all code = record {
    max_stack = code.max_stack;
    max_locals = code.max_locals;
    code = code_bytes pool all code.ins;
    exception_table = map (handler_raw all) code.handlers;
    attributes = code_attributes first all code;
  }

  -- the contents of the attribute Code (JVMS 4.7.3)
  abbrev pub code_contents : List VType → Code → List ℕ
  code_contents first code = code_info (code_raw first (places pool code.ins) code)

  -- the attribute Code of a method that has a code (JVMS 4.7.3)
  abbrev pub body_attributes : List VType → Option Code → List AttributeInfo
  body_attributes first (Some code) = attribute true (codes "Code") (code_contents first code)
  body_attributes first None = []

  -- the contents of the attribute Exceptions (JVMS 4.7.5)
  abbrev pub exceptions : List (List ℕ) → List ℕ
  exceptions throws = u2_of (length throws) ++ flat_map (λ name. u2_of (class_index name)) throws

  -- a method_info of this class, its flags as they are (JVMS 4.6)
  abbrev pub method_raw : List ℕ → Method → MemberInfo
  method_raw class m = record {
    access_flags = m.flags.0;
    name_index = text_index m.name;
    descriptor_index = text_index (method_text m.ty);
    attributes = body_attributes (first_locals class m) m.code
        ++ (attribute (is_some_item m.throws) (codes "Exceptions")
        (exceptions m.throws) ++ mark_attributes m.synthetic m.deprecated);
  }

  -- the attribute SourceFile, where the name of the source file is known (JVMS 4.7.10)
  abbrev pub source_attributes : Option (List ℕ) → List AttributeInfo
  source_attributes (Some units) = attribute true (codes "SourceFile") (u2_of (index_of pool (Utf8 units)))
  source_attributes None = []

  -- the items of a ClassFile over a pool, whose count is one more than its last index (JVMS 4.1)
  abbrev pub class_raw : Class → ClassFile
  class_raw c = record {
    constant_pool_count = length pool + 1;
    constant_pool = infos_of pool;
    access_flags = c.flags.0;
    this_class = class_index c.name;
    super_class = class_index c.super_name;
    interfaces = map class_index c.interfaces;
    fields = map field_raw c.fields;
    methods = map (method_raw c.name) c.methods;
    attributes = source_attributes c.source ++ mark_attributes c.synthetic c.deprecated;
  }

-- the one canonical spelling (JVMS 4.1; which one is the project's own)
unfoldable pub layout : Class → List ℕ
layout c = class_file (class_raw (pool_of c) c)

-- The bytes of the class with a field and a method spell it.
use Rattle.std.proofs.Common.{◌≡◌, ℕ, ◌<◌, Bool, true, false, List, [], ◌∷◌, refl, arith, inl, zero, suc}
use Rattle.std.specs.Prelude.{pos, codes, None, length, nat_lt}
use Rattle.std.specs.List.{list_all}
use Rattle.std.specs.Str.{chars}
use Rattle.std.proofs.lemmas.Bool.{ltb-true, and_parts}
use Rattle.jv_base.specs.Utf16.{units_of}
use Rattle.jv_base.specs.Mutf8.{unit_bytes, mutf8, IsUnits}
use Rattle.jv_base.specs.Names.{is_primitive_or_void, is_name_byte, is_member_name, is_method_name, is_class_name}
use Rattle.jv_base.specs.Types.{base_text, field_text, result_text, method_text, words_of, argument_words}
use Rattle.jv_base.proofs.Lists.{no_pairs}
use Rattle.class_model.specs.declared.pool.Entry.{Entry}
use Rattle.class_model.specs.declared.pool.Entry.TheVariants as entry
use Rattle.class_model.specs.declared.frame.VType.TheVariants as vtype
use Rattle.class_model.specs.Pool.{IsText, units_at}
use Rattle.class_model.specs.Structure.{MemberInfo, CodeInfo, code_info}
use Rattle.class_model.specs.ConstantPool.{Utf8Info, IntegerInfo, LongInfo, ClassInfo, IsPool, IsConstant, long_of}
use Rattle.class_model.specs.InstructionStructure.{Info, Plain, Branch}
use Rattle.class_model.specs.LineNumbers.{LineNumber}
use Rattle.class_model.specs.Frames.{SameFrame}
use Rattle.class_model.specs.CodeAttribute.{IsCode}
use Rattle.class_model.specs.Members.{IsField, IsMethod, FieldsDiffer, MethodsDiffer}
use Rattle.class_model.specs.ClassFile.{ClassFile, IsClass}
use Rattle.class_model.specs.rows.Rows.{hex, field_of_t, method_of_t, code_of_t, class_t, TIsSpelled}

-- ---- the structure

abbrev object : List ℕ
object = codes "java/lang/Object"

abbrev code_raw : CodeInfo
code_raw = record {
  max_stack = 2;
  max_locals = 1;
  code = hex (codes "1A99000504AC03AC");
  exception_table = record { start_pc = 0; end_pc = 1; handler_pc = 6; catch_type = 4 } ∷ [];
  attributes = record { attribute_name_index = 14; info = hex (codes "000100000007") }
      ∷ record { attribute_name_index = 8; info = hex (codes "000106") } ∷ [];
}

abbrev field_raw : MemberInfo
field_raw = record {
  access_flags = 8;
  name_index = 5;
  descriptor_index = 12;
  attributes = record { attribute_name_index = 11; info = hex (codes "0009") } ∷ [];
}

abbrev method_raw : MemberInfo
method_raw = record {
  access_flags = 9;
  name_index = 5;
  descriptor_index = 6;
  attributes = record { attribute_name_index = 7; info = code_info code_raw } ∷ [];
}

abbrev raw : ClassFile
raw = record {
  constant_pool_count = 17;
  constant_pool = Utf8Info (codes "T") ∷ ClassInfo 1 ∷ Utf8Info object ∷ ClassInfo 3 ∷ Utf8Info (codes "f") ∷ Utf8Info
      (codes "(I)I")
      ∷ Utf8Info (codes "Code") ∷ Utf8Info (codes "StackMapTable") ∷ LongInfo 1 2 ∷ Utf8Info
      (codes "ConstantValue") ∷ Utf8Info (codes "J")
      ∷ IntegerInfo 7 ∷ Utf8Info (codes "LineNumberTable") ∷ Utf8Info (codes "<init>") ∷ Utf8Info (codes "()V") ∷ [];
  access_flags = 0x0021;
  this_class = 2;
  super_class = 4;
  interfaces = [];
  fields = field_raw ∷ [];
  methods = method_raw ∷ [];
  attributes = [];
}

abbrev entries : List Entry
entries = entry.Utf8 (codes "T") ∷ entry.Class 1 ∷ entry.Utf8 object ∷ entry.Class 3 ∷ entry.Utf8
    (codes "f") ∷ entry.Utf8 (codes "(I)I")
    ∷ entry.Utf8 (codes "Code") ∷ entry.Utf8 (codes "StackMapTable") ∷ entry.Long (long_of 1 2) ∷ entry.Utf8
    (codes "ConstantValue") ∷ entry.Utf8 (codes "J")
    ∷ entry.Integer (pos 7) ∷ entry.Utf8 (codes "LineNumberTable") ∷ entry.Utf8 (codes "<init>") ∷ entry.Utf8
    (codes "()V") ∷ []

abbrev pool : List Entry
pool = entry.Gap ∷ entry.Utf8 (codes "T") ∷ entry.Class 1 ∷ entry.Utf8 object ∷ entry.Class 3 ∷ entry.Utf8
    (codes "f") ∷ entry.Utf8 (codes "(I)I")
    ∷ entry.Utf8 (codes "Code") ∷ entry.Utf8 (codes "StackMapTable") ∷ entry.Long (long_of 1 2) ∷ entry.Gap ∷ entry.Utf8
    (codes "ConstantValue") ∷ entry.Utf8 (codes "J")
    ∷ entry.Integer (pos 7) ∷ entry.Utf8 (codes "LineNumberTable") ∷ entry.Utf8 (codes "<init>") ∷ entry.Utf8
    (codes "()V") ∷ []

-- ---- texts

-- a text has these units
t_text : IsText (units_at pool 1) (codes "T")
unfolding units_of chars lib.Utf8.encode
t_text = ((codes "T", (refl, refl)), refl)

object_text : IsText (units_at pool 3) object
unfolding units_of chars lib.Utf8.encode
object_text = ((object, (refl, refl)), refl)

f_text : IsText (units_at pool 5) (codes "f")
unfolding units_of chars lib.Utf8.encode
f_text = ((codes "f", (refl, refl)), refl)

method_descriptor : IsText (units_at pool 6) (codes "(I)I")
unfolding units_of chars lib.Utf8.encode
method_descriptor = ((codes "(I)I", (refl, refl)), refl)

field_descriptor : IsText (units_at pool 12) (codes "J")
unfolding units_of chars lib.Utf8.encode
field_descriptor = ((codes "J", (refl, refl)), refl)

-- numbers that pass a test are units
abbrev is_unit : ℕ → Bool
is_unit n = nat_lt n 65536

units : (numbers : List ℕ) → list_all is_unit numbers ≡ true → IsUnits numbers
units [] h i = omega arith
units (n ∷ numbers) h zero = ltb-true n 65536 (and_parts (is_unit n) (list_all is_unit numbers) h).0
units (n ∷ numbers) h (suc i) = units numbers (and_parts (is_unit n) (list_all is_unit numbers) h).1 i

-- ---- the pool

utf8 : (text : List ℕ) → length text < 65536 → list_all is_unit text ≡ true → text ≡ mutf8 text
    → IsConstant (Utf8Info text) (entry.Utf8 text)
utf8 text short small same = (short, text, units text small, same, refl)

pool_is : IsPool 17 raw.constant_pool pool
unfolding unit_bytes mutf8 is_primitive_or_void is_name_byte is_member_name is_class_name
pool_is = record {
  entries = entries;
  stand = (
    utf8 (codes "T") (omega arith) refl refl,
    (
      (omega arith, refl),
      (
        utf8 object (omega arith) refl refl,
        (
          (omega arith, refl),
          (
            utf8 (codes "f") (omega arith) refl refl,
            (
              utf8 (codes "(I)I") (omega arith) refl refl,
              (
                utf8 (codes "Code") (omega arith) refl refl,
                (
                  utf8 (codes "StackMapTable") (omega arith) refl refl,
                  (
                    (omega arith, omega arith, refl),
                    (
                      utf8 (codes "ConstantValue") (omega arith) refl refl,
                      (
                        utf8 (codes "J") (omega arith) refl refl,
                        (
                          (omega arith, refl),
                          (
                            utf8 (codes "LineNumberTable") (omega arith) refl refl,
                            (
                              utf8 (codes "<init>") (omega arith) refl refl,
                              (utf8 (codes "()V") (omega arith) refl refl, tt),
                            ),
                          ),
                        ),
                      ),
                    ),
                  ),
                ),
              ),
            ),
          ),
        ),
      ),
    ),
  );
  numbers = refl;
  count_fits = omega arith;
  counted = refl;
  names = (
    tt,
    (
      (codes "T", t_text, inl refl),
      (
        tt,
        (
          (object, object_text, inl refl),
          (tt, (tt, (tt, (tt, (tt, (tt, (tt, (tt, (tt, (tt, (tt, tt))))))))))),
        ),
      ),
    ),
  );
}

-- ---- members

field_is : IsField pool false field_raw field_of_t
unfolding is_primitive_or_void is_name_byte is_member_name is_class_name base_text field_text
field_is = record {
  flags = record { fit = omega arith; are = refl; good = refl };
  name = (omega arith, f_text);
  named_right = refl;
  descriptor = (omega arith, field_descriptor);
  typed = record { dimensions = omega arith; named = tt };
  attributes = record {
    count_fits = omega arith;
    each = (
      record { index_fits = omega arith; name = codes "ConstantValue"; named = refl; length_fits = omega arith },
      tt,
    );
  };
  constant = (9, omega arith, refl, ((refl, refl), refl));
  synthetic = refl;
  deprecated = refl;
}

abbrev infos : List Info
infos = Plain 0x1A ∷ Branch 0x99 5 ∷ Plain 0x04 ∷ Plain 0xAC ∷ Plain 0x03 ∷ Plain 0xAC ∷ []

abbrev lines : List LineNumber
lines = record { start_pc = 0; line_number = 7 } ∷ []

code_is : IsCode pool (vtype.Int ∷ []) code_raw code_of_t None
unfolding is_primitive_or_void is_name_byte is_member_name is_class_name
code_is = record {
  sizes = record {
    max_stack_fits = omega arith;
    max_locals_fits = omega arith;
    length_from = omega arith;
    length_to =
        omega arith;
    handlers_fit = omega arith;
  };
  max_stack = refl;
  max_locals = refl;
  infos = infos;
  is = refl;
  lines = lines;
  instructions = (
    (refl, refl),
    (
      ((omega arith, 4, (6, refl, refl), refl), refl),
      ((refl, refl), ((refl, refl), ((refl, refl), ((refl, refl), tt)))),
    ),
  );
  handlers = (
    record {
      from = refl;
      to = refl;
      range = omega arith;
      entry = refl;
      caught =
          (omega arith, object_text, refl);
    },
    tt,
  );
  attributes = record {
    count_fits = omega arith;
    each = (
      record { index_fits = omega arith; name = codes "LineNumberTable"; named = refl; length_fits = omega arith },
      (record { index_fits = omega arith; name = codes "StackMapTable"; named = refl; length_fits = omega arith }, tt),
    );
  };
  line_tables = (
    lines,
    [],
    record {
      is = refl;
      count_fits = omega arith;
      fit =
          ((omega arith, omega arith), tt);
    },
    refl,
    refl,
  );
  rows = SameFrame 6 ∷ [];
  map = (omega arith, refl);
  frames = (
    vtype.Int ∷ [],
    6,
    record {
      delta = 6;
      stands = (omega arith, refl, refl, refl);
      offset_is = refl;
      index = refl;
      cut = refl;
      locals_fit = omega arith;
      stack_fits = omega arith;
    },
    tt,
  );
  floats = refl;
}

method_is : IsMethod pool false (codes "T") method_raw method_of_t None
unfolding is_primitive_or_void is_name_byte is_member_name is_method_name is_class_name base_text field_text result_text
    method_text words_of argument_words
method_is = record {
  flags = record { fit = omega arith; are = refl; good = refl };
  name = (omega arith, f_text);
  named_right = refl;
  descriptor = (omega arith, method_descriptor);
  typed = record {
    arguments = (record { dimensions = omega arith; named = tt }, tt);
    words = omega arith;
    returned = record { dimensions = omega arith; named = tt };
  };
  room_for_this = refl;
  initial_flags = refl;
  initial_type = refl;
  attributes = record {
    count_fits = omega arith;
    each =
        (record { index_fits = omega arith; name = codes "Code"; named = refl; length_fits = omega arith }, tt);
  };
  code = (code_raw, refl, code_is);
  throws = refl;
  synthetic = refl;
  deprecated = refl;
}

-- ---- the class

class_is : IsClass raw class_t pool
unfolding is_primitive_or_void is_name_byte is_member_name is_class_name
class_is = record {
  constant_pool = pool_is;
  flags = record { fit = omega arith; are = refl; good = refl };
  name = (omega arith, t_text, refl);
  super_name = (omega arith, object_text, refl);
  interfaces_count = omega arith;
  interfaces = tt;
  fields_count = omega arith;
  fields = (field_is, tt);
  fields_differ = no_pairs FieldsDiffer field_of_t;
  methods_count = omega arith;
  left_out_kinds = None ∷ [];
  methods = (method_is, tt);
  methods_differ = no_pairs MethodsDiffer method_of_t;
  attributes = record { count_fits = omega arith; each = tt };
  source = tt;
  synthetic = refl;
  deprecated = refl;
  left_out = refl;
}

pub spelled : TIsSpelled
spelled = (raw, refl, pool, class_is)

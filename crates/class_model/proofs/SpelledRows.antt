-- The bytes of the interface without members spell it.
use Rattle.std.proofs.Common.{ℕ, ◌<◌, List, [], ◌∷◌, refl, arith, inl, zero, suc}
use Rattle.std.specs.Prelude.{codes, AllPairs}
use Rattle.std.specs.Str.{chars}
use Rattle.jv_base.specs.Utf16.{units_of}
use Rattle.jv_base.specs.Mutf8.{unit_bytes, mutf8, IsUnits}
use Rattle.jv_base.specs.Names.{is_primitive_or_void, is_name_byte, is_member_name, is_class_name}
use Rattle.class_model.specs.declared.pool.Entry.{Entry}
use Rattle.class_model.specs.declared.pool.Entry.TheVariants as entry
use Rattle.class_model.specs.Pool.{IsText, units_at}
use Rattle.class_model.specs.ConstantPool.{Utf8Info, ClassInfo, IsPool}
use Rattle.class_model.specs.ClassFile.{ClassFile, IsClass}
use Rattle.class_model.specs.Members.{FieldsDiffer, MethodsDiffer}
use Rattle.class_model.specs.rows.Rows.{class_a, IsSpelled}

abbrev a_name : List ℕ
a_name = codes "A"

abbrev object : List ℕ
object = codes "java/lang/Object"

abbrev raw : ClassFile
raw = record {
  constant_pool_count = 5;
  constant_pool = Utf8Info a_name ∷ ClassInfo 1 ∷ Utf8Info object ∷ ClassInfo 3 ∷ [];
  access_flags = 0x0600;
  this_class = 2;
  super_class = 4;
  interfaces = [];
  fields = [];
  methods = [];
  attributes = [];
}

abbrev entries : List Entry
entries = entry.Utf8 a_name ∷ entry.Class 1 ∷ entry.Utf8 object ∷ entry.Class 3 ∷ []

abbrev pool : List Entry
pool = entry.Gap ∷ entries

-- a text has these units
a_text : IsText (units_at pool 1) a_name
unfolding units_of chars lib.Utf8.encode
a_text = ((a_name, (refl, refl)), refl)

object_text : IsText (units_at pool 3) object
unfolding units_of chars lib.Utf8.encode
object_text = ((object, (refl, refl)), refl)

-- small numbers are units
units_nil : IsUnits []
units_nil i = omega arith

units_cons : (unit : ℕ) (units : List ℕ) → unit < 65536 → IsUnits units → IsUnits (unit ∷ units)
units_cons unit units h hs zero = h
units_cons unit units h hs (suc i) = hs i

a_units : IsUnits a_name
a_units = (units_cons 65 [] (omega arith) units_nil)

object_units : IsUnits object
object_units = (units_cons 106 (codes "ava/lang/Object") (omega arith)
    (units_cons 97 (codes "va/lang/Object") (omega arith)
    (units_cons 118 (codes "a/lang/Object") (omega arith)
    (units_cons 97 (codes "/lang/Object") (omega arith)
    (units_cons 47 (codes "lang/Object") (omega arith)
    (units_cons 108 (codes "ang/Object") (omega arith)
    (units_cons 97 (codes "ng/Object") (omega arith)
    (units_cons 110 (codes "g/Object") (omega arith)
    (units_cons 103 (codes "/Object") (omega arith)
    (units_cons 47 (codes "Object") (omega arith)
    (units_cons 79 (codes "bject") (omega arith)
    (units_cons 98 (codes "ject") (omega arith)
    (units_cons 106 (codes "ect") (omega arith)
    (units_cons 101 (codes "ct") (omega arith)
    (units_cons 99 (codes "t") (omega arith) (units_cons 116 [] (omega arith) units_nil))))))))))))))))

-- nothing has no pairs
no_pairs : {X : Type 0} (R : X → X → Type 0) → AllPairs R []
no_pairs R i j d h k = absurd (omega (arith, k))

pool_is : IsPool 5 raw.constant_pool pool
unfolding unit_bytes mutf8 is_primitive_or_void is_name_byte is_member_name is_class_name
pool_is = record {
  entries = entries;
  stand = (
    (omega arith, a_name, a_units, refl, refl),
    ((omega arith, refl), ((omega arith, object, object_units, refl, refl), ((omega arith, refl), tt))),
  );
  numbers = refl;
  count_fits = omega arith;
  counted = refl;
  names = (tt, ((a_name, a_text, inl refl), (tt, ((object, object_text, inl refl), tt))));
}

class_is : IsClass raw class_a pool
unfolding is_primitive_or_void is_name_byte is_member_name is_class_name
class_is = record {
  constant_pool = pool_is;
  flags = record { fit = omega arith; are = refl; good = refl };
  name = (omega arith, a_text, refl);
  super_name = (omega arith, object_text, refl);
  interfaces_count = omega arith;
  interfaces = tt;
  fields_count = omega arith;
  fields = tt;
  fields_differ = no_pairs FieldsDiffer;
  methods_count = omega arith;
  left_out_kinds = [];
  methods = tt;
  methods_differ = no_pairs MethodsDiffer;
  attributes = record { count_fits = omega arith; each = tt };
  source = tt;
  synthetic = refl;
  deprecated = refl;
  left_out = refl;
}

pub spelled : IsSpelled
spelled = (raw, refl, pool, class_is)

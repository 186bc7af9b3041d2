-- Reading a class file from left to right (JVMS 4.1).
use Rattle.std.specs.Prelude.{ℕ, Bool, true, false, List, [], length, codes, Option, Some, None, Result, Ok, Err, ◌==◌}
use Rattle.std.specs.Prelude.{if◌then◌else◌}
use Rattle.jv_base.specs.Place.{Place, start}
use Rattle.jv_base.specs.Names.{is_text}
use Rattle.format_reading.specs.Fault.{fault}
use Rattle.format_reading.specs.Reader.{FormatReader, u2, u4, item, give, many, ◌>>=◌}
use Rattle.format_reading.specs.declared.fault.FormatFault.{FormatFault}
use Rattle.format_reading.specs.declared.fault.FormatKind.{FormatKind}
use Rattle.format_reading.specs.declared.fault.FormatKind.TheVariants as bad
use Rattle.class_model.specs.declared.pool.Entry.{Entry}
use Rattle.class_model.specs.declared.class.Field.{Field}
use Rattle.class_model.specs.declared.class.Method.{Method}
use Rattle.class_model.specs.declared.class.Class.{Class}
use Rattle.class_model.specs.declared.class.LeftKind.{LeftKind}
use Rattle.class_model.specs.Flags.{flags_of}
use Rattle.class_model.specs.Flags.{class_mask, defined_flags, are_class_flags, is_interface}
use Rattle.class_model.specs.ClassFile.{left_out_of_class, first_left_out}
use Rattle.class_model.specs.Lookups.{test, class_at}
use Rattle.class_model.specs.ReadingPool.{read_pool}
use Rattle.class_model.specs.ReadingAttributes.{counted_attributes, once, source_file}
use Rattle.class_model.specs.ReadingCodeAttribute.{is_there}
use Rattle.class_model.specs.ReadingMembers.{read_flags, read_fields, read_methods}

-- a number that has to be this one
abbrev pub wanted : ℕ → FormatKind → ℕ → Result (Unit {0}) FormatKind
wanted number kind n = test kind (n == number)

-- magic, minor_version and major_version: CAFEBABE, 0 and 52 (JVMS 4.1; that 52.0 alone is taken is the project's own)
unfoldable pub read_head : FormatReader (Unit {0})
read_head = do
  magic ← item u4 (wanted 0xCAFEBABE bad.BadMagic)
  minor_version ← item u2 (wanted 0 bad.BadVersion)
  item u2 (wanted 52 bad.BadVersion)

-- what was seen of the class's attributes (JVMS 4.1, 4.7)
pub record ClassSeen : Type 0 where
  pub source : Option (List ℕ)
  pub synthetic : Bool
  pub deprecated : Bool

-- what was seen before the first attribute of a class (JVMS 4.7)
abbrev pub no_class_attribute : ClassSeen
no_class_attribute = record { source = None; synthetic = false; deprecated = false }

-- the text of an attribute SourceFile is noted (JVMS 4.7.10)
abbrev pub source_seen : List Entry → ClassSeen → FormatReader ClassSeen
source_seen pool seen = do
  units ← source_file pool
  give (record seen { source = Some units })

-- the attributes of a class that are read, each at most once (JVMS 4.7.8, 4.7.10, 4.7.15); all others are passed over
abbrev pub known_of_class : List Entry → ℕ → List ℕ → ℕ → ClassSeen → Option (FormatReader ClassSeen)
known_of_class pool at name n seen =
    if is_text name (codes "SourceFile") then Some (once at (is_there seen.source) (source_seen pool seen))
    else if is_text name (codes "Synthetic") then Some
    (once at seen.synthetic (give (record seen { synthetic = true })))
    else if is_text name (codes "Deprecated") then Some
    (once at seen.deprecated (give (record seen { deprecated = true })))
    else None

-- the fields (JVMS 4.1)
unfoldable pub read_all_fields : List Entry → ℕ → FormatReader (List Field)
read_all_fields pool flags = do
  n ← u2
  read_fields n pool (is_interface flags) []

-- the methods, and what is left out in each (JVMS 4.1)
unfoldable pub read_all_methods : List Entry → ℕ → List ℕ → FormatReader (List Method × List (Option LeftKind))
read_all_methods pool flags class = do
  n ← u2
  read_methods n pool (is_interface flags) class []

-- interfaces_count, and then the classes by their indices, of which none may be an array type (JVMS 4.1)
unfoldable pub read_interfaces : List Entry → FormatReader (List (List ℕ))
read_interfaces pool = do
  n ← u2
  many n (item u2 (class_at pool))

-- the class of these items; flags that mean nothing for a class are dropped (JVMS 4.1, table 4.1-A)
abbrev pub class_of : ℕ → List Entry → List ℕ → List ℕ → List (List ℕ) → List Field
    → List Method × List (Option LeftKind) → ClassSeen → Class
class_of flags pool name super_name interfaces fields methods seen = record {
  flags = flags_of (defined_flags class_mask flags);
  name = name;
  super_name = super_name;
  interfaces = interfaces;
  fields = fields;
  methods = methods.0;
  source = seen.source;
  synthetic = seen.synthetic;
  deprecated = seen.deprecated;
  left_out = first_left_out (left_out_of_class flags pool) (length fields) methods.1;
}

-- ClassFile (JVMS 4.1)
unfoldable pub read_class_file : FormatReader Class
read_class_file = do
  head ← read_head
  pool ← read_pool
  flags ← read_flags are_class_flags
  name ← item u2 (class_at pool)
  super_name ← item u2 (class_at pool)
  interfaces ← read_interfaces pool
  fields ← read_all_fields pool flags
  methods ← read_all_methods pool flags name
  seen ← counted_attributes pool (known_of_class pool) no_class_attribute
  give (class_of flags pool name super_name interfaces fields methods seen)

-- no byte may follow (JVMS 4.8)
abbrev pub all_read : Result (Class × Place) FormatFault → Result Class FormatFault
all_read (Ok x) = if x.1.at == length x.1.bytes then Ok x.0 else Err (fault x.1.at bad.Trailing)
all_read (Err f) = Err f

-- the class that the bytes spell, or the first fault (JVMS 4.1; the first fault is the project's own)
unfoldable pub class_read : List ℕ → Result Class FormatFault
class_read bytes = all_read (read_class_file (start bytes))

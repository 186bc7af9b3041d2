-- Reading the constant pool from left to right (JVMS 4.4), and its cross references when it has been read.
use Rattle.std.specs.Prelude.{ℕ, zero, suc, ◌-◌, Bool, true, false, ◌&&◌, not, List, [], ◌∷◌, map, Option, Some, None}
use Rattle.std.specs.Prelude.{Result, Ok, Err, ◌==◌, nat_lt, if◌then◌else◌}
use Rattle.std.specs.Int.{w32, cast_signed}
use Rattle.jv_base.specs.Decoding.{read_mutf8}
use Rattle.format_reading.specs.Fault.{fault}
use Rattle.format_reading.specs.Reader.{FormatReader, u2, u4, bytes, lead, item, give, here, of_result, u1, ◌>>=◌}
use Rattle.format_reading.specs.declared.fault.FormatFault.{FormatFault}
use Rattle.format_reading.specs.declared.fault.FormatKind.{FormatKind}
use Rattle.format_reading.specs.declared.fault.FormatKind.TheVariants as bad
use Rattle.class_model.specs.declared.pool.Entry.{Entry}
use Rattle.class_model.specs.declared.pool.Entry.TheVariants as entry
use Rattle.class_model.specs.ConstantPool.{left_out_length, long_of, takes_two}
use Rattle.class_model.specs.Lookups.{due, value_of, names_right}

-- an entry, and the offset of its tag (the project's own: entries are judged when all are read)
pub record Slot : Type 0 where
  pub entry : Entry
  pub at : ℕ

-- ---- entries

-- CONSTANT_Utf8 behind its tag: as many bytes as its length, which must be modified UTF-8 (JVMS 4.4.7)
abbrev pub utf8 : FormatReader Entry
utf8 = do
  n ← u2
  units ← item (bytes n) (λ text. due bad.BadUtf8 (value_of (read_mutf8 text)))
  give (entry.Utf8 units)

-- CONSTANT_Integer behind its tag: four bytes in two's complement (JVMS 4.4.4)
abbrev pub integer : FormatReader Entry
integer = do
  n ← u4
  give (entry.Integer (cast_signed w32 n))

-- CONSTANT_Long behind its tag: its high four bytes, and then its low four (JVMS 4.4.5)
abbrev pub long : FormatReader Entry
long = do
  high ← u4
  low ← u4
  give (entry.Long (long_of high low))

-- a constant that is one index: a Class or a String (JVMS 4.4.1, 4.4.3)
abbrev pub one_index : (ℕ → Entry) → FormatReader Entry
one_index make = do
  index ← u2
  give (make index)

-- a constant that is two indices: a reference to a member, or a NameAndType (JVMS 4.4.2, 4.4.6)
abbrev pub two_indices : (ℕ → ℕ → Entry) → FormatReader Entry
two_indices make = do
  first ← u2
  second ← u2
  give (make first second)

-- a constant that is left out: its bytes may be any, and only its tag is kept
-- (JVMS 4.4; that it is left out is the project's own)
abbrev pub passed_over : ℕ → ℕ → FormatReader Entry
passed_over tag n = do
  skipped ← bytes n
  give (entry.LeftOut tag)

-- a constant that is left out, by the length of its contents; a tag without one is no tag
-- (JVMS 4.4; that it is left out is the project's own)
abbrev pub left_out : ℕ → Option ℕ → Result (FormatReader Entry) FormatKind
left_out tag (Some n) = Ok (passed_over tag n)
left_out tag None = Err bad.BadTag

-- a Long or a Double needs room for its second index (JVMS 4.4.5)
abbrev pub has_no_room : Bool → ℕ → Bool
has_no_room room tag = not room && (if tag == 5 then true else tag == 6)

-- what a tag begins (JVMS 4.4, table 4.4-A)
abbrev pub tagged : Bool → ℕ → Result (FormatReader Entry) FormatKind
tagged room tag =
    if has_no_room room tag then Err bad.BadTag
    else if tag == 1 then Ok utf8
    else if tag == 3 then Ok integer
    else if tag == 5 then Ok long
    else if tag == 7 then Ok (one_index (λ i. entry.Class i))
    else if tag == 8 then Ok (one_index (λ i. entry.Str i))
    else if tag == 9 then Ok (two_indices (λ i j. entry.Field i j))
    else if tag == 10 then Ok (two_indices (λ i j. entry.Method i j))
    else if tag == 11 then Ok (two_indices (λ i j. entry.InterfaceMethod i j))
    else if tag == 12 then Ok (two_indices (λ i j. entry.NameAndType i j))
    else left_out tag (left_out_length tag)

-- cp_info; a bad tag is at fault at the tag itself (JVMS 4.4)
unfoldable pub read_entry : Bool → FormatReader Entry
read_entry room = lead u1 (tagged room)

-- ---- the pool

-- the next index, which is the second one of a Long or a Double where `second` is true; room is there for one more
-- (JVMS 4.4.5)
unfoldable pub slot : Bool → Bool → FormatReader Slot
slot true room = do
  at ← here
  give (record { entry = entry.Gap; at = at })
slot false room = do
  at ← here
  e ← read_entry room
  give (record { entry = e; at = at })

-- n indices (JVMS 4.1, 4.4)
unfoldable pub slots : ℕ → Bool → FormatReader (List Slot)
slots zero second = give []
slots (suc n) second = do
  first ← slot second (nat_lt 0 n)
  others ← slots n (takes_two first.entry)
  give (first ∷ others)

-- the pool by its indices, where index 0 is no entry (JVMS 4.1)
abbrev pub entries_of : List Slot → List Entry
entries_of xs = entry.Gap ∷ map (λ (s : Slot). s.entry) xs

-- an entry's own fault, at its tag, comes before those of the entries behind it
-- (the project's own: the first entry's fault counts)
abbrev pub fault_of : ℕ → Result (Unit {0}) FormatKind → Result (Unit {0}) FormatFault → Result (Unit {0}) FormatFault
fault_of at (Ok x) others = others
fault_of at (Err kind) others = Err (fault at kind)

-- the first entry that names what isn't there, in the order of indices, used or not
-- (JVMS 4.4; that each entry is judged is the project's own)
unfoldable pub all_name_right : List Entry → List Slot → Result (Unit {0}) FormatFault
all_name_right pool [] = Ok tt
all_name_right pool (s ∷ xs) = fault_of s.at (names_right pool s.entry) (all_name_right pool xs)

-- constant_pool_count and the constants; a count of 0 is taken as 1
-- (JVMS 4.1; that 0 is taken as 1 is the project's own)
unfoldable pub read_pool : FormatReader (List Entry)
read_pool = do
  count ← u2
  xs ← slots (count - 1) false
  named ← of_result (all_name_right (entries_of xs) xs)
  give (entries_of xs)

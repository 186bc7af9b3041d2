-- Parts of what is read of a constant pool (JVMS 4.4; only the proof of read_class needs it).
use Rattle.std.specs.Prelude.{ℕ, List, [], ◌∷◌, map, Option, Some, None, Result, Ok, Err}
use Rattle.jv_base.specs.Decoding.{read_mutf8}
use Rattle.format_reading.specs.Fault.{fault}
use Rattle.format_reading.specs.declared.fault.FormatFault.{FormatFault}
use Rattle.format_reading.specs.declared.fault.FormatKind.{FormatKind}
use Rattle.format_reading.specs.declared.fault.FormatKind.TheVariants as bad
use Rattle.class_model.specs.declared.pool.Entry.{Entry}
use Rattle.class_model.specs.Lookups.{due, value_of, names_right}
use Rattle.class_model.specs.ReadingPool.{Slot, fault_of}

-- a value, or the fault of a kind at an offset
abbrev pub found_at : {A : Type 0} → ℕ → Result A FormatKind → Result A FormatFault
found_at at (Ok x) = Ok x
found_at at (Err kind) = Err (fault at kind)

-- the units that bytes at an offset spell (JVMS 4.4.7)
abbrev pub units_of_bytes : ℕ → List ℕ → Result (List ℕ) FormatFault
units_of_bytes at text = found_at at (due bad.BadUtf8 (value_of (read_mutf8 text)))

-- the offsets of the tags; index 0 has none, and no entry there is at fault
abbrev pub offsets_of : List Slot → List ℕ
offsets_of xs = 0 ∷ map (λ (s : Slot). s.at) xs

-- the fault of an entry, if it names what isn't there
abbrev pub fault_in : List Entry → Option Entry → Option ℕ → Result (Unit {0}) FormatFault
fault_in pool (Some e) (Some at) = found_at at (names_right pool e)
fault_in pool (Some e) None = Ok tt
fault_in pool None at = Ok tt

-- the first fault of entries at offsets
unfoldable pub faults_in : List Entry → List Entry → List ℕ → Result (Unit {0}) FormatFault
faults_in pool [] offsets = Ok tt
faults_in pool (e ∷ es) [] = Ok tt
faults_in pool (e ∷ es) (at ∷ offsets) = fault_of at (names_right pool e) (faults_in pool es offsets)

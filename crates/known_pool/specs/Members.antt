-- The references to members that a constant pool holds (JVMS 4.4.2).
use Rattle.std.specs.Prelude.{ℕ, Bool, true, false, List, Option, None, option_and_then}
use Rattle.class_model.specs.declared.op.MemberRef.{MemberRef}
use Rattle.class_model.specs.declared.pool.Entry.{Entry}
use Rattle.class_model.specs.declared.pool.Entry.TheVariants as entry
use Rattle.class_model.specs.ConstantPool.{name_and_type_at}
use Rattle.class_model.specs.Lookups.{reference_of}

-- the reference with a class at one index, and a name and a type at the other (JVMS 4.4.2, 4.4.6)
abbrev pub named_reference : Bool → List Entry → ℕ → ℕ → Option MemberRef
named_reference of_interface pool class_index index =
    option_and_then (reference_of of_interface pool class_index) (name_and_type_at pool index)

-- the reference that an entry is, if it is one whose parts are all there (JVMS 4.4.2)
abbrev pub member_in : List Entry → Entry → Option MemberRef
member_in pool (entry.Field class_index index) = named_reference false pool class_index index
member_in pool (entry.Method class_index index) = named_reference false pool class_index index
member_in pool (entry.InterfaceMethod class_index index) = named_reference true pool class_index index
member_in pool _ = None

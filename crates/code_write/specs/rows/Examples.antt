-- Codes whose instructions name constants of a pool, and their bytes, which follow from JVMS 6.5.
use Rattle.std.specs.Prelude.{◌≡◌, Bool, true, false, List, [], ◌∷◌, map, codes, Ok}
use Rattle.class_model.specs.declared.code.Ins.{Ins}
use Rattle.class_model.specs.declared.op.MemberRef.{MemberRef}
use Rattle.class_model.specs.declared.op.Op.TheVariants as op
use Rattle.class_model.specs.declared.pool.Entry.{Entry}
use Rattle.class_model.specs.declared.pool.Entry.TheVariants as entry
use Rattle.class_model.specs.rows.Rows.{hex, unlined}
use Rattle.jv_base.specs.declared.types.FieldType.{FieldType}
use Rattle.jv_base.specs.declared.types.Base.TheVariants as base
use Rattle.code_write.specs.Coded.{coded}
use Rattle.code_write.specs.Constants.{constants_in}

-- the class A with a field f and a method m, which is also one of an interface, the array type [[I, and the string "f"
-- (JVMS 4.4)
abbrev pub filled_pool : List Entry
filled_pool = entry.Gap ∷ entry.Utf8 (codes "A") ∷ entry.Class 1 ∷ entry.Utf8 (codes "f") ∷ entry.Utf8
    (codes "I") ∷ entry.NameAndType 3 4
    ∷ entry.Field 2 5 ∷ entry.Utf8 (codes "m") ∷ entry.Utf8 (codes "(J)V") ∷ entry.NameAndType 7 8 ∷ entry.Method 2 9
    ∷ entry.InterfaceMethod 2 9 ∷ entry.Utf8 (codes "[[I") ∷ entry.Class 12 ∷ entry.Str 3 ∷ []

-- the class A, as a type (JVMS 4.4.1)
abbrev pub class_a : FieldType
class_a = record { dims = 0; base = base.Class (codes "A") }

-- the array type [[I (JVMS 4.4.1)
abbrev pub rows_of_ints : FieldType
rows_of_ints = record { dims = 2; base = base.Int }

-- the field f of A, an int (JVMS 4.4.2)
abbrev pub field : MemberRef
field = record { class = class_a; name = codes "f"; ty = codes "I"; of_interface = false }

-- the method m of A, which takes a long; of a class, or of an interface (JVMS 4.4.2)
abbrev pub method : Bool → MemberRef
method of_interface = record { class = class_a; name = codes "m"; ty = codes "(J)V"; of_interface = of_interface }

-- instructions on fields and methods (JVMS 6.5)
abbrev pub on_members : List Ins
on_members = map unlined (op.GetStatic field ∷ op.PutStatic field ∷ op.GetField field ∷ op.PutField field
    ∷ op.InvokeVirtual (method false) ∷ op.InvokeSpecial (method false) ∷ op.InvokeSpecial (method true)
    ∷ op.InvokeStatic (method false) ∷ op.InvokeStatic (method true) ∷ op.InvokeInterface (method true) ∷ [])

-- instructions on types, and ldc of a string (JVMS 6.5)
abbrev pub on_types : List Ins
on_types = map unlined (op.New (codes "A") ∷ op.ANewArray class_a ∷ op.ANewArray rows_of_ints
    ∷ op.CheckCast class_a ∷ op.CheckCast rows_of_ints ∷ op.InstanceOf class_a ∷ op.InstanceOf rows_of_ints
    ∷ op.MultiNewArray rows_of_ints 1 ∷ op.MultiNewArray rows_of_ints 2
    ∷ op.PushText (codes "f") ∷ [])

-- newarray of each type that is taken (JVMS 6.5.newarray)
abbrev pub new_arrays : List Ins
new_arrays = map unlined
    (op.NewArray base.Boolean ∷ op.NewArray base.Char ∷ op.NewArray base.Byte ∷ op.NewArray base.Short
    ∷ op.NewArray base.Int ∷ op.NewArray base.Long ∷ [])

-- the field at index 6, the method at 10, that of the interface at 11 with the count 3 for the object and a long
-- (JVMS 6.5)
abbrev pub AreOnMembers : Type 0
AreOnMembers = coded (constants_in filled_pool) on_members ≡ Ok (record {
  bytes = hex (codes "B20006B30006B40006B50006B6000AB7000AB7000BB8000AB8000BB9000B0300");
  starts = 0 ∷ 3 ∷ 6 ∷ 9 ∷ 12 ∷ 15 ∷ 18 ∷ 21 ∷ 24 ∷ 27 ∷ [];
})

-- the class at index 2, the array type at 13, the string at 14 (JVMS 6.5)
abbrev pub AreOnTypes : Type 0
AreOnTypes = coded (constants_in filled_pool) on_types ≡ Ok (record {
  bytes = hex (codes "BB0002BD0002BD000DC00002C0000DC10002C1000DC5000D01C5000D02120E");
  starts = 0 ∷ 3 ∷ 6 ∷ 9 ∷ 12 ∷ 15 ∷ 18 ∷ 21 ∷ 25 ∷ 29 ∷ [];
})

-- the codes of the types by the table of newarray (JVMS 6.5, table 6.5.newarray-A)
abbrev pub AreNewArrays : Type 0
AreNewArrays = coded [] new_arrays ≡ Ok (record {
  bytes = hex (codes "BC04BC05BC08BC09BC0ABC0B");
  starts = 0 ∷ 2 ∷ 4 ∷ 6 ∷ 8 ∷ 10 ∷ [];
})

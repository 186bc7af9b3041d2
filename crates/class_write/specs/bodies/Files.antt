-- The parts of a ClassFile as they are written one behind the other (JVMS 4.1; only the proof of write_class needs it).
use Rattle.std.specs.Prelude.{ℕ, ◌+◌, List, ◌++◌, length, map}
use Rattle.std.specs.Int.{w16, to_be_bytes}
use Rattle.std.specs.List.{flat_map}
use Rattle.class_model.specs.declared.class.Class.{Class}
use Rattle.class_model.specs.declared.constant.PoolConstant.{PoolConstant}
use Rattle.class_model.specs.Structure.{member_info, head}
use Rattle.class_model.specs.ConstantPool.{cp_info}
use Rattle.class_model.specs.CanonicalPool.{infos_of}
use Rattle.class_model.specs.CanonicalClass.{class_index, field_raw, class_raw}

-- the pool behind its count
abbrev pub pool_text : List PoolConstant → List ℕ
pool_text pool = to_be_bytes w16 (length pool + 1) ++ flat_map cp_info (infos_of pool)

-- access_flags, this_class and super_class
abbrev pub names_text : List PoolConstant → Class → List ℕ
names_text pool c = to_be_bytes w16 c.flags.0 ++
    (to_be_bytes w16 (class_index pool c.name) ++ to_be_bytes w16 (class_index pool c.super_name))

-- the interfaces behind their count
abbrev pub interfaces_text : List PoolConstant → Class → List ℕ
interfaces_text pool c = to_be_bytes w16 (length (map (class_index pool) c.interfaces)) ++ flat_map (to_be_bytes w16)
    (map (class_index pool) c.interfaces)

-- the fields behind their count
abbrev pub fields_text : List PoolConstant → Class → List ℕ
fields_text pool c = to_be_bytes w16 (length (map (field_raw pool) c.fields)) ++ flat_map member_info
    (map (field_raw pool) c.fields)

-- all in front of the methods
abbrev pub front_text : List PoolConstant → Class → List ℕ
front_text pool c = head ++ (pool_text pool ++ (names_text pool c ++ (interfaces_text pool c ++ (fields_text pool c
    ++ to_be_bytes w16 (length (class_raw pool c).methods)))))

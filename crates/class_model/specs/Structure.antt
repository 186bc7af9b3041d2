-- The structures of a class file, with the numbers that stand there (JVMS 4.1, 4.5 to 4.7).
use Rattle.std.specs.Prelude.{ℕ, List, ◌++◌, length}
use Rattle.std.specs.Int.{w16, w32, to_be_bytes}
use Rattle.std.specs.List.{flat_map}

-- attribute_info (JVMS 4.7)
pub record AttributeInfo : Type 0 where
  pub attribute_name_index : ℕ
  pub info : List ℕ

-- its bytes, with the length of its contents (JVMS 4.7)
abbrev pub attribute_info : AttributeInfo → List ℕ
attribute_info a = to_be_bytes w16 a.attribute_name_index ++ (to_be_bytes w32 (length a.info) ++ a.info)

-- field_info and method_info, which have the same items (JVMS 4.5, 4.6)
pub record MemberInfo : Type 0 where
  pub access_flags : ℕ
  pub name_index : ℕ
  pub descriptor_index : ℕ
  pub attributes : List AttributeInfo

-- its bytes, with the count of its attributes (JVMS 4.5, 4.6)
abbrev pub member_info : MemberInfo → List ℕ
member_info m = to_be_bytes w16 m.access_flags ++ (to_be_bytes w16 m.name_index ++ (to_be_bytes w16 m.descriptor_index
    ++ (to_be_bytes w16 (length m.attributes) ++ flat_map attribute_info m.attributes)))

-- a row of the exception table (JVMS 4.7.3)
pub record ExceptionInfo : Type 0 where
  pub start_pc : ℕ
  pub end_pc : ℕ
  pub handler_pc : ℕ
  pub catch_type : ℕ

-- its bytes (JVMS 4.7.3)
abbrev pub exception_info : ExceptionInfo → List ℕ
exception_info e = to_be_bytes w16 e.start_pc ++
    (to_be_bytes w16 e.end_pc ++ (to_be_bytes w16 e.handler_pc ++ to_be_bytes w16 e.catch_type))

-- the contents of a Code attribute (JVMS 4.7.3)
pub record CodeInfo : Type 0 where
  pub max_stack : ℕ
  pub max_locals : ℕ
  pub code : List ℕ
  pub exception_table : List ExceptionInfo
  pub attributes : List AttributeInfo

-- its bytes, with the length of the code and the counts of the tables (JVMS 4.7.3)
abbrev pub code_info : CodeInfo → List ℕ
code_info c = to_be_bytes w16 c.max_stack ++
    (to_be_bytes w16 c.max_locals ++ (to_be_bytes w32 (length c.code) ++ (c.code
    ++ (to_be_bytes w16 (length c.exception_table) ++ (flat_map exception_info c.exception_table
    ++ (to_be_bytes w16 (length c.attributes) ++ flat_map attribute_info c.attributes))))))

-- magic, minor_version and major_version: CAFEBABE, 0 and 52 (JVMS 4.1)
abbrev pub head : List ℕ
head = to_be_bytes w32 0xCAFEBABE ++ (to_be_bytes w16 0 ++ to_be_bytes w16 52)

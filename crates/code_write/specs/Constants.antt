-- The constants of a pool by what they say, in the order of their indices (JVMS 4.4).
use Rattle.std.specs.Prelude.{ℕ, zero, suc, ◌-◌, pos, List, [], ◌∷◌, ◌++◌, length, slice_get, Option, Some, None}
use Rattle.class_model.specs.declared.constant.PoolConstant.{PoolConstant}
use Rattle.class_model.specs.declared.constant.PoolConstant.TheVariants.{Utf8, Integer, Long, SecondOfLong, Class, Str}
use Rattle.class_model.specs.declared.constant.PoolConstant.TheVariants.{NameAndType, Fieldref, Methodref}
use Rattle.class_model.specs.declared.constant.PoolConstant.TheVariants.{InterfaceMethodref}
use Rattle.class_model.specs.declared.pool.Entry.{Entry}
use Rattle.class_model.specs.declared.pool.Entry.TheVariants as entry
use Rattle.class_model.specs.Pool.{units_at, class_units_at}
use Rattle.class_model.specs.ConstantPool.{name_and_type_at}
use Rattle.code_write.specs.declared.said.Member.{Member}

-- an entry that says nothing here is told as the second index of a Long, which no instruction names
-- (the project's own: each index has a constant)
abbrev pub nothing : PoolConstant
nothing = SecondOfLong (pos 0)

-- what is said of a text, if it is there (JVMS 4.4.1, 4.4.3)
abbrev pub of_text : (List ℕ → PoolConstant) → Option (List ℕ) → PoolConstant
of_text make (Some text) = make text
of_text make None = nothing

-- what is said of a name and a descriptor, if both are there (JVMS 4.4.6)
abbrev pub of_texts : (List ℕ → List ℕ → PoolConstant) → Option (List ℕ) → Option (List ℕ) → PoolConstant
of_texts make (Some name) (Some descriptor) = make name descriptor
of_texts make _ _ = nothing

-- the texts of a reference to a member, if all are there (JVMS 4.4.2)
abbrev pub texts_of : Option (List ℕ) → Option (List ℕ) → Option (List ℕ) → Option Member
texts_of (Some class) (Some name) (Some descriptor) = Some
    (record { class = class; name = name; descriptor = descriptor })
texts_of _ _ _ = None

-- those of a class, and of a name and a descriptor by their indices (JVMS 4.4.2, 4.4.6)
abbrev pub named_texts : List Entry → Option (List ℕ) → Option (ℕ × ℕ) → Option Member
named_texts pool class (Some indices) = texts_of class (units_at pool indices.0) (units_at pool indices.1)
named_texts pool class None = None

-- those of the class and of the name and type at two indices (JVMS 4.4.2)
abbrev pub member_at : List Entry → ℕ → ℕ → Option Member
member_at pool class index = named_texts pool (class_units_at pool class) (name_and_type_at pool index)

-- a reference to a field (JVMS 4.4.2)
abbrev pub fieldref_of : Option Member → PoolConstant
fieldref_of (Some m) = Fieldref m.class m.name m.descriptor
fieldref_of None = nothing

-- a reference to a method of a class (JVMS 4.4.2)
abbrev pub methodref_of : Option Member → PoolConstant
methodref_of (Some m) = Methodref m.class m.name m.descriptor
methodref_of None = nothing

-- a reference to a method of an interface (JVMS 4.4.2)
abbrev pub interface_methodref_of : Option Member → PoolConstant
interface_methodref_of (Some m) = InterfaceMethodref m.class m.name m.descriptor
interface_methodref_of None = nothing

-- behind a Long comes its second index (JVMS 4.4.5)
abbrev pub second_of : Option Entry → PoolConstant
second_of (Some (entry.Long n)) = SecondOfLong n
second_of _ = nothing

-- what an entry says, behind the one before it (JVMS 4.4.1 to 4.4.7)
abbrev pub said : List Entry → Option Entry → Option Entry → PoolConstant
said pool before (Some (entry.Utf8 text)) = Utf8 text
said pool before (Some (entry.Integer n)) = Integer n
said pool before (Some (entry.Long n)) = Long n
said pool before (Some (entry.Class index)) = of_text (λ name. Class name) (units_at pool index)
said pool before (Some (entry.Str index)) = of_text (λ text. Str text) (units_at pool index)
said pool before (Some (entry.NameAndType name descriptor)) = of_texts (λ n d. NameAndType n d) (units_at pool name)
    (units_at pool descriptor)
said pool before (Some (entry.Field class index)) = fieldref_of (member_at pool class index)
said pool before (Some (entry.Method class index)) = methodref_of (member_at pool class index)
said pool before (Some (entry.InterfaceMethod class index)) = interface_methodref_of (member_at pool class index)
said pool before (Some entry.Gap) = second_of before
said pool before _ = nothing

-- what the entry at an index says (JVMS 4.4.1 to 4.4.7)
unfoldable pub said_at : List Entry → ℕ → PoolConstant
said_at pool index = said pool (slice_get pool (index - 1)) (slice_get pool index)

-- what the entries from index 1 on say, as many as are told (JVMS 4.1, 4.4)
unfoldable pub first_constants : List Entry → ℕ → List PoolConstant
first_constants pool zero = []
first_constants pool (suc n) = first_constants pool n ++ said_at pool (suc n) ∷ []

-- what the entries of a pool say, that of index i at place i - 1; index 0 is no entry (JVMS 4.1)
abbrev pub constants_in : List Entry → List PoolConstant
constants_in pool = first_constants pool (length pool - 1)

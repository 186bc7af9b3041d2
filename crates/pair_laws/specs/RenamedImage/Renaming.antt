-- Classes under new names, in whatever order, and what is asked of names so that all else stays (JVMS 4, 5.4).
use Rattle.std.specs.Prelude.{◌≡◌, ◌⊎◌, ℕ, nat_eq, ◌==◌, ◌||◌, Bool, true, false, List, [], ◌∷◌, map, Some, codes}
use Rattle.std.specs.Prelude.{slice_get}
use Rattle.std.specs.Prelude.{IsTrue, is_some, if◌then◌else◌}
use Rattle.std.specs.List.{AllByRecursion, AllZip, starts_with}
use Rattle.std.specs.Option.{option_map}
use Rattle.jv_base.specs.Names.{is_class_name}
use Rattle.jv_base.specs.Types.{IsFieldType, IsMethodType, method_text}
use Rattle.lib_table.specs.Lookups as table
use Rattle.class_model.specs.Flags.{is_init}
use Rattle.class_model.specs.declared.class.Class.{Class}
use Rattle.class_model.specs.declared.class.Field.{Field}
use Rattle.class_model.specs.declared.class.Method.{Method}
use Rattle.class_pool.specs.Found.{MemberRow, NameAndType, package_of, rows_in}
use Rattle.class_pool.specs.Hierarchy.{class_named}
use Rattle.class_pool.specs.declared.id.ClassId.{ClassId}
use Rattle.class_pool.specs.declared.id.ClassId.TheVariants.{Prog, Lib}
use Rattle.class_pool.specs.declared.id.MemberAt.{MemberAt}
use Rattle.class_rename.specs.Names.{Names}
use Rattle.class_rename.specs.Renamed.{renamed_field_text, renamed_method_text, renamed_method_type, renamed_type}
use Rattle.pair_laws.specs.RenamedForm.Form.{IsKnownMethodType, IsKnownType}

-- ---- names that are there

-- a name in a package of the library (that no class of a program has one is the project's own)
abbrev pub is_library_name : List ℕ → Bool
is_library_name name = starts_with nat_eq name (codes "java/")

-- a class has the name, or it is in a package of the library: members of the library name classes that the table lacks
-- (the project's own)
abbrev pub is_known : List Class → List ℕ → Bool
is_known classes name = is_library_name name || is_some (class_named classes name)

-- a class declares a method, or with false a field, of this name and descriptor (JVMS 4.5, 4.6)
pub record IsNamedBy (classes : List Class) (method : Bool) (named : NameAndType) : Type 0 where
  pub class : ClassId
  pub index : ℕ
  pub row : MemberRow
  pub at : slice_get (rows_in classes class) index ≡ Some row
  pub kind : row.is_method ≡ method
  pub named_is : row.named ≡ named

-- the name and descriptor of a method, or with false of a field, of some class; so are those of class initialisation
-- methods, by their name (JVMS 2.9)
abbrev pub IsMemberName : List Class → Bool → NameAndType → Type 0
IsMemberName classes method named =
    IsNamedBy classes method named ⊎ ((method ≡ true) × (named.0 ≡ codes "<clinit>"))

-- each class is found by its name, and a name in the library's packages leads to the library (JVMS 5.3.5; that the set
-- has none of these is the project's own)
pub record FindsItsClasses (classes : List Class) : Type 0 where
  pub own : (n : ℕ) (c : Class) → slice_get classes n ≡ Some c → class_named classes c.name ≡ Some (Prog n)
  pub library : (name : List ℕ) → is_library_name name ≡ true
      → class_named classes name ≡ option_map Lib (table.class_named name)

-- supertypes are there, and types of members are types, of classes that are there (JVMS 4.1, 4.3)
pub record NamesKnownTypes (classes : List Class) : Type 0 where
  pub super_class : (n : ℕ) (c : Class) → slice_get classes n ≡ Some c
      → is_some (class_named classes c.super_name) ≡ true
  pub interfaces : (n : ℕ) (c : Class) → slice_get classes n ≡ Some c
      → AllByRecursion (λ name. is_some (class_named classes name) ≡ true) c.interfaces
  pub fields : (n : ℕ) (c : Class) → slice_get classes n ≡ Some c
      → AllByRecursion (λ (f : Field). IsFieldType f.ty × IsKnownType (is_known classes) f.ty) c.fields
  pub methods : (n : ℕ) (c : Class) → slice_get classes n ≡ Some c
      → AllByRecursion (λ (m : Method). IsMethodType m.ty × IsKnownMethodType (is_known classes) m.ty) c.methods

-- ---- what is asked of names

-- what is of the library keeps its name, no two names that are there become one, packages stay, and initialisation
-- methods stay such (JVMS 4.2, 2.9, 5.3)
pub record KeepsNamesApart (names : Names) (classes : List Class) : Type 0 where
  pub library_class : (name : List ℕ) → is_library_name name ≡ true → names.class name ≡ name
  pub class_name : (name : List ℕ) → IsTrue (is_class_name name) → IsTrue (is_class_name (names.class name))
  pub one_class : (a b : List ℕ) → is_known classes a ≡ true → is_known classes b ≡ true
      → names.class a ≡ names.class b → a ≡ b
  pub packages : (n : ℕ) (c : Class) → slice_get classes n ≡ Some c
      → package_of (names.class c.name) ≡ package_of c.name
  pub library_field : (id k : ℕ) (row : MemberRow) → slice_get (rows_in classes (Lib id)) k ≡ Some row
      → row.is_method ≡ false → names.field row.named.0 ≡ row.named.0
  pub library_method : (id k : ℕ) (row : MemberRow) → slice_get (rows_in classes (Lib id)) k ≡ Some row
      → row.is_method ≡ true → names.method row.named.0 row.named.1 ≡ row.named.0
  pub one_field : (a b : NameAndType) → IsMemberName classes false a → IsMemberName classes false b
      → names.field a.0 ≡ names.field b.0 → a.0 ≡ b.0
  -- of one descriptor: methods of two descriptors may get one name
  pub one_method : (a b descriptor : List ℕ) → IsMemberName classes true (a, descriptor)
      → IsMemberName classes true (b, descriptor) → names.method a descriptor ≡ names.method b descriptor → a ≡ b
  pub init_field : (a : NameAndType) → IsMemberName classes false a → is_init (names.field a.0) ≡ is_init a.0
  pub init_method : (a descriptor : List ℕ) → IsMemberName classes true (a, descriptor)
      → is_init (names.method a descriptor) ≡ is_init a
  pub clinit : (descriptor : List ℕ) → names.method (codes "<clinit>") descriptor ≡ codes "<clinit>"

-- ---- classes under new names

-- the descriptor is that of a method (JVMS 4.3.3)
abbrev pub is_method_text : List ℕ → Bool
is_method_text [] = false
is_method_text (b ∷ bs) = b == 40

module _ (names : Names) where
  -- a field under new names, with its flags and its constant (JVMS 4.5, 4.7.2)
  pub record IsNewField (f g : Field) : Type 0 where
    pub name : g.name ≡ names.field f.name
    pub ty : g.ty ≡ renamed_type names f.ty
    pub flags : g.flags ≡ f.flags
    pub constant : g.constant ≡ f.constant

  -- a method under new names, with its flags (JVMS 4.6)
  pub record IsNewMethod (m n : Method) : Type 0 where
    pub name : n.name ≡ names.method m.name (method_text m.ty)
    pub ty : n.ty ≡ renamed_method_type names m.ty
    pub flags : n.flags ≡ m.flags

  -- a class under new names, with its flags and its members in their order (JVMS 4.1)
  pub record IsNewClass (c d : Class) : Type 0 where
    pub name : d.name ≡ names.class c.name
    pub flags : d.flags ≡ c.flags
    pub super_name : d.super_name ≡ names.class c.super_name
    pub interfaces : d.interfaces ≡ map names.class c.interfaces
    pub fields : AllZip IsNewField c.fields d.fields
    pub methods : AllZip IsNewMethod c.methods d.methods

  -- each class stands under its new name at its place
  abbrev pub IsRenamedSet : (ℕ → ℕ) → List Class → List Class → Type 0
  IsRenamedSet place xs ys = (n : ℕ) (c : Class) → slice_get xs n ≡ Some c
      → (d : Class) × (slice_get ys (place n) ≡ Some d) × IsNewClass c d

  -- ---- names and descriptors

  -- the new name and descriptor of a member (JVMS 4.3)
  abbrev pub renamed_named : NameAndType → NameAndType
  renamed_named named =
      if is_method_text named.1 then (names.method named.0 named.1, renamed_method_text names named.1)
      else (names.field named.0, renamed_field_text names named.1)

-- ---- places

-- where a class stands in the other list; the library stays
abbrev pub placed_class : (ℕ → ℕ) → ClassId → ClassId
placed_class place (Prog n) = Prog (place n)
placed_class place (Lib id) = Lib id

-- a member keeps its number
abbrev pub placed_member : (ℕ → ℕ) → MemberAt → MemberAt
placed_member place m = record { class = placed_class place m.class; index = m.index }

-- A pool whose constants stand with their parts is a constant pool (JVMS 4.4).
use Rattle.std.proofs.Common.{◌≡◌, ◌⊎◌, inl, inr, ℕ, zero, suc, ◌+◌, ◌^◌, ◌<◌, Bool, List, [], ◌∷◌, length, map, Option}
use Rattle.std.proofs.Common.{Some, None, slice_get, sym, ap, subst, ◌∙◌, arith}
use Rattle.std.specs.Prelude.{option_and_then, IsTrue, IsUtf8}
use Rattle.std.specs.Int.{w32, w64}
use Rattle.std.specs.Int.RustNames.{FitsSigned}
use Rattle.std.specs.List.{AllByRecursion, flat_map}
use Rattle.std.proofs.lemmas.List.{length-map}
use Rattle.jv_base.specs.Mutf8.{IsUnits}
use Rattle.jv_base.specs.Utf16.{units_of}
use Rattle.jv_base.specs.Names.{is_member_name, is_method_name}
use Rattle.jv_base.specs.Types.{IsBase, IsFieldType}
use Rattle.jv_base.specs.declared.types.FieldType.{FieldType}
use Rattle.jv_base.specs.declared.types.Base.{Base}
use Rattle.class_model.specs.declared.constant.PoolConstant.{PoolConstant}
use Rattle.class_model.specs.declared.constant.PoolConstant.TheVariants.{Utf8, Integer, Long, SecondOfLong, Class, Str}
use Rattle.class_model.specs.declared.constant.PoolConstant.TheVariants.{NameAndType, Fieldref, Methodref}
use Rattle.class_model.specs.declared.constant.PoolConstant.TheVariants.{InterfaceMethodref}
use Rattle.class_model.specs.Pool.{units_in, units_at, name_index_in, class_units_at, IsText, IsTypeText}
use Rattle.class_model.specs.ConstantPool.{IsPool, IsFieldText, IsMethodText, IsTypeAt, IsNameOfType, name_and_type_in}
use Rattle.class_model.specs.ConstantPool.{IsNameAndTypeAt, RefersRight, NamesRight}
use Rattle.class_model.specs.CanonicalPool.{type_name, index_of, infos_of}
use Rattle.class_model.specs.bodies.PoolEntries.{entry_of, entries_of, Has, ConstantFits, ArePaired}
use Rattle.class_model.specs.Says.{SaysClass}
use Rattle.class_model.specs.WellFormed.{IsClassOrArray}
use Rattle.class_model.specs.OpValues.{IsBaseValue}
use Rattle.class_model.proofs.NameLaw.{HaveUnits}
use Rattle.class_model.proofs.LookupLaw.{type_found}
use Rattle.class_model.proofs.BackEntries.{type_back}
use Rattle.class_model.proofs.BackPool.{at_index}
use Rattle.class_model.proofs.BackConstants.{written, constants_stand, numbers_are}

-- ---- what a constant has to be in a pool

-- the units name a class or an array type
pub record IsTypeNamed (units : List ℕ) : Type 0 where
  pub ty : FieldType
  pub is : units ≡ units_of (type_name ty)
  pub good : IsClassOrArray ty
  pub value : IsBaseValue ty.base

-- the units are those of a name and a descriptor
pub record AreNamed (is_name : List ℕ → Bool) (IsDescriptor : List ℕ → Type 0)
    (name_units descriptor_units : List ℕ) : Type 0 where
  pub name : List ℕ
  pub descriptor : List ℕ
  pub name_is : name_units ≡ units_of name
  pub descriptor_is : descriptor_units ≡ units_of descriptor
  pub name_utf8 : IsUtf8 name
  pub descriptor_utf8 : IsUtf8 descriptor
  pub named : IsTrue (is_name name)
  pub described : IsDescriptor descriptor

-- a descriptor of either kind
abbrev pub IsDescriptor : List ℕ → Type 0
IsDescriptor text = IsFieldText text ⊎ IsMethodText text

module _ (pool : List PoolConstant) where
  -- a reference has its class, and its name and type, each with its parts
  pub record HasParts (is_name : List ℕ → Bool) (Describes : List ℕ → Type 0)
      (class name descriptor : List ℕ) : Type 0 where
    pub class_text : Has pool (Utf8 class)
    pub class_there : Has pool (Class class)
    pub class_named : IsTypeNamed class
    pub name_text : Has pool (Utf8 name)
    pub descriptor_text : Has pool (Utf8 descriptor)
    pub name_and_type : Has pool (NameAndType name descriptor)
    pub names : AreNamed is_name Describes name descriptor

  -- a constant has its parts in the pool, and they name what they have to
  abbrev pub IsRight : PoolConstant → Type 0
  IsRight (Utf8 units) = IsUnits units
  IsRight (Integer n) = FitsSigned w32 n
  IsRight (Long n) = FitsSigned w64 n
  IsRight (SecondOfLong n) = Unit {0}
  IsRight (Class name) = Has pool (Utf8 name) × IsTypeNamed name
  IsRight (Str units) = Has pool (Utf8 units)
  IsRight (NameAndType name descriptor) = Has pool (Utf8 name) × Has pool (Utf8 descriptor)
      × AreNamed is_method_name IsDescriptor name descriptor
  IsRight (Fieldref class name descriptor) = HasParts is_member_name IsFieldText class name descriptor
  IsRight (Methodref class name descriptor) = HasParts is_method_name IsMethodText class name descriptor
  IsRight (InterfaceMethodref class name descriptor) = HasParts is_method_name IsMethodText class name descriptor

-- ---- texts in it

-- the entries have units where they have texts
units_by : (pool ks : List PoolConstant) → AllByRecursion (IsRight pool) ks → (index : ℕ) (units : List ℕ)
    → option_and_then units_in (slice_get (map (entry_of pool) ks) index) ≡ Some units → IsUnits units
units_by pool [] h index units e = absurd cc
units_by pool (k ∷ ks) h (suc index) units e = units_by pool ks h.1 index units e
units_by pool (Utf8 text ∷ ks) h zero units e = subst (λ (u : List ℕ). IsUnits u) (let s : text ≡ units = cc in s) h.0
units_by pool (Integer n ∷ ks) h zero units e = absurd cc
units_by pool (Long n ∷ ks) h zero units e = absurd cc
units_by pool (SecondOfLong n ∷ ks) h zero units e = absurd cc
units_by pool (Class name ∷ ks) h zero units e = absurd cc
units_by pool (Str text ∷ ks) h zero units e = absurd cc
units_by pool (NameAndType a b ∷ ks) h zero units e = absurd cc
units_by pool (Fieldref a b c ∷ ks) h zero units e = absurd cc
units_by pool (Methodref a b c ∷ ks) h zero units e = absurd cc
units_by pool (InterfaceMethodref a b c ∷ ks) h zero units e = absurd cc

pub have_units : (pool : List PoolConstant) → AllByRecursion (IsRight pool) pool → HaveUnits (entries_of pool)
have_units pool h zero units e = absurd cc
have_units pool h (suc index) units e = units_by pool pool h index units e

module _ (pool : List PoolConstant) where
  -- the units at the index of a text
  pub units_there : (units : List ℕ) → Has pool (Utf8 units)
      → units_at (entries_of pool) (index_of pool (Utf8 units)) ≡ Some units
  units_there units h = ap (option_and_then units_in) (at_index pool (Utf8 units) h)

  pub text_there : (text units : List ℕ) → units ≡ units_of text → IsUtf8 text → Has pool (Utf8 units)
      → IsText (units_at (entries_of pool) (index_of pool (Utf8 units))) text
  text_there text units e utf8 h = (
    utf8,
    units_there units h
        ∙ ap (λ (u : List ℕ). let o : Option (List ℕ) = Some u in o) e,
  )

  -- the text that a class names
  pub class_units_there : (name : List ℕ) → Has pool (Utf8 name) → Has pool (Class name)
      → class_units_at (entries_of pool) (index_of pool (Class name)) ≡ Some name
  class_units_there name t h = ap (λ e. option_and_then (units_at (entries_of pool)) (option_and_then name_index_in e))
      (at_index pool (Class name) h) ∙ units_there name t

  pub class_said : (name : List ℕ) → Has pool (Utf8 name) → Has pool (Class name)
      → SaysClass (entries_of pool) (index_of pool (Class name)) name
  class_said name t h = (index_of pool (Utf8 name), at_index pool (Class name) h, at_index pool (Utf8 name) t)

-- the name of a type is one that a class may have
type_text : (text : List ℕ) (ty : FieldType) → IsFieldType ty → IsNameOfType text ty → IsTypeText text
type_text text ty is (inl class) = inl
    (let t : FieldType = ty in subst (λ (b : Base). IsBase b) (ap (λ (t : FieldType). t.base) class) is.named)
type_text text ty is (inr array) = inr (ty, is, array.0, array.1)

module _ (pool : List PoolConstant) (right : AllByRecursion (IsRight pool) pool) where
  -- the type that a class of the pool names
  pub type_there : (name : List ℕ) (n : IsTypeNamed name) → Has pool (Utf8 name) → Has pool (Class name)
      → IsTypeAt (entries_of pool) (index_of pool (Class name)) n.ty
  type_there name n t h =
      let index = index_of pool (Class name) in
      type_found (entries_of pool) index n.ty (have_units pool right)
      (type_back (entries_of pool) index n.ty
      (subst (λ (u : List ℕ). SaysClass (entries_of pool) index u) n.is (class_said pool name t h)) n.good n.value)

  -- ---- what each names

  name_and_type_there : (is_name : List ℕ → Bool) (Describes : List ℕ → Type 0) (name descriptor : List ℕ)
      (n : AreNamed is_name Describes name descriptor) → Has pool (Utf8 name) → Has pool (Utf8 descriptor)
      → Has pool (NameAndType name descriptor)
      → IsNameAndTypeAt (entries_of pool) (index_of pool (NameAndType name descriptor)) n.name n.descriptor
  name_and_type_there is_name Describes name descriptor n s t h = record {
    indices = (index_of pool (Utf8 name), index_of pool (Utf8 descriptor));
    entry = ap (option_and_then name_and_type_in) (at_index pool (NameAndType name descriptor) h);
    name_text = text_there pool n.name name n.name_is n.name_utf8 s;
    descriptor_text = text_there pool n.descriptor descriptor n.descriptor_is n.descriptor_utf8 t;
  }

  refers : (is_name : List ℕ → Bool) (Describes : List ℕ → Type 0) (class name descriptor : List ℕ)
      → HasParts pool is_name Describes class name descriptor
      → RefersRight (entries_of pool) (index_of pool (Class class))
      (index_of pool (NameAndType name descriptor)) is_name Describes
  refers is_name Describes class name descriptor h = record {
    class = (h.class_named.ty, type_there class h.class_named h.class_text h.class_there);
    name = h.names.name;
    descriptor = h.names.descriptor;
    name_and_type = name_and_type_there is_name Describes name descriptor h.names h.name_text h.descriptor_text
        h.name_and_type;
    named = h.names.named;
    described = h.names.described;
  }

  names_by : (ks : List PoolConstant) → AllByRecursion (IsRight pool) ks → AllByRecursion (Has pool) ks
      → AllByRecursion (NamesRight (entries_of pool)) (flat_map (written pool) ks)
  names_by [] h k = tt
  names_by (Utf8 text ∷ ks) h k = (tt, names_by ks h.1 k.1)
  names_by (Integer n ∷ ks) h k = (tt, names_by ks h.1 k.1)
  names_by (Long n ∷ ks) h k = (tt, names_by ks h.1 k.1)
  names_by (SecondOfLong n ∷ ks) h k = names_by ks h.1 k.1
  names_by (Class name ∷ ks) h k =
      let t = type_there name h.0.1 h.0.0 k.0 in
      let same : class_units_at (entries_of pool) (index_of pool (Class name))
      ≡ units_at (entries_of pool) (index_of pool (Utf8 name)) = class_units_there pool name h.0.0 k.0
      ∙ sym (units_there pool name h.0.0) in
      ((t.0, (t.1.0, sym same ∙ t.1.1), type_text t.0 h.0.1.ty t.2 t.3), names_by ks h.1 k.1)
  names_by (Str text ∷ ks) h k = ((text, units_there pool text h.0), names_by ks h.1 k.1)
  names_by (NameAndType name descriptor ∷ ks) h k =
      let n = h.0.2 in (
        (
          n.name,
          n.descriptor,
          text_there pool n.name name n.name_is n.name_utf8 h.0.0,
          n.named,
          text_there pool
              n.descriptor descriptor n.descriptor_is n.descriptor_utf8 h.0.1,
          n.described,
        ),
        names_by ks h.1 k.1,
      )
  names_by (Fieldref a b c ∷ ks) h k = (refers is_member_name IsFieldText a b c h.0, names_by ks h.1 k.1)
  names_by (Methodref a b c ∷ ks) h k = (refers is_method_name IsMethodText a b c h.0, names_by ks h.1 k.1)
  names_by (InterfaceMethodref a b c ∷ ks) h k = (refers is_method_name IsMethodText a b c h.0, names_by ks h.1 k.1)

  -- ---- the whole pool

  pub pool_is : AllByRecursion (Has pool) pool → AllByRecursion ConstantFits pool → ArePaired None pool
      → length pool + 1 < 2 ^ 16 → IsPool (length pool + 1) (infos_of pool) (entries_of pool)
  pool_is has fit paired count = record {
    entries = flat_map (written pool) pool;
    stand = constants_stand pool count fit;
    numbers = numbers_are pool paired;
    count_fits = count;
    counted = let e : length (map (entry_of pool) pool)
        ≡ length pool = length-map pool (entry_of pool) in omega (arith, e);
    names = names_by pool right has;
  }

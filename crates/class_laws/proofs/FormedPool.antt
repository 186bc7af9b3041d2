-- What the entries of a constant pool name is well formed (JVMS 4.4).
use Rattle.std.proofs.Common.{◌≡◌, inl, inr, ℕ, Bool, List, [], ◌∷◌, Option, Some, slice_get, sym, ap, subst}
use Rattle.std.proofs.Common.{◌∙◌, arith}
use Rattle.std.specs.Prelude.{IsUtf8, IsTrue}
use Rattle.std.specs.Int.{w32, w64}
use Rattle.std.specs.Int.RustNames.{FitsSigned}
use Rattle.std.specs.List.{AllByRecursion, AllZip}
use Rattle.std.proofs.Math.Facts.{sfits_to_z}
use Rattle.jv_base.specs.Utf16.{units_of}
use Rattle.jv_base.specs.Names.{is_member_name, is_method_name}
use Rattle.jv_base.specs.Types.{IsFieldType}
use Rattle.jv_base.specs.declared.types.FieldType.{FieldType}
use Rattle.jv_base.specs.declared.types.Base.{Base}
use Rattle.jv_base.specs.declared.types.Base.TheVariants as base
use Rattle.jv_base.proofs.Options.{both_there}
use Rattle.jv_base.proofs.Lists.{all_weaker}
use Rattle.class_model.specs.declared.pool.Entry.{Entry}
use Rattle.class_model.specs.declared.pool.Entry.TheVariants as entry
use Rattle.class_model.specs.declared.op.MemberRef.{MemberRef}
use Rattle.class_model.specs.Pool.{units_at, IsText, IsClassAt}
use Rattle.class_model.specs.ConstantPool.{CpInfo, Utf8Info, IntegerInfo, LongInfo, ClassInfo, StringInfo, FieldrefInfo}
use Rattle.class_model.specs.ConstantPool.{MethodrefInfo, InterfaceMethodrefInfo, NameAndTypeInfo, LeftOutInfo}
use Rattle.class_model.specs.ConstantPool.{IsConstant, takes_two, places_of, numbered, IsFieldText, IsMethodText}
use Rattle.class_model.specs.ConstantPool.{IsPool, IsTypeAt, IsNameOfType, IsNameAndTypeAt, RefersRight, fieldref_in}
use Rattle.class_model.specs.ConstantPool.{methodref_in, interface_methodref_in, IsReferenceAt}
use Rattle.class_model.specs.Lookups.{text_of}
use Rattle.class_model.specs.WellFormed.{IsClassName, IsClassOrArray, IsReference}
use Rattle.class_model.specs.OpValues.{IsBaseValue, IsReferenceValue}
use Rattle.class_model.proofs.ConstantLaw.{AllNameRight}
use Rattle.class_model.proofs.BackEntries.{text_back}
use Rattle.class_laws.specs.ClassValues.{IsFieldTypeValue}
use Rattle.class_laws.proofs.SpelledLists.{all_if, all_whole}
use Rattle.class_laws.proofs.FormedTexts.{field_value}

-- ---- numbers

-- a number of an entry is in its range
abbrev pub EntryFits : Entry → Type 0
EntryFits (entry.Integer n) = FitsSigned w32 n
EntryFits (entry.Long n) = FitsSigned w64 n
EntryFits _ = Unit {0}

constant_fits : (k : CpInfo) (e : Entry) → IsConstant k e → EntryFits e
constant_fits (Utf8Info bytes) e h = subst EntryFits (sym h.4) tt
constant_fits (IntegerInfo bytes) e h = subst EntryFits (sym h.1) (sfits_to_z (record { fits = h.0 }))
constant_fits (LongInfo high low) e h = subst EntryFits (sym h.2)
    (sfits_to_z (record { fits = let a = h.0 in let b = h.1 in omega arith }))
constant_fits (ClassInfo i) e h = subst EntryFits (sym h.1) tt
constant_fits (StringInfo i) e h = subst EntryFits (sym h.1) tt
constant_fits (FieldrefInfo i j) e h = subst EntryFits (sym h.1) tt
constant_fits (MethodrefInfo i j) e h = subst EntryFits (sym h.1) tt
constant_fits (InterfaceMethodrefInfo i j) e h = subst EntryFits (sym h.1) tt
constant_fits (NameAndTypeInfo i j) e h = subst EntryFits (sym h.1) tt
constant_fits (LeftOutInfo tag bytes) e h = subst EntryFits (sym h.1) tt

constants_fit : (ks : List CpInfo) (es : List Entry) → AllZip IsConstant ks es → AllByRecursion EntryFits es
constants_fit [] [] h = tt
constants_fit [] (e ∷ es) h = absurd h
constants_fit (k ∷ ks) [] h = absurd h
constants_fit (k ∷ ks) (e ∷ es) h = (constant_fits k e h.0, constants_fit ks es h.1)

entries_fit : (es : List Entry) → AllByRecursion EntryFits es → AllByRecursion EntryFits (numbered es)
entries_fit es h = (
  tt,
  all_whole EntryFits places_of es (all_weaker EntryFits
      (λ e. AllByRecursion EntryFits (places_of e))
      (λ e f. all_if EntryFits (takes_two e) (e ∷ entry.Gap ∷ []) (e ∷ []) (f, (tt, tt)) (f, tt)) es h),
)

-- all numbers of a pool are in their ranges
pub pool_fits : (count : ℕ) (ks : List CpInfo) (pool : List Entry) → IsPool count ks pool
    → AllByRecursion EntryFits pool
pool_fits count ks pool h = subst (λ (p : List Entry). AllByRecursion EntryFits p) (sym h.numbers)
    (entries_fit h.entries (constants_fit ks h.entries h.stand))

-- ---- texts

-- units are those of one text
pub one_text : (units : Option (List ℕ)) (one other : List ℕ) → IsText units one → IsText units other → one ≡ other
one_text units one other h k =
    let e : (let o : Option (List ℕ) = Some (units_of one) in o) ≡ Some (units_of other) = sym h.1 ∙ k.1 in
    let u : units_of one ≡ units_of other = cc in
    let s : (let o : Option (List ℕ) = Some one in o) ≡ Some other = sym (text_back one h.0) ∙ ap text_of u
    ∙ text_back other k.0 in
    cc

-- ---- classes

pub class_formed : (pool : List Entry) (index : ℕ) (name : List ℕ) → IsClassAt pool index name → IsClassName name
class_formed pool index name h = (h.1.0, h.2)

name_formed : (text : List ℕ) (ty : FieldType) → IsUtf8 text → IsFieldType ty → IsNameOfType text ty
    → IsClassOrArray ty × IsFieldTypeValue ty
name_formed text ty utf8 is (inl class) =
    let b : ty.base ≡ base.Class text = ap (λ (t : FieldType). t.base) class in
    ((is, inr (text, b)), subst (λ (x : Base). IsBaseValue x) (sym b) utf8)
name_formed text ty utf8 is (inr array) =
    ((is, inl array.0), field_value ty (subst (λ (t : List ℕ). IsUtf8 t) array.1 utf8))

pub type_formed : (pool : List Entry) (index : ℕ) (ty : FieldType) → IsTypeAt pool index ty
    → IsClassOrArray ty × IsFieldTypeValue ty
type_formed pool index ty h = name_formed h.0 ty h.1.0 h.2 h.3

-- ---- references

module _ (pool : List Entry) (right : AllNameRight pool) where
  -- what is there, by the entry's name and type
  referred : (is_name : List ℕ → Bool) (Describes : List ℕ → Type 0) (refers_in : Entry → Option (ℕ × ℕ))
      (i j index : ℕ) (r : MemberRef) (h : IsReferenceAt refers_in pool index r)
      → (let two : ℕ × ℕ = (i, j) in two) ≡ h.indices
      → RefersRight pool i j is_name Describes → IsReference is_name Describes r × IsReferenceValue r
  referred is_name Describes refers_in i j index r h e right =
      let at : j ≡ h.indices.1 = ap (λ (x : ℕ × ℕ). x.1) e in
      let mine = right.name_and_type in
      let its = subst (λ (k : ℕ). IsNameAndTypeAt pool k r.name r.ty) (sym at) h.name_and_type in
      let same : (let o : Option (ℕ × ℕ) = Some mine.indices in o) ≡ Some its.indices = sym mine.entry ∙ its.entry in
      let two : mine.indices ≡ its.indices = cc in
      let name : right.name ≡ r.name = one_text (units_at pool its.indices.0) right.name r.name
      (subst (λ (x : ℕ × ℕ). IsText (units_at pool x.0) right.name) two mine.name_text) its.name_text in
      let ty : right.descriptor
      ≡ r.ty = one_text (units_at pool its.indices.1) right.descriptor r.ty
      (subst
      (λ (x : ℕ × ℕ). IsText (units_at pool x.1) right.descriptor) two mine.descriptor_text) its.descriptor_text in
      let t = type_formed pool h.indices.0 r.class h.class in (
        record {
          class = t.0;
          name = (
            its.name_text.0,
            subst
                (λ (n : List ℕ). IsTrue (is_name n)) name right.named,
          );
          descriptor = subst Describes ty right.described;
        },
        record { class = t.1; name = its.name_text.0; descriptor = its.descriptor_text.0 },
      )

  field_by : (e : Entry) (index : ℕ) (r : MemberRef) (h : IsReferenceAt fieldref_in pool index r)
      → slice_get pool index ≡ Some e → fieldref_in e ≡ Some h.indices
      → IsReference is_member_name IsFieldText r × IsReferenceValue r
  field_by (entry.Field i j) index r h there e = referred is_member_name IsFieldText fieldref_in i j index r h
      (let s : (let two : ℕ × ℕ = (i, j) in two) ≡ h.indices = cc in s) (right index (entry.Field i j) there)
  field_by entry.Gap index r h there e = absurd cc
  field_by (entry.Utf8 u) index r h there e = absurd cc
  field_by (entry.Integer n) index r h there e = absurd cc
  field_by (entry.Long n) index r h there e = absurd cc
  field_by (entry.Class i) index r h there e = absurd cc
  field_by (entry.Str i) index r h there e = absurd cc
  field_by (entry.Method i j) index r h there e = absurd cc
  field_by (entry.InterfaceMethod i j) index r h there e = absurd cc
  field_by (entry.NameAndType i j) index r h there e = absurd cc
  field_by (entry.LeftOut tag) index r h there e = absurd cc

  pub field_formed : (index : ℕ) (r : MemberRef) → IsReferenceAt fieldref_in pool index r
      → IsReference is_member_name IsFieldText r × IsReferenceValue r
  field_formed index r h = let b = both_there fieldref_in
      (slice_get pool index) h.indices h.entry in field_by b.0 index r h b.1 b.2

  method_by : (e : Entry) (index : ℕ) (r : MemberRef) (h : IsReferenceAt methodref_in pool index r)
      → slice_get pool index ≡ Some e → methodref_in e ≡ Some h.indices
      → IsReference is_method_name IsMethodText r × IsReferenceValue r
  method_by (entry.Method i j) index r h there e = referred is_method_name IsMethodText methodref_in i j index r h
      (let s : (let two : ℕ × ℕ = (i, j) in two) ≡ h.indices = cc in s) (right index (entry.Method i j) there)
  method_by entry.Gap index r h there e = absurd cc
  method_by (entry.Utf8 u) index r h there e = absurd cc
  method_by (entry.Integer n) index r h there e = absurd cc
  method_by (entry.Long n) index r h there e = absurd cc
  method_by (entry.Class i) index r h there e = absurd cc
  method_by (entry.Str i) index r h there e = absurd cc
  method_by (entry.Field i j) index r h there e = absurd cc
  method_by (entry.InterfaceMethod i j) index r h there e = absurd cc
  method_by (entry.NameAndType i j) index r h there e = absurd cc
  method_by (entry.LeftOut tag) index r h there e = absurd cc

  pub method_formed : (index : ℕ) (r : MemberRef) → IsReferenceAt methodref_in pool index r
      → IsReference is_method_name IsMethodText r × IsReferenceValue r
  method_formed index r h = let b = both_there methodref_in
      (slice_get pool index) h.indices h.entry in method_by b.0 index r h b.1 b.2

  interface_by : (e : Entry) (index : ℕ) (r : MemberRef) (h : IsReferenceAt interface_methodref_in pool index r)
      → slice_get pool index ≡ Some e → interface_methodref_in e ≡ Some h.indices
      → IsReference is_method_name IsMethodText r × IsReferenceValue r
  interface_by
      (entry.InterfaceMethod i j) index r h there e =
      referred is_method_name IsMethodText interface_methodref_in i j index r h
      (let s : (let two : ℕ × ℕ = (i, j) in two) ≡ h.indices = cc in s)
      (right index (entry.InterfaceMethod i j) there)
  interface_by entry.Gap index r h there e = absurd cc
  interface_by (entry.Utf8 u) index r h there e = absurd cc
  interface_by (entry.Integer n) index r h there e = absurd cc
  interface_by (entry.Long n) index r h there e = absurd cc
  interface_by (entry.Class i) index r h there e = absurd cc
  interface_by (entry.Str i) index r h there e = absurd cc
  interface_by (entry.Field i j) index r h there e = absurd cc
  interface_by (entry.Method i j) index r h there e = absurd cc
  interface_by (entry.NameAndType i j) index r h there e = absurd cc
  interface_by (entry.LeftOut tag) index r h there e = absurd cc

  pub interface_formed : (index : ℕ) (r : MemberRef) → IsReferenceAt interface_methodref_in pool index r
      → IsReference is_method_name IsMethodText r × IsReferenceValue r
  interface_formed index r h = let b = both_there interface_methodref_in
      (slice_get pool index) h.indices h.entry in interface_by b.0 index r h b.1 b.2

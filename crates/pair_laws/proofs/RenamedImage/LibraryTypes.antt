-- What is computed of the descriptors of the library's members: each spells a type of classes in packages of the
-- library.
use Rattle.std.proofs.Common.{◌≡◌, ◌<◌, ◌≤◌, ⊎_elim, ℕ, zero, suc, ◌&&◌, Bool, true, false, cond}
use Rattle.std.proofs.Common.{List, [], ◌∷◌, map, slice_get, Option, Some, None, Result, Ok, Err, refl, sym, ap, subst}
use Rattle.std.proofs.Common.{◌∙◌, length}
use Rattle.std.specs.Prelude.{IfSome}
use Rattle.std.specs.List.{AllByRecursion, list_all}
use Rattle.std.proofs.lemmas.Bool.{and_parts, cases_lt}
use Rattle.std.proofs.lemmas.Option.{same_Some}
use Rattle.jv_base.specs.Descriptors.{grown, read_field, read_method}
use Rattle.jv_base.specs.Names.{is_class_name, is_member_name, is_name_byte, is_primitive_or_void, part_after}
use Rattle.jv_base.specs.Types.{IsFieldType, IsMethodType, argument_words, field_text, method_text, words_of}
use Rattle.jv_base.specs.Walk.{walk}
use Rattle.jv_base.specs.declared.types.Base.{Base}
use Rattle.jv_base.specs.declared.types.Base.TheVariants as base
use Rattle.jv_base.specs.declared.types.FieldType.{FieldType}
use Rattle.jv_base.specs.declared.types.MethodType.{MethodType}
use Rattle.jv_base.specs.declared.descriptors.BadDescriptor.{BadDescriptor}
use Rattle.jv_base.proofs.FieldLaw.{read_field-found}
use Rattle.jv_base.proofs.MethodLaw.{read_method-found}
use Rattle.lib_table.specs.Library.{LibraryClass, LibraryMember, library}
use Rattle.lib_table.specs.Lookups as table
use Rattle.lib_table.specs.declared.class.LibKind.{LibKind}
use Rattle.class_model.specs.declared.class.Class.{Class}
use Rattle.class_pool.specs.Found.{MemberRow, library_row, rows_in}
use Rattle.class_pool.specs.bodies.Graph.{library_ids}
use Rattle.class_pool.specs.declared.id.ClassId.TheVariants.{Lib}
use Rattle.class_pool.proofs.ObjectLaws.{at_row}
use Rattle.pair_laws.specs.RenamedForm.Form.{IsKnownMethodType, IsKnownType}
use Rattle.pair_laws.specs.RenamedImage.Renaming.{is_library_name}
use Rattle.image_laws.proofs.TakenSet.LibraryRows.{past_last}

-- the descriptor spells a type of known classes: of a method, or with false of a field
abbrev pub IsDescribed : (List ℕ → Bool) → Bool → List ℕ → Type 0
IsDescribed known false text = (ty : FieldType) × (IsFieldType ty) × (IsKnownType known ty) × (field_text ty ≡ text)
IsDescribed known true text =
    (ty : MethodType) × (IsMethodType ty) × (IsKnownMethodType known ty) × (method_text ty ≡ text)

-- ---- computed

abbrev is_known_base : Base → Bool
is_known_base (base.Class name) = is_library_name name
is_known_base _ = true

abbrev is_known_type : FieldType → Bool
is_known_type ty = is_known_base ty.base

abbrev is_known_ret : Option FieldType → Bool
is_known_ret None = true
is_known_ret (Some ty) = is_known_type ty

abbrev is_known_field : Result FieldType BadDescriptor → Bool
is_known_field (Ok ty) = is_known_type ty
is_known_field (Err e) = false

abbrev is_known_method : Result MethodType BadDescriptor → Bool
is_known_method (Ok ty) = list_all is_known_type ty.args && is_known_ret ty.ret
is_known_method (Err e) = false

abbrev is_member_described : LibraryMember → Bool
is_member_described m =
    cond m.is_method (is_known_method (read_method m.descriptor)) (is_known_field (read_field m.descriptor))

library_described : list_all (λ id. list_all is_member_described (table.class_at id).members) library_ids ≡ true
unfolding library read_field read_method walk grown is_class_name is_member_name is_name_byte is_primitive_or_void
    part_after words_of argument_words
library_described = refl

-- ---- what is computed for each row holds of it

module _ (known : List ℕ → Bool) (java : (name : List ℕ) → is_library_name name ≡ true → known name ≡ true) where
  base_known : (ty : FieldType) (b : Base) → ty.base ≡ b → is_known_base b ≡ true → IsKnownType known ty
  base_known ty (base.Class x) e is name same =
      let q : x ≡ name = by (sym e ∙ same) in
      java name (ap is_library_name (sym q) ∙ is)
    where
      by : base.Class x ≡ base.Class name → x ≡ name
      by p = cc
  base_known ty base.Boolean e is name same = absurd (let p = sym e ∙ same in cc)
  base_known ty base.Byte e is name same = absurd (let p = sym e ∙ same in cc)
  base_known ty base.Char e is name same = absurd (let p = sym e ∙ same in cc)
  base_known ty base.Short e is name same = absurd (let p = sym e ∙ same in cc)
  base_known ty base.Int e is name same = absurd (let p = sym e ∙ same in cc)
  base_known ty base.Long e is name same = absurd (let p = sym e ∙ same in cc)
  base_known ty base.Float e is name same = absurd (let p = sym e ∙ same in cc)
  base_known ty base.Double e is name same = absurd (let p = sym e ∙ same in cc)

  type_known : (ty : FieldType) → is_known_type ty ≡ true → IsKnownType known ty
  type_known ty is = base_known ty ty.base refl is

  args_known : (args : List FieldType) → list_all is_known_type args ≡ true → AllByRecursion (IsKnownType known) args
  args_known [] is = tt
  args_known (ty ∷ args) is =
      let h = and_parts (is_known_type ty) (list_all is_known_type args) is in
      (type_known ty h.0, args_known args h.1)

  ret_known : (ret : Option FieldType) → is_known_ret ret ≡ true → IfSome ret (IsKnownType known)
  ret_known None is = tt
  ret_known (Some ty) is = type_known ty is

  field_described : (text : List ℕ) (r : Result FieldType BadDescriptor) → read_field text ≡ r
      → is_known_field r ≡ true → IsDescribed known false text
  field_described text (Ok ty) read is =
      let spells = read_field-found text ty read in
      (ty, spells.0, type_known ty is, spells.1)
  field_described text (Err e) read is = absurd cc

  method_described : (text : List ℕ) (r : Result MethodType BadDescriptor) → read_method text ≡ r
      → is_known_method r ≡ true → IsDescribed known true text
  method_described text (Ok ty) read is =
      let spells = read_method-found text ty read in
      let h = and_parts (list_all is_known_type ty.args) (is_known_ret ty.ret) is in
      (ty, spells.0, record { arguments = args_known ty.args h.0; returned = ret_known ty.ret h.1 }, spells.1)
  method_described text (Err e) read is = absurd cc

  member_described : (m : LibraryMember) (t : Bool) → m.is_method ≡ t
      → cond t (is_known_method (read_method m.descriptor)) (is_known_field (read_field m.descriptor)) ≡ true
      → IsDescribed known t m.descriptor
  member_described m true e is = method_described m.descriptor (read_method m.descriptor) refl is
  member_described m false e is = field_described m.descriptor (read_field m.descriptor) refl is

  rows_described : (kind : LibKind) (ms : List LibraryMember) → list_all is_member_described ms ≡ true
      → (k : ℕ) (row : MemberRow) → slice_get (map (library_row kind) ms) k ≡ Some row
      → IsDescribed known row.is_method row.named.1
  rows_described kind [] is k row at = absurd cc
  rows_described kind (m ∷ ms) is zero row at =
      let h = and_parts (is_member_described m) (list_all is_member_described ms) is in
      subst (λ (r : MemberRow). IsDescribed known r.is_method r.named.1) (same_Some (library_row kind m) row at)
      (member_described m m.is_method refl h.0)
  rows_described kind (m ∷ ms) is (suc k) row at =
      let h = and_parts (is_member_described m) (list_all is_member_described ms) is in
      rows_described kind ms h.1 k row at

  -- a member of the library spells a type of known classes
  pub library_row_described : (classes : List Class) (id k : ℕ) (row : MemberRow)
      → slice_get (rows_in classes (Lib id)) k ≡ Some row → IsDescribed known row.is_method row.named.1
  library_row_described classes id k row at = ⊎_elim low high (cases_lt id (length library))
    where
      low : id < length library → IsDescribed known row.is_method row.named.1
      low within = rows_described (table.class_at id).kind (table.class_at id).members
          (at_row (λ id. list_all is_member_described (table.class_at id).members) id library_described within) k row at

      high : length library ≤ id → IsDescribed known row.is_method row.named.1
      high over = absurd
          (let e : None ≡ Some row = sym (ap (λ (c : LibraryClass). slice_get (map (library_row c.kind) c.members) k)
          (past_last id over)) ∙ at in cc)

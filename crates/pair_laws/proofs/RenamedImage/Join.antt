-- Classes under new names are an image of the set: class by class and member by member.
use Rattle.std.proofs.Common.{◌≡◌, ◌<◌, ℕ, suc, nat_eq, ◌&&◌, ◌||◌, not, Bool, true, false, cond, List, [], ◌∷◌}
use Rattle.std.proofs.Common.{◌++◌, length, map, Option, Some, None, slice_get, refl, sym, ap, subst, ◌∙◌}
use Rattle.std.specs.Prelude.{IfSome, codes, is_some, if◌then◌else◌}
use Rattle.std.specs.List.{All, AllByRecursion, AllZip, cons_option, filter_map, position}
use Rattle.std.specs.Option.{option_and_then, option_map, option_map_or}
use Rattle.std.proofs.lemmas.Bool.{eq-eqb, eqb-true}
use Rattle.std.proofs.lemmas.Bool.Decides.{same_from_decides}
use Rattle.std.proofs.lemmas.List.{map-append}
use Rattle.std.proofs.lemmas.List.Elements.{All-head, All-tail}
use Rattle.std.proofs.lemmas.List.Quantifiers.{position-Some}
use Rattle.std.proofs.lemmas.Option.{same_Some, slice_get-get_or, slice_get-map}
use Rattle.std.proofs.Math.Bool.{or-true}
use Rattle.jv_base.specs.Names.{is_text}
use Rattle.jv_base.specs.Types.{IsFieldType, IsMethodType, field_text, method_text}
use Rattle.jv_base.proofs.Lists.{found_at}
use Rattle.jv_base.proofs.Options.{some_there as some_of}
use Rattle.lib_table.specs.Lookups as table
use Rattle.lib_table.specs.declared.class.LibKind.TheVariants.{Interface, Final, Open}
use Rattle.class_model.specs.Flags.{acc_final, acc_public, has, is_init, is_interface, is_static}
use Rattle.class_model.specs.declared.class.Class.{Class}
use Rattle.class_model.specs.declared.class.Field.{Field}
use Rattle.class_model.specs.declared.class.Method.{Method}
use Rattle.class_pool.specs.Found.{MemberRow, NameAndType, declared_in, field_row, has_flag, is_instance_method}
use Rattle.class_pool.specs.Found.{is_instance_row, method_row, name_of, named_at, package_of, row_at, rows_in}
use Rattle.class_pool.specs.Found.{same_member, same_package}
use Rattle.class_pool.specs.Hierarchy.{IsClass, class_named, classes_named, interfaces, is_interface_kind, kind_of}
use Rattle.class_pool.specs.Hierarchy.{superclass, superclass_of}
use Rattle.class_pool.specs.Members.{declared_at}
use Rattle.class_pool.specs.Resolution.{is_interface_in, is_public_class}
use Rattle.class_pool.specs.Walk.{same_class}
use Rattle.class_pool.specs.declared.id.ClassId.{ClassId}
use Rattle.class_pool.specs.declared.id.ClassId.TheVariants.{Prog, Lib}
use Rattle.class_pool.specs.declared.id.MemberAt.{MemberAt}
use Rattle.class_pool.proofs.Declaring.{named_there, superclass_there}
use Rattle.class_pool.proofs.Walking.{interfaces_valid}
use Rattle.image_laws.specs.SetImage.Image.{Image, if_kept}
use Rattle.image_laws.proofs.ViewImage.Naming.{class_name}
use Rattle.class_rename.specs.Names.{Names}
use Rattle.pair_laws.specs.RenamedForm.Form.{IsKnownMethodType, IsKnownType}
use Rattle.pair_laws.specs.RenamedImage.Naming.{is_class_there, is_declared, is_member_there, is_row, new_named}
use Rattle.pair_laws.specs.RenamedImage.Renaming.{FindsItsClasses, IsNewField, IsNewMethod, IsRenamedSet, IsMemberName}
use Rattle.pair_laws.specs.RenamedImage.Renaming.{KeepsNamesApart, NamesKnownTypes, is_known, is_library_name}
use Rattle.pair_laws.specs.RenamedImage.Renaming.{placed_class}
use Rattle.pair_laws.specs.RenamedImage.Renaming.{placed_member, renamed_named}
use Rattle.pair_laws.proofs.RenamedImage.Declared.{row_declared, test_of, tested}
use Rattle.pair_laws.proofs.RenamedImage.Descriptors.{Declared, field_named, field_spelled, library_row_stays}
use Rattle.pair_laws.proofs.RenamedImage.Descriptors.{method_named, method_spelled, one_member}
use Rattle.pair_laws.proofs.RenamedImage.LibraryTypes.{IsDescribed}
use Rattle.pair_laws.proofs.RenamedImage.Rows.{declared_rows, position_moved, row_Decides}
use Rattle.image_laws.proofs.TakenSet.LibraryRows.{library_name}

-- what is told of a member, under its new name
abbrev pub renamed_row : Names → MemberRow → MemberRow
renamed_row names row = record row { named = renamed_named names row.named }

-- two tests of numbers agree where the numbers are equal alike
same_test : (m n k l : ℕ) → (m ≡ n → k ≡ l) → (k ≡ l → m ≡ n) → nat_eq k l ≡ nat_eq m n
same_test m n k l to from = by (nat_eq m n) refl (nat_eq k l) refl
  where
    by : (b : Bool) → nat_eq m n ≡ b → (c : Bool) → nat_eq k l ≡ c → c ≡ b
    by true e true f = refl
    by false e false f = refl
    by true e false f = sym f ∙ eq-eqb k l (to (eqb-true m n e))
    by false e true f = sym (eq-eqb m n (from (eqb-true k l f))) ∙ e

cons_moved : {A B : Type 0} (f : A → B) (o : Option A) (xs : List A)
    → cons_option (option_map f o) (map f xs) ≡ map f (cons_option o xs)
cons_moved f None xs = refl
cons_moved f (Some x) xs = refl

abbrev at_index : ClassId → ℕ → MemberAt
at_index x k = record { class = x; index = k }

module _ (names : Names) (place : ℕ → ℕ) (xs ys : List Class) (found : FindsItsClasses xs)
    (found_new : FindsItsClasses ys) (known : NamesKnownTypes xs) (apart : KeepsNamesApart names xs)
    (new : IsRenamedSet names place xs ys) where
  abbrev moved : ClassId → ClassId
  moved = placed_class place

  abbrev There : ClassId → Type 0
  There x = is_class_there xs x ≡ true

  there_of : (x : ClassId) → IsClass xs x → There x
  there_of (Prog n) low = ap is_some (found_at xs n low).1
  there_of (Lib id) low = refl

  -- ---- what a name names

  pub named_moved : (name : List ℕ) (x : ClassId) → class_named xs name ≡ Some x
      → class_named ys (names.class name) ≡ Some (moved x)
  named_moved name (Prog n) e =
      let low : n < length xs = subst (λ o. IfSome o (IsClass xs)) e (named_there xs name) in
      let c = found_at xs n low in
      let own : c.0.name ≡ name =
      sym (ap (λ o. option_map_or (λ (c : Class). c.name) o []) c.1) ∙ class_name xs name (Prog n) e in
      let d = new n c.0 c.1 in
      ap (class_named ys) (ap names.class (sym own) ∙ sym d.2.name) ∙ found_new.own (place n) d.0 d.1
  named_moved name (Lib id) e =
      let within = subst (λ o. IfSome o (IsClass xs)) e (named_there xs name) in
      let own = class_name xs name (Lib id) e in
      let row = library_name id within in
      let java : is_library_name name ≡ true = ap is_library_name (sym own) ∙ row.0 in
      ap (class_named ys) (apart.library_class name java) ∙ found_new.library name java
      ∙ ap (option_map Lib) (ap table.class_named (sym own) ∙ row.1)

  some_moved : (name : List ℕ) → is_some (class_named xs name) ≡ true
      → class_named ys (names.class name) ≡ option_map moved (class_named xs name)
  some_moved name h = let x = some_of (class_named xs name) h in
      named_moved name x.0 x.1 ∙ sym (ap (option_map moved) x.1)

  names_moved : (l : List (List ℕ)) → AllByRecursion (λ name. is_some (class_named xs name) ≡ true) l
      → classes_named ys (map names.class l) ≡ map moved (classes_named xs l)
  names_moved [] h = refl
  names_moved (name ∷ l) h =
      ap (λ o. cons_option o (classes_named ys (map names.class l))) (some_moved name h.0)
      ∙ ap (cons_option (option_map moved (class_named xs name))) (names_moved l h.1)
      ∙ cons_moved moved (class_named xs name) (classes_named xs l)

  -- ---- places

  name_known : (n : ℕ) (c : Class) → slice_get xs n ≡ Some c → is_known xs c.name ≡ true
  name_known n c at = ap (λ o. is_library_name c.name || is_some o) (found.own n c at)
      ∙ or-true (is_library_name c.name)

  one_place : (m n : ℕ) (c d : Class) → slice_get xs m ≡ Some c → slice_get xs n ≡ Some d → place m ≡ place n → m ≡ n
  one_place m n c d at then_at same =
      let p = new m c at in
      let q = new n d then_at in
      let classes : p.0 ≡ q.0 = same_Some p.0 q.0 (sym p.1 ∙ ap (slice_get ys) same ∙ q.1) in
      let new_names : names.class c.name ≡ names.class d.name =
      sym p.2.name ∙ ap (λ (x : Class). x.name) classes ∙ q.2.name in
      let name = apart.one_class c.name d.name (name_known m c at) (name_known n d then_at) new_names in
      number (same_Some (Prog m) (Prog n)
      (sym (found.own m c at) ∙ ap (class_named xs) name ∙ found.own n d then_at))
    where
      number : Prog m ≡ Prog n → m ≡ n
      number e = cc

  pub same_moved : (x y : ClassId) → There x → There y → same_class (moved x) (moved y) ≡ same_class x y
  same_moved (Prog m) (Prog n) h k =
      let c = some_of (slice_get xs m) h in
      let d = some_of (slice_get xs n) k in
      same_test m n (place m) (place n) (ap place) (one_place m n c.0 d.0 c.1 d.1)
  same_moved (Prog m) (Lib n) h k = refl
  same_moved (Lib m) (Prog n) h k = refl
  same_moved (Lib m) (Lib n) h k = refl

  -- ---- supertypes

  library_moved : (o : Option ℕ) → option_map Lib o ≡ option_map moved (option_map Lib o)
  library_moved None = refl
  library_moved (Some id) = refl

  libraries_moved : (ids : List ℕ) → filter_map (λ i. Some (Lib i)) ids ≡ map moved (filter_map (λ i. Some (Lib i)) ids)
  libraries_moved [] = refl
  libraries_moved (i ∷ ids) = ap (λ (l : List ClassId). Lib i ∷ l) (libraries_moved ids)

  pub super_moved : (x : ClassId) → There x → superclass ys (moved x) ≡ option_map moved (superclass xs x)
  super_moved (Lib id) h = library_moved (table.super_of id)
  super_moved (Prog n) h =
      let c = some_of (slice_get xs n) h in
      let d = new n c.0 c.1 in
      ap (option_and_then (superclass_of ys)) d.1 ∙ ap (class_named ys) d.2.super_name
      ∙ some_moved c.0.super_name (known.super_class n c.0 c.1)
      ∙ sym (ap (λ o. option_map moved (option_and_then (superclass_of xs) o)) c.1)

  pub interfaces_moved : (x : ClassId) → There x → interfaces ys (moved x) ≡ map moved (interfaces xs x)
  interfaces_moved (Lib id) h = libraries_moved (table.interfaces_of id)
  interfaces_moved (Prog n) h =
      let c = some_of (slice_get xs n) h in
      let d = new n c.0 c.1 in
      ap (λ o. option_map_or (λ c. classes_named ys c.interfaces) o []) d.1 ∙ ap (classes_named ys) d.2.interfaces
      ∙ names_moved c.0.interfaces (known.interfaces n c.0 c.1)
      ∙ sym (ap (λ o. map moved (option_map_or (λ c. classes_named xs c.interfaces) o [])) c.1)

  pub some_there : (o : Option ClassId) → IfSome o (IsClass xs) → IfSome o There
  some_there None h = tt
  some_there (Some x) h = there_of x h

  pub all_there : (l : List ClassId) → All (IsClass xs) l → AllByRecursion There l
  all_there [] h = tt
  all_there (x ∷ l) h =
      (there_of x (All-head (IsClass xs) x l h), all_there l (All-tail (IsClass xs) x l h))

  -- ---- what is told of a class

  pub interface_moved : (x : ClassId) → There x → is_interface_in ys (moved x) ≡ is_interface_in xs x
  interface_moved (Lib id) h = refl
  interface_moved (Prog n) h =
      let c = some_of (slice_get xs n) h in
      let d = new n c.0 c.1 in
      let kind : kind_of d.0 ≡ kind_of c.0 =
      λ i. if is_interface (d.2.flags i).0 then Interface else if has acc_final (d.2.flags i).0 then Final else Open in
      ap is_interface_kind (ap (λ o. option_map_or kind_of o Open) d.1 ∙ kind
      ∙ sym (ap (λ o. option_map_or kind_of o Open) c.1))

  pub public_moved : (x : ClassId) → There x → is_public_class ys (moved x) ≡ is_public_class xs x
  public_moved (Lib id) h = refl
  public_moved (Prog n) h =
      let c = some_of (slice_get xs n) h in
      let d = new n c.0 c.1 in
      ap (λ o. option_map_or (λ (c : Class). has acc_public c.flags.0) o false) d.1
      ∙ (λ i. has acc_public (d.2.flags i).0)
      ∙ sym (ap (λ o. option_map_or (λ (c : Class). has acc_public c.flags.0) o false) c.1)

  pub name_moved : (n : ℕ) (c : Class) → slice_get xs n ≡ Some c
      → name_of ys (Prog (place n)) ≡ names.class (name_of xs (Prog n))
  name_moved n c at =
      let d = new n c at in
      ap (λ o. option_map_or (λ (c : Class). c.name) o []) d.1 ∙ d.2.name
      ∙ ap names.class (sym (ap (λ o. option_map_or (λ (c : Class). c.name) o []) at))

  package_stays : (x : ClassId) → There x → package_of (name_of ys (moved x)) ≡ package_of (name_of xs x)
  package_stays (Lib id) h = refl
  package_stays (Prog n) h =
      let c = some_of (slice_get xs n) h in
      let d = new n c.0 c.1 in
      ap (λ o. package_of (option_map_or (λ (c : Class). c.name) o [])) d.1 ∙ ap package_of d.2.name
      ∙ apart.packages n c.0 c.1 ∙ sym (ap (λ o. package_of (option_map_or (λ (c : Class). c.name) o [])) c.1)

  pub package_moved : (x y : ClassId) → There x → There y → same_package ys (moved x) (moved y) ≡ same_package xs x y
  package_moved x y h k = λ i. is_text (package_stays x h i) (package_stays y k i)

  pub object_moved : class_named ys (codes "java/lang/Object")
      ≡ option_map moved (class_named xs (codes "java/lang/Object"))
  object_moved =
      found_new.library (codes "java/lang/Object") refl
      ∙ library_moved (table.class_named (codes "java/lang/Object"))
      ∙ ap (option_map moved) (sym (found.library (codes "java/lang/Object") refl))

  -- ---- rows

  fixed_rows : (rows : List MemberRow)
      → ((k : ℕ) (row : MemberRow) → slice_get rows k ≡ Some row → renamed_named names row.named ≡ row.named)
      → rows ≡ map (renamed_row names) rows
  fixed_rows [] h = refl
  fixed_rows (row ∷ rows) h =
      λ i. record row { named = sym (h 0 row refl) i } ∷ fixed_rows rows (λ k r at. h (suc k) r at) i

  field_rows : (fs gs : List Field) → AllZip (IsNewField names) fs gs
      → AllByRecursion (λ (f : Field). IsFieldType f.ty × IsKnownType (is_known xs) f.ty) fs
      → map field_row gs ≡ map (renamed_row names) (map field_row fs)
  field_rows [] [] same typed = refl
  field_rows [] (g ∷ gs) same typed = absurd same
  field_rows (f ∷ fs) [] same typed = absurd same
  field_rows (f ∷ fs) (g ∷ gs) same typed =
      let name = same.0.name in
      let text = ap field_text same.0.ty in
      let flags = same.0.flags in
      let named : (g.name, field_text g.ty) ≡ renamed_named names (f.name, field_text f.ty) =
      (λ i. (name i, text i)) ∙ sym (field_named names f.name f.ty typed.0.0) in
      λ i. record { named = named i; flags = (flags i).0; is_method = false } ∷ field_rows fs gs same.1 typed.1 i

  method_rows : (ms ns : List Method) → AllZip (IsNewMethod names) ms ns
      → AllByRecursion (λ (m : Method). IsMethodType m.ty × IsKnownMethodType (is_known xs) m.ty) ms
      → map method_row ns ≡ map (renamed_row names) (map method_row ms)
  method_rows [] [] same typed = refl
  method_rows [] (n ∷ ns) same typed = absurd same
  method_rows (m ∷ ms) [] same typed = absurd same
  method_rows (m ∷ ms) (n ∷ ns) same typed =
      let name = same.0.name in
      let text = ap method_text same.0.ty in
      let flags = same.0.flags in
      let named : (n.name, method_text n.ty) ≡ renamed_named names (m.name, method_text m.ty) =
      (λ i. (name i, text i)) ∙ sym (method_named names m.name m.ty typed.0.0) in
      λ i. record { named = named i; flags = (flags i).0; is_method = true } ∷ method_rows ms ns same.1 typed.1 i

  pub rows_moved : (x : ClassId) → There x → rows_in ys (moved x) ≡ map (renamed_row names) (rows_in xs x)
  rows_moved (Lib id) h = fixed_rows (rows_in xs (Lib id)) (library_row_stays names xs apart id)
  rows_moved (Prog n) h =
      let c = some_of (slice_get xs n) h in
      let d = new n c.0 c.1 in
      let fields = field_rows c.0.fields d.0.fields d.2.fields (known.fields n c.0 c.1) in
      let methods = method_rows c.0.methods d.0.methods d.2.methods (known.methods n c.0 c.1) in
      ap (λ o. option_map_or (λ (c : Class). map field_row c.fields ++ map method_row c.methods) o []) d.1
      ∙ (λ i. fields i ++ methods i)
      ∙ sym (map-append (renamed_row names) (map field_row c.0.fields) (map method_row c.0.methods))
      ∙ sym (ap (λ o. map (renamed_row names)
      (option_map_or (λ (c : Class). map field_row c.fields ++ map method_row c.methods) o [])) c.1)

  row_class : (x : ClassId) (k : ℕ) → is_some (slice_get (rows_in xs x) k) ≡ true → There x
  row_class (Lib id) k h = refl
  row_class (Prog n) k h = by (slice_get xs n) h
    where
      by : (o : Option Class)
          → is_some (slice_get
          (option_map_or (λ (c : Class). map field_row c.fields ++ map method_row c.methods) o []) k) ≡ true
          → is_some o ≡ true
      by None h = absurd cc
      by (Some c) h = refl

  pub member_class : (m : MemberAt) → is_member_there xs m ≡ true → There m.class
  member_class m h = row_class m.class m.index h

  pub row_moved : (m : MemberAt) → is_member_there xs m ≡ true
      → row_at ys (placed_member place m) ≡ option_map (renamed_row names) (row_at xs m)
  row_moved m h = ap (λ (rows : List MemberRow). slice_get rows m.index) (rows_moved m.class (member_class m h))
      ∙ slice_get-map (renamed_row names) (rows_in xs m.class) m.index

  -- ---- members

  pub same_member_moved : (m n : MemberAt) → is_member_there xs m ≡ true → is_member_there xs n ≡ true
      → same_member (placed_member place m) (placed_member place n) ≡ same_member m n
  same_member_moved m n h k = ap (λ (t : Bool). t && nat_eq m.index n.index)
      (same_moved m.class n.class (member_class m h) (member_class n k))

  declared : (m : MemberAt) (row : MemberRow) → row_at xs m ≡ Some row → Declared names xs apart row.named
  declared m row at = row_declared xs names apart known m.class m.index row at

  init_of : (t : Bool) (n : NameAndType) → IsMemberName xs t n → IsDescribed (is_known xs) t n.1
      → is_init (renamed_named names n).0 ≡ is_init n.0
  init_of false n named (ty, is, known, spells) =
      ap (λ (n : NameAndType). is_init n.0) (field_spelled names n ty is spells) ∙ apart.init_field n named
  init_of true n named (ty, is, known, spells) =
      ap (λ (n : NameAndType). is_init n.0) (method_spelled names n ty is spells) ∙ apart.init_method n.0 n.1 named

  init_row : (m : MemberAt) (row : MemberRow) → row_at xs m ≡ Some row
      → is_init (renamed_named names row.named).0 ≡ is_init row.named.0
  init_row m row at = let d = declared m row at in init_of d.method row.named d.named d.typed

  pub flag_moved : (flag : ℕ) (m : MemberAt) → is_member_there xs m ≡ true
      → has_flag ys flag (placed_member place m) ≡ has_flag xs flag m
  flag_moved flag m h = ap (λ (o : Option MemberRow). option_map_or (λ row. has flag row.flags) o false) (row_moved m h)
      ∙ by (row_at xs m)
    where
      by : (o : Option MemberRow)
          → option_map_or (λ (row : MemberRow). has flag row.flags) (option_map (renamed_row names) o) false
          ≡ option_map_or (λ (row : MemberRow). has flag row.flags) o false
      by None = refl
      by (Some row) = refl

  pub instance_moved : (m : MemberAt) → is_member_there xs m ≡ true
      → is_instance_method ys (placed_member place m) ≡ is_instance_method xs m
  instance_moved m h = ap (λ (o : Option MemberRow). option_map_or is_instance_row o false) (row_moved m h)
      ∙ by (row_at xs m) refl
    where
      by : (o : Option MemberRow) → row_at xs m ≡ o
          → option_map_or is_instance_row (option_map (renamed_row names) o) false
          ≡ option_map_or is_instance_row o false
      by None e = refl
      by (Some row) e =
          ap (λ (b : Bool). row.is_method && not (is_static row.flags) && not b) (init_row m row e)

  abbrev name_seen : Option MemberRow → NameAndType
  name_seen o = option_map_or (λ (row : MemberRow). row.named) o ([], [])

  named_at_moved : (m : MemberAt) (row : MemberRow) → row_at xs m ≡ Some row → is_member_there xs m ≡ true
      → named_at ys (placed_member place m) ≡ renamed_named names row.named
  named_at_moved m row at h = ap name_seen (row_moved m h ∙ ap (option_map (renamed_row names)) at)

  pub new_name : (m : MemberAt) → is_member_there xs m ≡ true
      → new_named names xs (named_at xs m) ≡ Some (named_at ys (placed_member place m))
  new_name m h =
      let row = some_of (row_at xs m) h in
      let own : named_at xs m ≡ row.0.named = ap name_seen row.1 in
      ap (new_named names xs) own
      ∙ ap (λ (b : Bool). cond b (Some (renamed_named names row.0.named)) None)
      (test_of xs m.class m.index row.0 row.1)
      ∙ ap Some (sym (named_at_moved m row.0 row.1 h))

  pub init_moved : (m : MemberAt) → is_member_there xs m ≡ true
      → is_init (named_at ys (placed_member place m)).0 ≡ is_init (named_at xs m).0
  init_moved m h =
      let row = some_of (row_at xs m) h in
      ap (λ (n : NameAndType). is_init n.0) (named_at_moved m row.0 row.1 h) ∙ init_row m row.0 row.1
      ∙ sym (ap (λ o. is_init (name_seen o).0) row.1)

  -- ---- declarations

  same_row : (n : NameAndType) → Declared names xs apart n → (x : ClassId) (k : ℕ) (row : MemberRow)
      → slice_get (rows_in xs x) k ≡ Some row
      → is_row (renamed_named names n) (renamed_row names row) ≡ is_row n row
  same_row n d x k row at =
      let other = row_declared xs names apart known x k row at in
      let test = row_Decides (renamed_named names n) (renamed_row names row) in
      same_from_decides {P = row.named ≡ n} (is_row (renamed_named names n) (renamed_row names row)) (is_row n row)
      (λ e. one_member names xs apart row.named n other d (test.0 e), λ e. test.1 (ap (renamed_named names) e))
      (row_Decides n row)

  declared_at_moved : (n : NameAndType) → Declared names xs apart n → (x : ClassId) → There x
      → declared_at ys (moved x) (renamed_named names n).0 (renamed_named names n).1 ≡ declared_at xs x n.0 n.1
  declared_at_moved n d x h =
      declared_rows ys (moved x) (renamed_named names n)
      ∙ ap (position (is_row (renamed_named names n))) (rows_moved x h)
      ∙ position_moved (renamed_row names) (is_row (renamed_named names n)) (is_row n) (rows_in xs x) (same_row n d x)
      ∙ sym (declared_rows xs x n)

  position_row : (p : MemberRow → Bool) (rows : List MemberRow) (k : ℕ) → position p rows ≡ Some k
      → is_some (slice_get rows k) ≡ true
  position_row p [] k is = absurd cc
  position_row p (row ∷ rows) k is =
      let h = position-Some p (row ∷ rows) k row is in
      ap is_some (slice_get-get_or (row ∷ rows) k row h.0)

  kept_of : (x : ClassId) (o : Option ℕ) → ((k : ℕ) → o ≡ Some k → is_some (slice_get (rows_in xs x) k) ≡ true)
      → option_map (at_index (moved x)) o
      ≡ option_and_then (if_kept (is_member_there xs) (placed_member place)) (option_map (at_index x) o)
  kept_of x None there = refl
  kept_of x (Some k) there =
      ap (λ (b : Bool). cond b (Some (placed_member place (at_index x k))) None) (sym (there k refl))

  pub declared_moved : (n o : NameAndType) → new_named names xs n ≡ Some o → (x : ClassId) → There x
      → declared_in ys o (moved x)
      ≡ option_and_then (if_kept (is_member_there xs) (placed_member place)) (declared_in xs n x)
  declared_moved n o is x h = by (is_declared xs n) refl is
    where
      by : (b : Bool) → is_declared xs n ≡ b → cond b (Some (renamed_named names n)) None ≡ Some o
          → declared_in ys o (moved x)
          ≡ option_and_then (if_kept (is_member_there xs) (placed_member place)) (declared_in xs n x)
      by false e is = absurd cc
      by true e is =
          let same : renamed_named names n ≡ o = same_Some (renamed_named names n) o is in
          ap (λ (o : NameAndType). declared_in ys o (moved x)) (sym same)
          ∙ ap (option_map (at_index (moved x))) (declared_at_moved n (tested xs names apart known n e) x h)
          ∙ kept_of x (declared_at xs x n.0 n.1)
          (λ k at. position_row (is_row n) (rows_in xs x) k (sym (declared_rows xs x n) ∙ at))

  -- ---- the image

  abbrev pub renamed_image : Image xs ys
  renamed_image = record {
    kept = is_class_there xs;
    moved = placed_class place;
    kept_member = is_member_there xs;
    moved_member = placed_member place;
    renamed = new_named names xs;
    same_moved = same_moved;
    super_kept = λ x h. some_there (superclass xs x) (superclass_there xs x);
    super_moved = super_moved;
    interfaces_kept = λ x h. all_there (interfaces xs x) (interfaces_valid xs x);
    interfaces_moved = interfaces_moved;
    interface_moved = interface_moved;
    public_moved = public_moved;
    package_moved = package_moved;
    object_kept = some_there (class_named xs (codes "java/lang/Object")) (named_there xs (codes "java/lang/Object"));
    object_moved = object_moved;
    class_kept = member_class;
    class_moved = λ m. refl;
    same_member_moved = same_member_moved;
    declared_moved = declared_moved;
    flag_moved = flag_moved;
    instance_moved = instance_moved;
    name_moved = new_name;
    init_moved = init_moved;
  }

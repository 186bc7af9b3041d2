-- What references to fields mean in a set that is taken (JVMS 5.4.3.2).
use Rattle.std.proofs.Common.{◌≡◌, ◌++◌, ⊎_elim, ℕ, not, ◌&&◌, ◌||◌, Bool, true, false, cond, List, []}
use Rattle.std.proofs.Common.{◌∷◌, length, map, Option, Some, None, slice_get, refl, sym, ap, subst, ◌∙◌, codes, ◌<◌}
use Rattle.std.proofs.Common.{zero, suc, nat_eq, arith, ◌+◌}
use Rattle.std.proofs.lemmas.Bool.{or_cases}
use Rattle.jv_base.proofs.Lists.{found_at}
use Rattle.class_model.specs.Flags.{acc_abstract}
use Rattle.lib_table.specs.declared.class.LibKind.{LibKind}
use Rattle.lib_table.specs.declared.class.LibKind.TheVariants.{Open}
use Rattle.lib_table.proofs.Computed.{count}
use Rattle.class_pool.specs.Hierarchy.{is_interface_kind, kind_of, superclass}
use Rattle.class_pool.specs.Members.{declared_at}
use Rattle.class_pool.specs.Walk.{highest, upwards}
use Rattle.class_pool.proofs.Declaring.{superclass_there}
use Rattle.class_pool.proofs.LikeMethods.{all_at as passes_at}
use Rattle.class_pool.proofs.ObjectLaws.{interface_flag as flag_of}
use Rattle.image_laws.proofs.TakenSet.Flags.{has_part}
use Rattle.image_laws.proofs.TakenSet.Members.{row_parts}
use Rattle.type_sound.proofs.Members.{index_below, method_begins}
use Rattle.std.specs.Prelude.{IfSome}
use Rattle.std.specs.List.{AllByRecursion, cons_option, flat_map, list_all, starts_with}
use Rattle.std.specs.Option.{option_and_then, option_map, option_map_or}
use Rattle.std.proofs.lemmas.Bool.{and_parts}
use Rattle.jv_base.specs.Names.{is_text}
use Rattle.jv_base.specs.declared.types.Base.TheVariants as base
use Rattle.jv_base.specs.declared.types.FieldType.{FieldType}
use Rattle.jv_base.proofs.Equality.{same_text}
use Rattle.jv_base.proofs.Lists.{all_append, all_at, mapped_from}
use Rattle.class_model.specs.ConstantPool.{IsFieldText}
use Rattle.class_model.specs.Flags.{acc_final, acc_public, acc_static, acc_volatile, has, has_one_access, is_interface}
use Rattle.class_model.specs.WellFormed.{IsGoodField}
use Rattle.class_model.specs.declared.class.Class.{Class}
use Rattle.class_model.specs.declared.class.Field.{Field}
use Rattle.class_model.specs.declared.op.MemberRef.{MemberRef}
use Rattle.lib_table.specs.Library.{LibraryMember, library}
use Rattle.lib_table.specs.Lookups as table
use Rattle.class_pool.specs.Found.{MemberRow, NameAndType, declared_by, field_row, is_static_member}
use Rattle.class_pool.specs.Found.{library_row, method_row, named_at, row_at, rows_in}
use Rattle.class_pool.specs.Hierarchy.{IsClass, class_named}
use Rattle.class_pool.specs.Resolution.{field_found, field_order, is_class_below, is_interface_in}
use Rattle.class_pool.specs.Walk.{own_superinterfaces, superclasses_from}
use Rattle.class_pool.specs.bodies.Graph.{library_ids}
use Rattle.class_pool.specs.declared.id.ClassId.{ClassId}
use Rattle.class_pool.specs.declared.id.ClassId.TheVariants.{Prog, Lib}
use Rattle.class_pool.specs.declared.id.MemberAt.{MemberAt}
use Rattle.class_pool.proofs.Declaring.{declared_named}
use Rattle.class_pool.proofs.LikeMethods.{begins, field_begins}
use Rattle.jvm_model.specs.Heap.{string, string_builder}
use Rattle.set_view.specs.ViewOf.{key_at}
use Rattle.type_verifier.specs.Assignable.{class_type, is_above_arrays}
use Rattle.fit_laws.specs.Meaning.{MeansField, MeansObjectField}
use Rattle.fit_laws.specs.Order.{HasInstances}
use Rattle.image_laws.specs.TakenSet.TakenSet.{IsTaken}
use Rattle.image_laws.proofs.TakenSet.Names.{library_named}
use Rattle.image_laws.proofs.ViewImage.Standing.{Stands, field_stands, first_all}
use Rattle.type_sound.proofs.Chains.{AllInterfaces, above_library, interface_super, own_are, row_or_past}
use Rattle.type_sound.proofs.LibraryClasses.{builder_at, no_arrays, not_held, string_at}
use Rattle.type_sound.proofs.Links.{FieldLinked, TakenField, class_of_link}
use Rattle.type_sound.proofs.Order.{class_in}

rows_fields : list_all (λ id. list_all (λ (m : LibraryMember). begins m.descriptor || m.is_static)
    (table.class_at id).members) library_ids ≡ true
unfolding library
rows_fields = refl

pub false_if : (b : Bool) → (b ≡ true → ⊥) → b ≡ false
false_if false h = refl
false_if true h = absurd (h refl)

no_prog : (o : Option ℕ) (n : ℕ) → option_map Lib o ≡ Some (Prog n) → ⊥
no_prog None n e = cc
no_prog (Some k) n e = cc

-- a class of the library or an interface
abbrev is_other_kind : ClassId → Bool → Bool
is_other_kind (Lib id) i = true
is_other_kind (Prog n) i = i

module _ (classes : List Class) (t : IsTaken classes) where
  abbrev pub is_other : ClassId → Bool
  is_other c = is_other_kind c (is_interface_in classes c)

  abbrev AllOther : List ClassId → Type 0
  AllOther cs = AllByRecursion (λ c. is_other c ≡ true) cs

  other_interface : (c : ClassId) → is_interface_in classes c ≡ true → is_other c ≡ true
  other_interface (Lib id) i = refl
  other_interface (Prog n) i = i

  -- so is its superclass
  other_super : (c s : ClassId) → IsClass classes c → is_other c ≡ true → superclass classes c ≡ Some s
      → is_other s ≡ true
  other_super (Lib id) s there o e = by (table.super_of id) e where
    by : (p : Option ℕ) → option_map Lib p ≡ Some s → is_other s ≡ true
    by None e = absurd cc
    by (Some k) e = let same : Lib k ≡ s = cc in subst (λ c. is_other c ≡ true) same refl
  other_super (Prog n) s there o e =
      let same : Lib 0 ≡ s = one (sym (interface_super classes t (Prog n) there o) ∙ e) in
      subst (λ c. is_other c ≡ true) same refl
    where
      one : {x y : ClassId} → Some x ≡ Some y → x ≡ y
      one e = cc

  up_other : (n : ℕ) (c : ClassId) → IsClass classes c → is_other c ≡ true → AllOther (upwards n classes c)
  unfolding upwards
  up_other zero c there o = tt
  up_other (suc n) c there o = (o, by (up_other n) (superclass classes c) refl) where
    by : ((s : ClassId) → IsClass classes s → is_other s ≡ true → AllOther (upwards n classes s)) → (p : Option ClassId)
        → superclass classes c ≡ p → AllOther (option_map_or (upwards n classes) p [])
    by f None e = tt
    by f (Some s) e = f s (subst (λ q. IfSome q (IsClass classes)) e (superclass_there classes c))
        (other_super c s there o e)

  order_other : (cs : List ClassId) → AllOther cs → AllOther (flat_map (λ d. d ∷ own_superinterfaces classes d) cs)
  order_other [] h = tt
  order_other (c ∷ cs) h = (
    h.0,
    all_append (λ d. is_other d ≡ true) (own_superinterfaces classes c)
        (flat_map (λ d. d ∷ own_superinterfaces classes d) cs)
        (interfaces (own_superinterfaces classes c) (own_are classes t c)) (order_other cs h.1),
  )
    where
      interfaces : (ds : List ClassId) → AllInterfaces classes t ds → AllOther ds
      interfaces [] h = tt
      interfaces (d ∷ ds) h = (other_interface d h.0, interfaces ds h.1)

  -- what classes declare is of them
  pub declared_of : (P : ClassId → Type 0) (n : NameAndType) (cs : List ClassId) → AllByRecursion P cs
      → AllByRecursion (λ (m : MemberAt). P m.class) (declared_by classes n cs)
  declared_of P n [] h = tt
  declared_of P n (c ∷ cs) h = by (declared_at classes c n.0 n.1) (declared_of P n cs h.1) where
    by : (o : Option ℕ) → AllByRecursion (λ (m : MemberAt). P m.class) (declared_by classes n cs)
        → AllByRecursion (λ (m : MemberAt). P m.class)
        (cons_option (option_map (λ k. record { class = c; index = k }) o) (declared_by classes n cs))
    by None r = r
    by (Some k) r = (h.0, r)

  field_other : (n : NameAndType) (c : ClassId) → IsClass classes c → is_other c ≡ true
      → IfSome (field_found classes c n) (λ m. is_other m.class ≡ true)
  field_other n c there o =
      first_all classes (λ m. is_other m.class ≡ true) (declared_by classes n (field_order classes c))
      (declared_of (λ d. is_other d ≡ true) n (field_order classes c)
      (order_other (superclasses_from classes c) (up_other highest c there o)))

  -- ---- fields of such classes are static

  static_field : (f : Field) → IsGoodField true f → has acc_static f.flags.0 ≡ true
  static_field f good =
      let flags = f.flags.0 in
      let outer = and_parts (has_one_access flags && not (has (acc_final + acc_volatile) flags))
      (has (acc_public + acc_static + acc_final) flags) good.flags in
      has_part (acc_public + acc_static + acc_final) acc_static flags refl outer.1

  never : true ≡ false → ⊥
  never e = cc

  other_row : (c : ClassId) (k : ℕ) (row : MemberRow) → is_other c ≡ true → slice_get (rows_in classes c) k ≡ Some row
      → begins row.named.1 ≡ false → has acc_static row.flags ≡ true
  other_row (Lib id) k row o is shut =
      let m = mapped_from (library_row (table.class_at id).kind) (table.class_at id).members k row is in
      subst (λ (r : MemberRow). has acc_static r.flags ≡ true) (sym m.2)
      (library_static (table.class_at id).kind m.0
      (told (begins m.0.descriptor) m.0.is_static
      (passes_at (λ (x : LibraryMember). begins x.descriptor || x.is_static) (table.class_at id).members k m.0
      (row_or_past (λ c. list_all (λ (x : LibraryMember). begins x.descriptor || x.is_static) c.members) rows_fields
      refl id)
      m.1)
      (ap (λ (r : MemberRow). begins r.named.1) (sym m.2) ∙ shut)))
    where
      told : (a b : Bool) → (a || b) ≡ true → a ≡ false → b ≡ true
      told true b h e = absurd cc
      told false b h e = h

      library_static : (kind : LibKind) (m : LibraryMember) → m.is_static ≡ true
          → has acc_static (library_row kind m).flags ≡ true
      library_static kind m s = by m.is_static (m.is_method && is_interface_kind kind) s where
        by : (a b : Bool) → a ≡ true
            → has acc_static (acc_public + cond a acc_static 0 + cond b acc_abstract 0) ≡ true
        by true true e = refl
        by true false e = refl
        by false b e = absurd cc
  other_row (Prog n) k row i is shut = by (slice_get classes n) refl is where
    by : (o : Option Class) → slice_get classes n ≡ o
        → slice_get (option_map_or (λ (c : Class). map field_row c.fields ++ map method_row c.methods) o []) k
        ≡ Some row
        → has acc_static row.flags ≡ true
    by None e q = absurd cc
    by (Some c) e q = ⊎_elim
        (λ f. subst (λ (r : MemberRow). has acc_static r.flags ≡ true) (sym f.2)
        (static_field f.0 (subst (λ b. IsGoodField b f.0) (flag_of c (sym (ap
        (λ o. is_interface_kind (option_map_or kind_of o Open)) e) ∙ i))
        (field_good (is_interface c.flags.0) c f.0 (t.formed n c e).fields _ f.1))))
        (λ f. absurd (never (sym (method_begins f.1.ty) ∙ ap (λ (r : MemberRow). begins r.named.1) (sym f.4) ∙ shut)))
        (row_parts c.fields c.methods k row q)
      where
        field_good : (b : Bool) (c : Class) (f : Field) → AllByRecursion (IsGoodField b) c.fields
            → (j : ℕ) → slice_get c.fields j ≡ Some f → IsGoodField b f
        field_good b c f all j at = all_at (IsGoodField b) c.fields j f all at

  static_member : (n : NameAndType) (m : MemberAt) → Stands classes n m → begins n.1 ≡ false
      → is_other m.class ≡ true → is_static_member classes m ≡ true
  static_member n m stands shut o = by (row_at classes m) refl there where
    named : begins (named_at classes m).1 ≡ false
    named = ap (λ (x : NameAndType). begins x.1) (declared_named classes n m.class m stands) ∙ shut

    there : m.index < length (rows_in classes m.class)
    there = index_below classes t n m.class m stands

    by : (p : Option MemberRow) → row_at classes m ≡ p → m.index < length (rows_in classes m.class)
        → is_static_member classes m ≡ true
    by None e low = absurd (let r = found_at (rows_in classes m.class) m.index low in
        none r.0 (sym e ∙ r.1))
      where
        none : (r : MemberRow) → None ≡ Some r → ⊥
        none r e = cc
    by (Some row) e low = ap (λ o. option_map_or (λ (r : MemberRow). has acc_static r.flags) o false) e
        ∙ other_row m.class m.index row o e
        (sym (ap (λ q. begins (option_map_or (λ (r : MemberRow). r.named) q ([], [])).1) e) ∙ named)

  -- ---- what a reference means

  field_stand : (n : ℕ) (r : MemberRef) (m : MemberAt) (l : FieldLinked classes n r m) → Stands classes (r.name, r.ty) m
  field_stand n r m l = subst (λ o. IfSome o (Stands classes (r.name, r.ty))) l.member_is
      (field_stands classes (r.name, r.ty) l.class)

  pub means_field : (n : ℕ) (static : Bool) (r : MemberRef) → TakenField classes n static r → MeansField classes r
  means_field n static r f = record {
    typed = f.typed;
    key = key_at classes f.member;
    found = ap (option_map (key_at classes)) (ap (option_and_then (λ c. field_found classes c (r.name, r.ty)))
        (class_of_link classes n r (λ c. field_found classes c (r.name, r.ty)) (λ c. true) f.member f.link)
        ∙ f.link.member_is);
    same = ap (λ (x : NameAndType). x.1)
        (declared_named classes (r.name, r.ty) f.member.class f.member (field_stand n r f.member f.link));
  }

  -- the class of a field that isn't static is one of the program and no interface
  field_class : (n : ℕ) (r : MemberRef) (f : TakenField classes n false r) → begins r.ty ≡ false
      → is_other f.link.class ≡ false
  field_class n r f shut = false_if (is_other f.link.class) (λ o. never (sym
      (static_member (r.name, r.ty) f.member (field_stand n r f.member f.link) shut
      (subst (λ p. IfSome p (λ m. is_other m.class ≡ true)) f.link.member_is
      (field_other (r.name, r.ty) f.link.class (class_in classes t f.link.name f.link.class f.link.named) o)))
      ∙ f.static_is))

  -- a class of the program isn't one of the library
  pub no_library : (name : List ℕ) (n : ℕ) → class_named classes name ≡ Some (Prog n)
      → starts_with nat_eq name (codes "java/") ≡ true → ⊥
  no_library name n e java = no_prog (table.class_named name) n (sym (library_named classes t name java) ∙ e)

  not_above : (name : List ℕ) (n : ℕ) → class_named classes name ≡ Some (Prog n)
      → is_above_arrays (base.Class name) ≡ false
  not_above name n e = false_if (is_above_arrays (base.Class name)) (λ h. ⊎_elim
      (λ p. ⊎_elim
      (λ q. named (codes "java/lang/Object") q refl)
      (λ q. named (codes "java/lang/Cloneable") q refl)
      (or_cases (is_text name (codes "java/lang/Object")) (is_text name (codes "java/lang/Cloneable")) p))
      (λ p. named (codes "java/io/Serializable") p refl)
      (or_cases (is_text name (codes "java/lang/Object") || is_text name (codes "java/lang/Cloneable"))
      (is_text name (codes "java/io/Serializable")) h))
    where
      named : (other : List ℕ) → is_text name other ≡ true → starts_with nat_eq other (codes "java/") ≡ true → ⊥
      named other q java = no_library name n e
          (subst (λ x. starts_with nat_eq x (codes "java/") ≡ true) (sym (same_text name other q)) java)

  program_instances : (name : List ℕ) (n : ℕ) → class_named classes name ≡ Some (Prog n)
      → is_interface_in classes (Prog n) ≡ false → HasInstances classes (class_type name)
  program_instances name n e i = record {
    no_array = no_arrays classes t name (Prog n) e i (not_above name n e);
    no_string = not_held classes t string name (Lib 6) (Prog n) (string_at classes t) e
        (apart string refl) i (not_below 6 (there 6 (omega arith)));
    no_builder = not_held classes t string_builder name (Lib 7) (Prog n) (builder_at classes t) e
        (apart string_builder refl) i (not_below 7 (there 7 (omega arith)));
  } where
    apart : (other : List ℕ) → starts_with nat_eq other (codes "java/") ≡ true → is_text other name ≡ false
    apart other java = false_if (is_text other name) (λ q. no_library name n e
        (subst (λ x. starts_with nat_eq x (codes "java/") ≡ true) (same_text other name q) java))

    there : (id : ℕ) → id < 32 → IsClass classes (Lib id)
    there id low = let many = count in omega (arith, low, many)

    not_below : (id : ℕ) → IsClass classes (Lib id) → is_class_below classes (Lib id) (Prog n) ≡ false
    not_below id h = false_if (is_class_below classes (Lib id) (Prog n))
        (λ k. let p = above_library classes t id (Prog n) h k in no_lib n p.0 p.1)
      where
        no_lib : (n k : ℕ) → Prog n ≡ Lib k → ⊥
        no_lib n k e = cc

  pub means_object_field : (n : ℕ) (r : MemberRef) → IsFieldText r.ty → TakenField classes n false r
      → MeansObjectField classes r
  means_object_field n r d f = record {
    field = means_field n false r f;
    instances = subst (λ (c : FieldType). HasInstances classes c) (sym f.link.class_is)
        (by f.link.class f.link.named (field_class n r f (ap begins d.2 ∙ field_begins d.0)));
  } where
    by : (c : ClassId) → class_named classes f.link.name ≡ Some c → is_other c ≡ false
        → HasInstances classes (class_type f.link.name)
    by (Prog k) e o = program_instances f.link.name k e o
    by (Lib id) e o = absurd cc

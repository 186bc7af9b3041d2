-- The types of members that are kept name classes that are kept, or ones of the library.
use Rattle.std.proofs.Common.{◌≡◌, ℕ, zero, suc, ◌+◌, ◌||◌, Bool, true, false, not, cond, List, [], ◌∷◌, ◌++◌}
use Rattle.std.proofs.Common.{length, map, Option, Some, None, slice_get, get_or, refl, sym, ap, subst, ◌∙◌, arith}
use Rattle.std.specs.List.{AllByRecursion, cons_option, flat_map, position}
use Rattle.std.specs.Option.{option_map, option_map_or}
use Rattle.std.proofs.lemmas.List.Quantifiers.{position-Some}
use Rattle.std.proofs.lemmas.Option.{slice_get-get_or}
use Rattle.class_laws.proofs.SpelledLists.{all_two}
use Rattle.jv_base.specs.Names.{is_text}
use Rattle.jv_base.proofs.Equality.{text_Decides}
use Rattle.jv_base.specs.declared.types.Base.{Base}
use Rattle.jv_base.specs.declared.types.Base.TheVariants as base
use Rattle.jv_base.specs.declared.types.FieldType.{FieldType}
use Rattle.jv_base.specs.declared.types.MethodType.{MethodType}
use Rattle.jv_base.proofs.Lists.{all_split, nil_parts}
use Rattle.mark_core.specs.Marks.{Closed}
use Rattle.class_model.specs.declared.class.Class.{Class}
use Rattle.class_model.specs.declared.class.Field.{Field}
use Rattle.class_model.specs.declared.class.Method.{Method}
use Rattle.lib_table.specs.Library.{LibraryClass, class, library}
use Rattle.lib_table.specs.Lookups as table
use Rattle.lib_table.specs.declared.class.LibKind.TheVariants.{Open}
use Rattle.class_pool.specs.Hierarchy.{or_found}
use Rattle.class_pool.specs.Items.{class_item}
use Rattle.class_pool.specs.declared.id.MemberAt.{MemberAt}
use Rattle.class_pool.specs.declared.id.ClassId.TheVariants.{Prog, Lib}
use Rattle.class_pool.proofs.Distinct.{position_next}
use Rattle.class_pool.proofs.ObjectLaws.{no_library_name}
use Rattle.link_check.specs.Profile.{body_kinds, class_kinds, code_kinds, declaration_kinds, left_out_at}
use Rattle.link_check.specs.Profile.{method_type_kinds, name_kinds, overriding_kinds, type_kinds, unless}
use Rattle.link_check.specs.declared.fault.ProfileKind.TheVariants.{LeftOutFlag}
use Rattle.class_model.specs.Flags.{is_native}
use Rattle.link_check.specs.Profile as profile
use Rattle.link_check.specs.Taken.{BreaksNoRule}
use Rattle.link_check.proofs.Taken.{links_taken}
use Rattle.member_shrink.specs.Shrunk.{is_marked, shrunk, with_marked_members}
use Rattle.require_sys.specs.Requires.{Item, OfClass, method_type_wants, name_wants, requires, throws_wants, type_wants}
use Rattle.require_sys.specs.Requires.{code_wants}
use Rattle.require_sys.specs.declared.kept.KeptByRules.{KeptByRules}
use Rattle.require_sys.specs.Closing.{is_in}
use Rattle.require_sys.proofs.Closing.{field_in, method_in}
use Rattle.require_sys.proofs.Parts.{all_flat_map, all_option}
use Rattle.image_laws.proofs.TakenSet.LibraryRows.{library_name}
use Rattle.image_laws.proofs.TakenSet.Rows.{none_each}
use Rattle.image_laws.proofs.ViewImage.Naming.{found_library}
use Rattle.fresh_names.specs.Fresh.{is_taken}
use Rattle.fresh_names.specs.Given.{class_names, front_of}
use Rattle.fresh_names.specs.declared.taken.TakenNames.{TakenNames}
use Rattle.pair_laws.specs.RenamedForm.Form.{IsKnownMethodType, IsKnownType, TypesAreKnown}
use Rattle.pair_laws.specs.RenamedForm.GivenForm.{is_known}
use Rattle.pair_laws.specs.NamedForm.Laws.{IsLinked}
use Rattle.pair_laws.proofs.NamedForm.Fronts.{front_java, is_java}
use Rattle.pair_laws.proofs.NamedForm.Picked.{all_picked_at, picked_name}

-- ---- lists

none_behind : (o : Option ℕ) → option_map suc o ≡ None → o ≡ None
none_behind None h = refl
none_behind (Some n) h = absurd cc

-- where none is found, the first one doesn't pass, and none is found behind it
none_first : {A : Type 0} (q : A → Bool) (y : A) (xs : List A) → position q (y ∷ xs) ≡ None
    → (q y ≡ false) × (position q xs ≡ None)
none_first q y xs none = on (q y) refl
  where
    on : (b : Bool) → q y ≡ b → (q y ≡ false) × (position q xs ≡ None)
    on true e = absurd (
        let first : Some 0 ≡ None = sym (position_next q y xs
        ∙ ap (λ (b : Bool). cond b (Some 0) (option_map suc (position q xs))) e) ∙ none in
        cc)
    on false e = (
      e,
      none_behind (position q xs)
          (sym (position_next q y xs ∙ ap (λ (b : Bool). cond b (Some 0) (option_map suc (position q xs))) e) ∙ none),
    )

-- none passes
none_at : {A : Type 0} (q : A → Bool) (xs : List A) → position q xs ≡ None → (k : ℕ) (x : A) → slice_get xs k ≡ Some x
    → q x ≡ false
none_at q [] none k x at = absurd cc
none_at q (y ∷ xs) none zero x at = let same : y ≡ x = cc in ap q (sym same) ∙ (none_first q y xs none).0
none_at q (y ∷ xs) none (suc k) x at = none_at q xs (none_first q y xs none).1 k x at

-- ---- names in the packages of the library

-- no class of these has one
abbrev pub NoneJava : List Class → Type 0
NoneJava cs = AllByRecursion (λ (c : Class). is_java c.name ≡ false) cs

-- so none is in such a package
no_front : (cs : List Class) (name : List ℕ) → NoneJava cs → is_java name ≡ true
    → is_taken (map front_of (class_names cs)) (front_of name) ≡ false
no_front [] name none h = refl
no_front (c ∷ cs) name none h =
    on (is_text (front_of name) (front_of c.name)) refl (no_front cs name none.1 h)
  where
    on : (b : Bool) → is_text (front_of name) (front_of c.name) ≡ b
        → is_taken (map front_of (class_names cs)) (front_of name) ≡ false
        → (b || is_taken (map front_of (class_names cs)) (front_of name)) ≡ false
    on false e rest = rest
    on true e rest = absurd (
        let same = (text_Decides (front_of name) (front_of c.name)).0 e in
        let w : false ≡ true = sym none.0 ∙ front_java name c.name h (sym same) in
        cc)

-- nor has one such a name
pub no_name : (cs : List Class) (name : List ℕ) → NoneJava cs → is_java name ≡ true
    → is_taken (class_names cs) name ≡ false
no_name [] name none h = refl
no_name (c ∷ cs) name none h = on (is_text name c.name) refl (no_name cs name none.1 h)
  where
    on : (b : Bool) → is_text name c.name ≡ b → is_taken (class_names cs) name ≡ false
        → (b || is_taken (class_names cs) name) ≡ false
    on false e rest = rest
    on true e rest = absurd (
        let w : false ≡ true = sym none.0 ∙ ap is_java (sym ((text_Decides name c.name).0 e)) ∙ h in
        cc)

-- ---- what is kept

module _ (classes : List Class) (rules : KeptByRules) (marks : List Bool) (t : IsLinked classes)
    (closed : Closed (requires classes rules) (is_marked marks)) where
  abbrev pub marked : ℕ → Bool
  marked n = is_marked marks (class_item classes n)

  abbrev pub left : ℕ × Class → Class
  left e = with_marked_members marks (class_item classes e.0) e.1

  no_rule : BreaksNoRule classes
  no_rule = links_taken classes t.linked

  free : (n : ℕ) (c : Class) → slice_get classes n ≡ Some c → is_java c.name ≡ false
  free n c at = on (is_java c.name) refl
    where
      on : (b : Bool) → is_java c.name ≡ b → b ≡ false
      on false e = refl
      on true e = absurd (
          let none = no_library_name t.files classes c.name t.built e in
          let w : true ≡ false = sym ((text_Decides c.name c.name).1 refl)
          ∙ none_at (λ (d : Class). is_text c.name d.name) classes none n c at in
          cc)

  pub none_java : NoneJava (shrunk classes marks)
  none_java = all_picked_at marked left (λ (c : Class). is_java c.name ≡ false) 0 classes
      (λ k c at passes. let start : 0 + k ≡ k = omega arith in free k c at)

  abbrev In : Item → Type 0
  In item = is_in classes (is_marked marks) item ≡ true

  module _ (taken : TakenNames) where
    abbrev pub known : List ℕ → Bool
    known = is_known taken (shrunk classes marks)

    or_middle : (b c d : Bool) → c ≡ true → (b || c || d) ≡ true
    or_middle true c d h = refl
    or_middle false true d h = refl
    or_middle false false d h = absurd cc

    or_last : (b c d : Bool) → d ≡ true → (b || c || d) ≡ true
    or_last true c d h = refl
    or_last false true d h = refl
    or_last false false d h = h

    by_kept : (name : List ℕ) → is_taken (class_names (shrunk classes marks)) name ≡ true → known name ≡ true
    by_kept name h = or_middle (is_taken taken.classes name) (is_taken (class_names (shrunk classes marks)) name)
        (not (is_taken (map front_of (class_names (shrunk classes marks))) (front_of name))) h

    by_library : (name : List ℕ) → is_java name ≡ true → known name ≡ true
    by_library name h = or_last (is_taken taken.classes name) (is_taken (class_names (shrunk classes marks)) name)
        (not (is_taken (map front_of (class_names (shrunk classes marks))) (front_of name)))
        (ap not (no_front (shrunk classes marks) name none_java h))

    -- a class of the program that is marked
    program_known : (name : List ℕ) (k : ℕ) → position (λ (c : Class). is_text name c.name) classes ≡ Some k
        → marked k ≡ true → known name ≡ true
    program_known name k is h = at classes refl is
      where
        at : (cs : List Class) → cs ≡ classes → position (λ (c : Class). is_text name c.name) cs ≡ Some k
            → known name ≡ true
        at [] same is = absurd cc
        at (d ∷ ds) same is =
            let found = position-Some (λ (c : Class). is_text name c.name) (d ∷ ds) k d is in
            let c : Class = get_or (d ∷ ds) k d in
            let there : slice_get classes k ≡ Some c =
            ap (λ (cs : List Class). slice_get cs k) (sym same) ∙ slice_get-get_or (d ∷ ds) k d found.0 in
            let start : 0 + k ≡ k = omega arith in
            let among = picked_name marked left (λ (c : Class). c.name) 0 classes k c there (ap marked start ∙ h) in
            by_kept name (subst (λ (a : List ℕ). is_taken (class_names (shrunk classes marks)) a ≡ true)
            (sym ((text_Decides name c.name).0 found.1)) among)

    -- a class of the library
    library_known : (name : List ℕ) (id : ℕ) → table.class_named name ≡ Some id → known name ≡ true
    library_known name id is =
        let row = library_name id
        (position-Some (λ (c : LibraryClass). is_text c.name name) library id (class [] Open None [] []) is).0 in
        by_library name (ap is_java (sym (found_library name id is)) ∙ row.0)

    -- a name that leads to a class, which is kept where it is one of the program
    name_known : (n : ℕ) (name : List ℕ) → name_kinds classes n name ≡ [] → AllByRecursion In (name_wants classes name)
        → known name ≡ true
    name_known n name fine wants =
        on (position (λ (c : Class). is_text name c.name) classes) refl (table.class_named name) refl fine wants
      where
        on : (o : Option ℕ) → position (λ (c : Class). is_text name c.name) classes ≡ o → (l : Option ℕ)
            → table.class_named name ≡ l → class_kinds classes n (or_found o (option_map Lib l)) ≡ []
            → AllByRecursion In (cons_option (option_map OfClass (or_found o (option_map Lib l))) [])
            → known name ≡ true
        on (Some k) is l other fine wants = program_known name k is wants.0
        on None is (Some id) other fine wants = library_known name id other
        on None is None other fine wants = absurd cc

    base_known : (n : ℕ) (b : Base) → profile.base_kinds classes n b ≡ []
        → AllByRecursion In (type_wants classes (record { dims = 0; base = b })) → (name : List ℕ) → b ≡ base.Class name
        → known name ≡ true
    base_known n (base.Class own) fine wants name is =
        let same : own ≡ name = cc in
        subst (λ (a : List ℕ). known a ≡ true) same (name_known n own fine wants)
    base_known n base.Boolean fine wants name is = absurd cc
    base_known n base.Byte fine wants name is = absurd cc
    base_known n base.Char fine wants name is = absurd cc
    base_known n base.Short fine wants name is = absurd cc
    base_known n base.Int fine wants name is = absurd cc
    base_known n base.Long fine wants name is = absurd cc
    base_known n base.Float fine wants name is = absurd cc
    base_known n base.Double fine wants name is = absurd cc

    type_known : (n : ℕ) (ty : FieldType) → type_kinds classes n ty ≡ [] → AllByRecursion In (type_wants classes ty)
        → IsKnownType known ty
    type_known n ty fine wants = base_known n ty.base fine wants

    method_type_known : (n : ℕ) (ty : MethodType) → method_type_kinds classes n ty ≡ []
        → AllByRecursion In (method_type_wants classes ty) → IsKnownMethodType known ty
    method_type_known n ty fine wants =
        let each = all_two (λ (f : FieldType). type_kinds classes n f ≡ [])
        (λ (f : FieldType). AllByRecursion In (type_wants classes f)) (IsKnownType known) (λ f p q. type_known n f p q)
        (cons_option ty.ret ty.args)
        (none_each (type_kinds classes n) (cons_option ty.ret ty.args) fine)
        (all_flat_map In (type_wants classes) (cons_option ty.ret ty.args) wants) in
        let parts = all_option (IsKnownType known) ty.ret ty.args each in
        record { arguments = parts.1; returned = parts.0 }

    field_known : (n : ℕ) (c : Class) → slice_get classes n ≡ Some c → (k : ℕ) (f : Field)
        → slice_get c.fields k ≡ Some f → is_marked marks (class_item classes n + 1 + k) ≡ true → IsKnownType known f.ty
    field_known n c is k f at h =
        let wants = field_in classes rules (is_marked marks) closed n c is k f at h in
        let kinds = nil_parts _ _ (no_rule.field n c k f is at) in
        type_known n f.ty kinds.1 wants.1

    method_known : (n : ℕ) (c : Class) → slice_get classes n ≡ Some c → (k : ℕ) (m : Method)
        → slice_get c.methods k ≡ Some m
        → is_marked marks (class_item classes n + 1 + (length c.fields + k)) ≡ true → IsKnownMethodType known m.ty
    method_known n c is k m at h =
        let wants = method_in classes rules (is_marked marks) closed n c is k m at h in
        let typed = all_split In (method_type_wants classes m.ty)
        (throws_wants classes rules m ++ option_map_or (code_wants classes n) m.code []) wants.1 in
        let item : MemberAt = record { class = Prog n; index = length c.fields + k } in
        let head = left_out_at c.left_out (Some (length c.fields + k)) in
        let native = unless (not (is_native m.flags.0)) LeftOutFlag in
        let head_kinds = declaration_kinds classes n c (length c.fields + k) m in
        let one = nil_parts (head_kinds ++ body_kinds c m ++ overriding_kinds classes n item)
        (option_map_or (code_kinds classes n m.name) m.code []) (no_rule.method n c k m is at) in
        let two = nil_parts (head_kinds ++ body_kinds c m) (overriding_kinds classes n item) one.0 in
        let three = nil_parts head_kinds (body_kinds c m) two.0 in
        let four = nil_parts (head ++ native ++ method_type_kinds classes n m.ty)
        (flat_map (name_kinds classes n) m.throws) three.0 in
        let five = nil_parts (head ++ native) (method_type_kinds classes n m.ty) four.0 in
        method_type_known n m.ty five.1 typed.0

    class_known : (n : ℕ) (c : Class) → slice_get classes n ≡ Some c → TypesAreKnown known (left (n, c))
    class_known n c is = record {
      fields = all_picked_at (is_marked marks) (λ (e : ℕ × Field). e.1) (λ (f : Field). IsKnownType known f.ty)
          (class_item classes n + 1) c.fields (λ k f at h. field_known n c is k f at h);
      methods = all_picked_at (is_marked marks) (λ (e : ℕ × Method). e.1)
          (λ (m : Method). IsKnownMethodType known m.ty) (class_item classes n + 1 + length c.fields) c.methods
          (λ k m at h.
          let place : class_item classes n + 1 + length c.fields + k
          ≡ class_item classes n + 1 + (length c.fields + k) = omega arith in
          method_known n c is k m at (ap (is_marked marks) (sym place) ∙ h));
    }

    -- the types of members that are kept name known classes
    pub types_known : AllByRecursion (TypesAreKnown known) (shrunk classes marks)
    types_known = all_picked_at marked left (TypesAreKnown known) 0 classes
        (λ k c at passes.
        let start : k ≡ 0 + k = omega arith in
        subst (λ (i : ℕ). TypesAreKnown known (left (i, c))) start (class_known k c at))

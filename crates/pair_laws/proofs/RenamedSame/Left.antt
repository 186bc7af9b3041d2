-- What is left of a set finds its classes, and names types of classes that are there.
use Rattle.std.proofs.Common.{◌≡◌, ℕ, ◌+◌, ◌||◌, not, Bool, true, List, [], ◌∷◌, ◌++◌}
use Rattle.std.proofs.Common.{length}
use Rattle.std.proofs.Common.{Option, Some, None, slice_get, refl, sym, ap, subst, ◌∙◌, arith}
use Rattle.std.specs.Prelude.{IfSome, is_some}
use Rattle.std.specs.List.{AllByRecursion, cons_option, flat_map}
use Rattle.std.specs.Option.{option_map, option_map_or}
use Rattle.std.proofs.lemmas.Option.{slice_get_within}
use Rattle.std.proofs.Math.Bool.{or-true}
use Rattle.jv_base.specs.Types.{IsFieldType, IsMethodType}
use Rattle.jv_base.specs.declared.types.Base.{Base}
use Rattle.jv_base.specs.declared.types.FieldType.{FieldType}
use Rattle.jv_base.proofs.Lists.{all_split, all_at, all_from, nil_parts}
use Rattle.lib_table.specs.Lookups as table
use Rattle.mark_core.specs.Marks.{Closed}
use Rattle.class_model.specs.Flags.{is_interface, is_left_out_class, is_native}
use Rattle.class_model.specs.WellFormed.{IsGoodField, IsGoodMethod}
use Rattle.class_model.specs.declared.class.Class.{Class}
use Rattle.class_model.specs.declared.class.Field.{Field}
use Rattle.class_model.specs.declared.class.Method.{Method}
use Rattle.class_pool.specs.Found.{name_of}
use Rattle.class_pool.specs.Hierarchy.{IsClass, class_named}
use Rattle.class_pool.specs.Items.{class_item}
use Rattle.class_pool.specs.declared.id.ClassId.{ClassId}
use Rattle.class_pool.specs.declared.id.ClassId.TheVariants.{Prog, Lib}
use Rattle.class_pool.specs.declared.id.MemberAt.{MemberAt}
use Rattle.class_pool.proofs.Declaring.{named_there}
use Rattle.link_check.specs.Profile.{base_kinds, body_kinds, class_kinds, code_kinds, declaration_kinds}
use Rattle.link_check.specs.Profile.{implementing_kinds}
use Rattle.link_check.specs.Profile.{left_out_at, method_type_kinds, name_kinds, overriding_kinds, type_kinds, unless}
use Rattle.link_check.specs.declared.fault.ProfileKind.TheVariants.{LeftOutFlag}
use Rattle.link_check.proofs.Taken.{links_taken}
use Rattle.link_check.specs.Taken.{BreaksNoRule}
use Rattle.member_shrink.specs.Shrunk.{is_marked, shrunk}
use Rattle.require_sys.specs.Requires.{called_wants, initialisation_wants, requires, rule_wants, super_wants}
use Rattle.require_sys.specs.declared.kept.KeptByRules.{KeptByRules}
use Rattle.require_sys.proofs.Closing.{class_in, field_in}
use Rattle.image_laws.specs.ShrunkImage.Keeping.{class_place, is_class_kept}
use Rattle.image_laws.proofs.ShrunkImage.Classes.{f, kept_from, named_moved}
use Rattle.image_laws.proofs.ShrunkImage.Kept.{as_filter}
use Rattle.image_laws.specs.TakenSet.TakenSet.{IsTaken}
use Rattle.image_laws.proofs.TakenSet.Names.{class_found, library_named}
use Rattle.removal_laws.proofs.RemovalImage.Wanted.{In, wants_of_method}
use Rattle.removal_laws.proofs.RemovalLinks.Instructions.{base_left, left, names_left, types_left}
use Rattle.removal_laws.proofs.RemovalLinks.Left.{Stays, stays}
use Rattle.removal_laws.proofs.RemovalLinks.Places.{origin}
use Rattle.pair_laws.specs.RenamedForm.Form.{IsKnownMethodType, IsKnownType}
use Rattle.pair_laws.specs.RenamedImage.Renaming.{FindsItsClasses, NamesKnownTypes, is_known, is_library_name}

-- ---- names without a fault are there

module _ (classes : List Class) (n : ℕ) where
  name_there : (name : List ℕ) → name_kinds classes n name ≡ [] → is_some (class_named classes name) ≡ true
  name_there name none = by (class_named classes name) refl none
    where
      by : (o : Option ClassId) → class_named classes name ≡ o → name_kinds classes n name ≡ []
          → is_some (class_named classes name) ≡ true
      by (Some c) e none = ap is_some e
      by None e none = absurd (let w = ap (class_kinds classes n) (sym e) ∙ none in cc)

  names_there : (names : List (List ℕ)) → flat_map (name_kinds classes n) names ≡ []
      → AllByRecursion (λ name. is_some (class_named classes name) ≡ true) names
  names_there [] none = tt
  names_there (name ∷ names) none =
      let parts = nil_parts (name_kinds classes n name) (flat_map (name_kinds classes n) names) none in
      (name_there name parts.0, names_there names parts.1)

  base_there : (ty : FieldType) (b : Base) → ty.base ≡ b → base_kinds classes n b ≡ []
      → IsKnownType (is_known classes) ty
  base_there ty b e none name same =
      let none_named : name_kinds classes n name ≡ [] = ap (base_kinds classes n) (sym same ∙ e) ∙ none in
      ap (λ (t : Bool). is_library_name name || t) (name_there name none_named) ∙ or-true (is_library_name name)

  type_there : (ty : FieldType) → base_kinds classes n ty.base ≡ [] → IsKnownType (is_known classes) ty
  type_there ty none = base_there ty ty.base refl none

  types_there : (tys : List FieldType) → flat_map (type_kinds classes n) tys ≡ []
      → AllByRecursion (IsKnownType (is_known classes)) tys
  types_there [] none = tt
  types_there (ty ∷ tys) none =
      let parts = nil_parts (type_kinds classes n ty) (flat_map (type_kinds classes n) tys) none in
      (type_there ty parts.0, types_there tys parts.1)

  method_there : (ret : Option FieldType) (args : List FieldType)
      → flat_map (type_kinds classes n) (cons_option ret args) ≡ []
      → IfSome ret (IsKnownType (is_known classes)) × AllByRecursion (IsKnownType (is_known classes)) args
  method_there None args none = (tt, types_there args none)
  method_there (Some ty) args none = let all = types_there (ty ∷ args) none in (all.0, all.1)

module _ (classes : List Class) (rules : KeptByRules) (marks : List Bool)
    (closed : Closed (requires classes rules) (is_marked marks)) (taken : IsTaken classes) where
  abbrev out : List Class
  out = shrunk classes marks

  right : BreaksNoRule classes
  right = links_taken classes taken.linked

  -- ---- classes are found

  some_kept : (name : List ℕ) (x : ClassId) → class_named classes name ≡ Some x → is_class_kept classes marks x ≡ true
      → IfSome (class_named classes name) (λ y. is_class_kept classes marks y ≡ true)
  some_kept name x e k = subst (λ o. IfSome o (λ y. is_class_kept classes marks y ≡ true)) (sym e) k

  pub class_left : (name : List ℕ) (x : ClassId) → class_named classes name ≡ Some x
      → is_class_kept classes marks x ≡ true → class_named out name ≡ Some (class_place classes marks x)
  class_left name x e k =
      named_moved classes marks name (some_kept name x e k) ∙ ap (option_map (class_place classes marks)) e

  own_left : (j : ℕ) (d : Class) → slice_get out j ≡ Some d → class_named out d.name ≡ Some (Prog j)
  own_left j d at =
      let s = stays classes rules marks closed taken j d at in
      let own : name_of classes (Prog s.n) ≡ s.class.name =
      ap (λ o. option_map_or (λ (c : Class). c.name) o []) s.there in
      let found = class_found classes taken (Prog s.n) (slice_get_within classes s.n s.class s.there) in
      ap (λ (x : Class). class_named out x.name) s.is
      ∙ class_left s.class.name (Prog s.n) (ap (class_named classes) (sym own) ∙ found) s.own
      ∙ ap (λ (k : ℕ). Some (Prog k)) (sym s.place)

  library_left : (name : List ℕ) → is_library_name name ≡ true
      → class_named out name ≡ option_map Lib (table.class_named name)
  library_left name java =
      named_moved classes marks name (kept (table.class_named name) (library_named classes taken name java))
      ∙ ap (option_map (class_place classes marks)) (library_named classes taken name java)
      ∙ same (table.class_named name)
    where
      same : (o : Option ℕ) → option_map (class_place classes marks) (option_map Lib o) ≡ option_map Lib o
      same None = refl
      same (Some id) = refl

      kept : (o : Option ℕ) → class_named classes name ≡ option_map Lib o
          → IfSome (class_named classes name) (λ y. is_class_kept classes marks y ≡ true)
      kept None e = subst (λ p. IfSome p (λ y. is_class_kept classes marks y ≡ true)) (sym e) tt
      kept (Some id) e = some_kept name (Lib id) e
          (kept_from classes marks (Lib id) (subst (λ p. IfSome p (IsClass classes)) e (named_there classes name)) refl)

  pub found_left : FindsItsClasses out
  found_left = record { own = own_left; library = library_left }

  -- ---- types are known

  -- what is named by a class that is left
  module _ (j : ℕ) (d : Class) (at : slice_get out j ≡ Some d) where
    s : Stays classes rules marks closed taken j d
    s = stays classes rules marks closed taken j d at

    abbrev new : Class
    new = f classes marks s.n s.class

    abbrev place : ℕ
    place = left classes rules marks closed taken s.n s.own

    supers_there : AllByRecursion (λ name. is_some (class_named out name) ≡ true) (d.super_name ∷ d.interfaces)
    supers_there =
        let c = s.class in
        let heads = left_out_at c.left_out None in
        let flags = unless (not (is_left_out_class c.flags.0)) LeftOutFlag in
        let supers = flat_map (name_kinds classes s.n) (c.super_name ∷ c.interfaces) in
        let one = nil_parts (heads ++ flags ++ supers) (implementing_kinds classes s.n c) (right.class s.n c s.there) in
        let two = nil_parts (heads ++ flags) supers one.0 in
        let wants = (all_split (In classes rules marks closed) (super_wants classes c)
        (initialisation_wants classes s.n ++ (rule_wants classes rules s.n ++ called_wants classes s.n c))
        (class_in classes rules (is_marked marks) closed s.n c s.there s.marked)).0 in
        subst (λ (x : Class). AllByRecursion (λ name. is_some (class_named out name) ≡ true)
        (x.super_name ∷ x.interfaces)) (sym s.is)
        (names_there out place (c.super_name ∷ c.interfaces)
        (names_left classes rules marks closed taken s.n s.own (c.super_name ∷ c.interfaces) wants two.1))

    field_there : (k : ℕ) (x : Field) → slice_get new.fields k ≡ Some x
        → IsFieldType x.ty × IsKnownType (is_known out) x.ty
    field_there k x there =
        let c = s.class in
        let o = origin (is_marked marks) (λ k y. y) (class_item classes s.n + 1) c.fields k x
        (ap (λ (t : List Field). slice_get t k)
        (sym (as_filter (is_marked marks) (λ k y. y) (class_item classes s.n + 1) c.fields)) ∙ there) in
        let here : slice_get c.fields o.k ≡ Some x = o.at ∙ ap (λ (z : Field). Some z) (sym o.is) in
        let none = (nil_parts (left_out_at c.left_out (Some o.k)) (type_kinds classes s.n x.ty)
        (right.field s.n c o.k x s.there here)).1 in
        let wants = (field_in classes rules (is_marked marks) closed s.n c s.there o.k x here o.passes).1 in
        let good = all_at (IsGoodField (is_interface c.flags.0)) c.fields o.k x
        (taken.formed s.n c s.there).fields here in (
          good.typed,
          type_there out place x.ty
              (base_left classes rules marks closed taken s.n s.own x.ty.base wants none),
        )

    method_typed : (k : ℕ) (m : Method) → slice_get new.methods k ≡ Some m
        → IsMethodType m.ty × IsKnownMethodType (is_known out) m.ty
    method_typed k m there =
        let c = s.class in
        let first = class_item classes s.n + 1 + length c.fields in
        let o = origin (is_marked marks) (λ k y. y) first c.methods k m
        (ap (λ (t : List Method). slice_get t k)
        (sym (as_filter (is_marked marks) (λ k y. y) first c.methods)) ∙ there) in
        let here : slice_get c.methods o.k ≡ Some m = o.at ∙ ap (λ (z : Method). Some z) (sym o.is) in
        let item : class_item classes s.n + 1 + length c.fields + o.k
        ≡ class_item classes s.n + 1 + (length c.fields + o.k) = omega arith in
        let passes : is_marked marks (class_item classes s.n + 1 + (length c.fields + o.k)) ≡ true =
        ap (is_marked marks) (sym item) ∙ o.passes in
        let wants = wants_of_method classes rules marks closed s.n c o.k m s.there here passes in
        let old : MemberAt = record { class = Prog s.n; index = length c.fields + o.k } in
        let head = left_out_at c.left_out (Some (length c.fields + o.k)) in
        let native = unless (not (is_native m.flags.0)) LeftOutFlag in
        let head_kinds = declaration_kinds classes s.n c (length c.fields + o.k) m in
        let one = nil_parts (head_kinds ++ body_kinds c m ++ overriding_kinds classes s.n old)
        (option_map_or (code_kinds classes s.n m.name) m.code []) (right.method s.n c o.k m s.there here) in
        let two = nil_parts (head_kinds ++ body_kinds c m) (overriding_kinds classes s.n old) one.0 in
        let three = nil_parts head_kinds (body_kinds c m) two.0 in
        let four = nil_parts (head ++ native ++ method_type_kinds classes s.n m.ty)
        (flat_map (name_kinds classes s.n) m.throws) three.0 in
        let five = nil_parts (head ++ native) (method_type_kinds classes s.n m.ty) four.0 in
        let types = types_left classes rules marks closed taken s.n s.own (cons_option m.ty.ret m.ty.args) wants.typed
        five.1 in
        let known = method_there out place m.ty.ret m.ty.args types in
        let good = all_at (IsGoodMethod (is_interface c.flags.0)) c.methods o.k m
        (taken.formed s.n c s.there).methods here in
        (good.typed, record { arguments = known.1; returned = known.0 })

  pub types_known : NamesKnownTypes out
  types_known = record {
    super_class = λ j d at. (supers_there j d at).0;
    interfaces = λ j d at. (supers_there j d at).1;
    fields = λ j d at.
        subst (λ (x : Class). AllByRecursion (λ (y : Field). IsFieldType y.ty × IsKnownType
        (is_known out) y.ty) x.fields)
        (sym (s j d at).is)
        (all_from (λ (y : Field). IsFieldType y.ty × IsKnownType (is_known out) y.ty) (new j d at).fields
        (field_there j d at));
    methods = λ j d at.
        subst (λ (x : Class). AllByRecursion
        (λ (y : Method). IsMethodType y.ty × IsKnownMethodType (is_known out) y.ty) x.methods)
        (sym (s j d at).is)
        (all_from (λ (y : Method). IsMethodType y.ty × IsKnownMethodType (is_known out) y.ty) (new j d at).methods
        (method_typed j d at));
  }

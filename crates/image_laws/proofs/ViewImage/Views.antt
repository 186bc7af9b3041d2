-- The view of an image is the image of the view.
use Rattle.std.proofs.Common.{◌≡◌, ℕ, not, ◌&&◌, ◌||◌, Bool, true, false, cond, List, [], map, Option, Some, None}
use Rattle.std.proofs.Common.{refl}
use Rattle.std.proofs.Common.{sym, ap, subst, ◌∙◌}
use Rattle.std.specs.Prelude.{◌==◌, IfSome, codes, option_to_list}
use Rattle.std.specs.List.{AllZip}
use Rattle.std.specs.Option.{option_and_then, option_map, option_map_or}
use Rattle.std.proofs.lemmas.Bool.{and_parts, not-true}
use Rattle.jv_base.specs.Names.{is_text}
use Rattle.jv_base.specs.declared.types.Base.{Base}
use Rattle.jv_base.specs.declared.types.Base.TheVariants as base
use Rattle.jv_base.proofs.Options.{both_there}
use Rattle.class_model.specs.declared.class.Class.{Class}
use Rattle.class_model.specs.declared.op.MemberRef.{MemberRef}
use Rattle.class_model.specs.Flags.{acc_abstract, acc_private, acc_public}
use Rattle.class_pool.specs.Found.{NameAndType, declared_in, is_abstract_member, is_instance_method}
use Rattle.class_pool.specs.Found.{is_private_member, is_public_member, name_of, named_at}
use Rattle.class_pool.specs.Hierarchy.{IsClass, class_named, superclass}
use Rattle.class_pool.specs.Resolution.{field_found, is_interface_in, method_found}
use Rattle.class_pool.specs.Selection.{selected, selected_special}
use Rattle.class_pool.specs.Supers.{is_below}
use Rattle.class_pool.specs.declared.id.ClassId.{ClassId}
use Rattle.class_pool.specs.declared.id.ClassId.TheVariants.{Prog, Lib}
use Rattle.class_pool.specs.declared.id.MemberAt.{MemberAt}
use Rattle.class_pool.proofs.Declaring.{declared_named, named_there, superclass_there}
use Rattle.link_check.specs.Profile.{class_of, is_of_library}
use Rattle.lib_table.specs.Library.{object, serializable}
use Rattle.image_laws.specs.SetImage.Image.{Image, IsProperSet, SelectedKept, if_kept}
use Rattle.image_laws.specs.SetImage.Laws.{KeepsFields, KeepsMethods, KeepsOrder, KeepsSelection, KeepsSpecialCalls}
use Rattle.image_laws.proofs.SetImage.Finding.{field_moved, method_moved}
use Rattle.image_laws.proofs.SetImage.Selecting.{selected_moved, special_moved}
use Rattle.image_laws.proofs.SetImage.Walks.{below_moved}
use Rattle.jvm_model.specs.Exceptions.{AbstractMethod, IllegalAccess, IncompatibleChange}
use Rattle.jvm_model.specs.Fields.{blank, stored_in}
use Rattle.jvm_model.specs.Library.{Row}
use Rattle.jvm_model.specs.LibraryRows.{row_of}
use Rattle.jvm_model.specs.Mapped.{CodeMap, Mapped, OptionCorr, ShapeMap, TargetMap, is_own_class}
use Rattle.jvm_model.specs.Program.{Fails, Library, Program, Target}
use Rattle.jvm_model.specs.Types.{default_of, field_kind, is_above_arrays}
use Rattle.jvm_model.specs.Value.{Key, Null, Value}
use Rattle.jvm_model.proofs.Compose.{mapped_some}
use Rattle.jvm_model.proofs.Keys.{texts_agree}
use Rattle.set_view.specs.ViewOf.{array_from, array_target_of, checked, code_at, constant_at, field_of, firsts_of}
use Rattle.set_view.specs.ViewOf.{is_selected, key_at, member_of}
use Rattle.set_view.specs.ViewOf.{method_of, of_class, of_method, selected_from, selected_of, shape_of, special_of}
use Rattle.set_view.specs.ViewOf.{static_of}
use Rattle.set_view.specs.ViewOf.{target_at, target_in, target_of, value_of, view_of}
use Rattle.image_laws.specs.ViewImage.ImageNames.{found_ref, mapping, names, new_key, new_ref, new_special}
use Rattle.image_laws.specs.ViewImage.ImageNames.{renamed_ref}
use Rattle.image_laws.specs.ViewImage.ImageView.{IsImageView, LikeDescriptors, clinit, stored_by}
use Rattle.image_laws.proofs.ViewImage.Naming.{MemberOf, class_of_name, class_there_too, key_class, member_is}
use Rattle.image_laws.proofs.ViewImage.Naming.{member_of_key, member_there_too, new_key_of, new_name, one_class}
use Rattle.image_laws.proofs.ViewImage.Naming.{one_key}
use Rattle.image_laws.proofs.ViewImage.Standing.{Stands, declared_stands, field_stands, method_stands, selected_stands}
use Rattle.image_laws.proofs.ViewImage.Standing.{special_stands}

order : KeepsOrder
order = below_moved

fields : KeepsFields
fields = field_moved

methods : KeepsMethods
methods = method_moved

selection : KeepsSelection
selection = selected_moved

special_calls : KeepsSpecialCalls
special_calls = special_moved

kept_some : {A : Type 0} (kept : A → Bool) (o : Option A) → option_map_or kept o true ≡ true
    → IfSome o (λ x. kept x ≡ true)
kept_some kept None h = tt
kept_some kept (Some x) h = h

module _ (a b : List Class) (i : Image a b) (p : IsProperSet a) (rule : SelectedKept a b i)
    (told : IsImageView a b i) where
  abbrev Classes : List ℕ → List ℕ → Type 0
  Classes c d = (names a b i).class c ≡ Some d

  abbrev Keys : Key → Key → Type 0
  Keys k l = option_and_then (new_key a b i) (member_of a k) ≡ Some l

  -- ---- a member of a key

  descriptor_like : (k l : Key) (m : MemberOf a b i told k l) → i.renamed (named_at a m.at)
      ≡ Some (named_at b (i.moved_member m.at))
  descriptor_like k l m = i.name_moved m.at m.kept

  descriptor_is : (k l : Key) (m : MemberOf a b i told k l)
      → ((named_at a m.at).1 ≡ k.descriptor) × ((named_at b (i.moved_member m.at)).1 ≡ l.descriptor)
  descriptor_is k l m =
      (ap (λ (t : Key). t.descriptor) (member_is a k m.at m.is).key, ap (λ (t : Key). t.descriptor) (sym m.key))

  default_same : (k l : Key) → Keys k l → blank l ≡ blank k
  default_same k l e =
      let m = member_of_key a b i told k l e in
      let like = told.descriptors _ _ (descriptor_like k l m) in
      let is = descriptor_is k l m in
      ap (λ t. option_map_or default_of (field_kind t) Null) (sym is.1)
      ∙ ap (λ o. option_map_or default_of o Null) like.field
      ∙ ap (λ t. option_map_or default_of (field_kind t) Null) is.0

  stored_same : (k l : Key) → Keys k l → (v : Value) → stored_in l v ≡ stored_in k v
  stored_same k l e v =
      let m = member_of_key a b i told k l e in
      let like = told.descriptors _ _ (descriptor_like k l m) in
      let is = descriptor_is k l m in
      ap (λ t. stored_by t v) (sym is.1) ∙ like.stores v
      ∙ ap (λ t. stored_by t v) is.0

  constant_same : (k l : Key) → Keys k l
      → option_map value_of (option_and_then (constant_at b) (member_of b l))
      ≡ option_map value_of (option_and_then (constant_at a) (member_of a k))
  constant_same k l e =
      let m = member_of_key a b i told k l e in
      ap (λ o. option_map value_of (option_and_then (constant_at b) o)) (member_there_too a b i told k l m)
      ∙ ap (option_map value_of) (told.constant_moved m.at m.kept)
      ∙ sym (ap (λ o. option_map value_of (option_and_then (constant_at a) o)) m.is)

  code_same : (k l : Key) → Keys k l
      → OptionCorr (CodeMap (mapping a b i) k.class) (option_and_then (code_at a) (member_of a k))
      (option_and_then (code_at b) (member_of b l))
  code_same k l e =
      let m = member_of_key a b i told k l e in
      let class : name_of a (m.at).class ≡ k.class = ap (λ (t : Key). t.class) (member_is a k m.at m.is).key in
      subst (λ o. OptionCorr (CodeMap (mapping a b i) k.class) o (option_and_then (code_at b) (member_of b l)))
      (sym (ap (option_and_then (code_at a)) m.is))
      (subst (λ o. OptionCorr (CodeMap (mapping a b i) k.class) (code_at a m.at) o)
      (sym (ap (option_and_then (code_at b)) (member_there_too a b i told k l m)))
      (subst (λ c. OptionCorr (CodeMap (mapping a b i) c) (code_at a m.at) (code_at b (i.moved_member m.at))) class
      (told.code_moved m.at m.kept)))

  -- ---- references

  -- a reference with a new one: its class and its member are kept, and its name has one that stands for it
  record Ref (found : ClassId → Option MemberAt) (r s : MemberRef) : Type 0 where
    class : ClassId
    class_is : class_of a r ≡ Some class
    class_kept : i.kept class ≡ true
    member : MemberAt
    member_is : found class ≡ Some member
    member_kept : i.kept_member member ≡ true
    named : NameAndType
    named_is : i.renamed (r.name, r.ty) ≡ Some named
    new : s ≡ renamed_ref a b i r class named

  new_ref_is : (r s : MemberRef) (c : ClassId) (m : MemberAt) → new_ref a b i r c m ≡ Some s
      → (i.kept c ≡ true) × (i.kept_member m ≡ true) × (o : NameAndType) × (i.renamed (r.name, r.ty) ≡ Some o)
      × (s ≡ renamed_ref a b i r c o)
  new_ref_is r s c m = by (i.kept c) (i.kept_member m)
    where
      by : (x y : Bool) → cond (x && y) (option_map (renamed_ref a b i r c) (i.renamed (r.name, r.ty))) None ≡ Some s
          → (x ≡ true) × (y ≡ true) × (o : NameAndType) × (i.renamed (r.name, r.ty) ≡ Some o)
          × (s ≡ renamed_ref a b i r c o)
      by true true e =
          let o = mapped_some (renamed_ref a b i r c) (i.renamed (r.name, r.ty)) s e in (refl, refl, o.0, o.1, o.2)
      by true false e = absurd cc
      by false y e = absurd cc

  ref_of : (found : ClassId → Option MemberAt) (r s : MemberRef) → found_ref a b i found r ≡ Some s → Ref found r s
  ref_of found r s e =
      let c = both_there (λ c. option_and_then (new_ref a b i r c) (found c)) (class_of a r) s e in
      let m = both_there (new_ref a b i r c.0) (found c.0) s c.2 in
      let k = new_ref_is r s c.0 m.0 m.2 in
      record {
        class = c.0;
        class_is = c.1;
        class_kept = k.0;
        member = m.0;
        member_is = m.1;
        member_kept = k.1;
        named = k.2;
        named_is = k.3;
        new = k.4;
      }

  -- the new reference names the class at its place in the image
  class_there : (found : ClassId → Option MemberAt) (r s : MemberRef) (f : Ref found r s) → class_of b s
      ≡ Some (i.moved f.class)
  class_there found r s f = ap (class_of b) f.new ∙ told.named_moved f.class f.class_kept

  new_name_is : (found : ClassId → Option MemberAt) (r s : MemberRef) (f : Ref found r s)
      → ◌≡◌ {A = NameAndType} (s.name, s.ty) f.named
  new_name_is found r s f = λ j. ((f.new j).name, (f.new j).ty)

  some_kept : (o : Option MemberAt) (m : MemberAt) → o ≡ Some m → i.kept_member m ≡ true
      → IfSome o (λ x. i.kept_member x ≡ true)
  some_kept o m e k = subst (λ z. IfSome z (λ x. i.kept_member x ≡ true)) (sym e) k

  some_stands : (n : NameAndType) (o : Option MemberAt) (m : MemberAt) → o ≡ Some m → IfSome o (Stands a n)
      → Stands a n m
  some_stands n o m e h = subst (λ z. IfSome z (Stands a n)) e h

  abbrev fields_of : MemberRef → ClassId → Option MemberAt
  fields_of r c = field_found a c (r.name, r.ty)

  field_same : (r s : MemberRef) → found_ref a b i (fields_of r) r ≡ Some s
      → OptionCorr Keys (option_map (key_at a) (field_of a r)) (option_map (key_at b) (field_of b s))
  field_same r s e =
      let f = ref_of (fields_of r) r s e in
      let stands = some_stands (r.name, r.ty) _ f.member f.member_is (field_stands a (r.name, r.ty) f.class) in
      let here : option_map (key_at a) (field_of a r) ≡ Some (key_at a f.member) =
      ap (λ o. option_map (key_at a) (option_and_then (fields_of r) o)) f.class_is
      ∙ ap (option_map (key_at a)) f.member_is in
      let there : option_map (key_at b) (field_of b s) ≡ Some (key_at b (i.moved_member f.member)) =
      ap (λ o. option_map (key_at b) (option_and_then (λ c. field_found b c (s.name, s.ty)) o))
      (class_there (fields_of r) r s f)
      ∙ ap (λ n. option_map (key_at b) (field_found b (i.moved f.class) n)) (new_name_is (fields_of r) r s f)
      ∙ ap (option_map (key_at b)) (fields a b i (r.name, r.ty) f.named f.named_is f.class f.class_kept
      (some_kept _ f.member f.member_is f.member_kept))
      ∙ ap (λ o. option_map (key_at b) (option_map i.moved_member o)) f.member_is in
      subst (λ o. OptionCorr Keys o (option_map (key_at b) (field_of b s))) (sym here)
      (key_at b (i.moved_member f.member), there, new_key_of a b i told (r.name, r.ty) f.member stands f.member_kept)

  -- ---- what calls run

  program_target : (x : ClassId) (k : Key) → is_of_library x ≡ false → target_in x k ≡ Some (Program k)
  program_target (Prog n) k e = refl
  program_target (Lib id) k e = absurd cc

  library_target : (x : ClassId) (k : Key) → is_of_library x ≡ true → target_in x k ≡ option_map Library (row_of k)
  library_target (Prog n) k e = absurd cc
  library_target (Lib id) k e = refl

  row_same : (o : Option Row) → OptionCorr (TargetMap (names a b i)) (option_map Library o) (option_map Library o)
  row_same None = refl
  row_same (Some row) = (Library row, refl, refl)

  target_in_same : (n : NameAndType) (m : MemberAt) → Stands a n m → i.kept_member m ≡ true
      → OptionCorr (TargetMap (names a b i)) (target_in m.class (key_at a m))
      (target_in (i.moved_member m).class (key_at b (i.moved_member m)))
  target_in_same n m s k = by (is_of_library m.class) refl
    where
      moved : is_of_library (i.moved_member m).class ≡ is_of_library m.class
      moved = ap is_of_library (i.class_moved m) ∙ told.library_moved m.class (i.class_kept m k)

      by : (t : Bool) → is_of_library m.class ≡ t
          → OptionCorr (TargetMap (names a b i)) (target_in m.class (key_at a m))
          (target_in (i.moved_member m).class (key_at b (i.moved_member m)))
      by true e =
          subst (λ o. OptionCorr (TargetMap (names a b i)) o
          (target_in (i.moved_member m).class (key_at b (i.moved_member m))))
          (sym (library_target m.class (key_at a m) e))
          (subst (λ o. OptionCorr (TargetMap (names a b i)) (option_map Library (row_of (key_at a m))) o)
          (sym (library_target (i.moved_member m).class (key_at b (i.moved_member m)) (moved ∙ e)
          ∙ ap (λ t. option_map Library (row_of t)) (told.library_member m k e)))
          (row_same (row_of (key_at a m))))
      by false e =
          subst (λ o. OptionCorr (TargetMap (names a b i)) o
          (target_in (i.moved_member m).class (key_at b (i.moved_member m))))
          (sym (program_target m.class (key_at a m) e))
          (subst (λ o. OptionCorr (TargetMap (names a b i)) (Some (Program (key_at a m))) o)
          (sym (program_target (i.moved_member m).class (key_at b (i.moved_member m)) (moved ∙ e))) (
            Program (key_at b (i.moved_member m)),
            refl,
            (key_at b (i.moved_member m), refl, new_key_of a b i told n m s k),
          ))

  target_same : (n : NameAndType) (m : MemberAt) → Stands a n m → i.kept_member m ≡ true
      → OptionCorr (TargetMap (names a b i)) (target_at a m) (target_at b (i.moved_member m))
  target_same n m s k =
      subst
      (λ t. OptionCorr (TargetMap (names a b i)) (target_at a m)
      (cond t (Some (Fails AbstractMethod)) (target_in (i.moved_member m).class (key_at b (i.moved_member m)))))
      (sym (i.flag_moved acc_abstract m k)) (by (is_abstract_member a m))
    where
      by : (t : Bool)
          → OptionCorr (TargetMap (names a b i)) (cond t (Some (Fails AbstractMethod)) (target_in m.class (key_at a m)))
          (cond t (Some (Fails AbstractMethod)) (target_in (i.moved_member m).class (key_at b (i.moved_member m))))
      by true = (Fails AbstractMethod, refl, refl)
      by false = target_in_same n m s k

  some_target_same : (n : NameAndType) (o : Option MemberAt) → IfSome o (λ m. i.kept_member m ≡ true)
      → IfSome o (Stands a n)
      → OptionCorr (TargetMap (names a b i)) (target_of a o) (target_of b (option_map i.moved_member o))
  some_target_same n None k s = (Fails AbstractMethod, refl, refl)
  some_target_same n (Some m) k s = target_same n m s k

  -- ---- references to methods

  abbrev methods_of : MemberRef → ClassId → Option MemberAt
  methods_of r c = method_of a r c

  method_stands_at : (r s : MemberRef) (f : Ref (methods_of r) r s) → Stands a (r.name, r.ty) f.member
  method_stands_at r s f =
      some_stands (r.name, r.ty) _ f.member f.member_is (method_stands a p.abstract_methods (r.name, r.ty) f.class)

  method_there : (r s : MemberRef) (f : Ref (methods_of r) r s)
      → method_of b s (i.moved f.class) ≡ Some (i.moved_member f.member)
  method_there r s f =
      ap (method_found b (i.moved f.class)) (new_name_is (methods_of r) r s f)
      ∙ methods a b i p.abstract_methods (r.name, r.ty) f.named f.named_is f.class f.class_kept
      (some_kept _ f.member f.member_is f.member_kept)
      ∙ ap (option_map i.moved_member) f.member_is

  -- what is said of the class and the method of a reference
  said_here : {A : Type 0} (g : ClassId → MemberAt → Option A) (r s : MemberRef) (f : Ref (methods_of r) r s)
      → of_method a g r ≡ g f.class f.member
  said_here g r s f =
      ap (option_and_then (λ c. option_and_then (g c) (method_of a r c))) f.class_is
      ∙ ap (option_and_then (g f.class)) f.member_is

  said_there : {A : Type 0} (g : ClassId → MemberAt → Option A) (r s : MemberRef) (f : Ref (methods_of r) r s)
      → of_method b g s ≡ g (i.moved f.class) (i.moved_member f.member)
  said_there g r s f =
      ap (option_and_then (λ c. option_and_then (g c) (method_of b s c))) (class_there (methods_of r) r s f)
      ∙ ap (option_and_then (g (i.moved f.class))) (method_there r s f)

  static_same : (r s : MemberRef) → found_ref a b i (methods_of r) r ≡ Some s
      → OptionCorr (TargetMap (names a b i)) (static_of a r) (static_of b s)
  static_same r s e =
      let f = ref_of (methods_of r) r s e in
      subst (λ o. OptionCorr (TargetMap (names a b i)) o (static_of b s)) (sym (said_here (λ c m. target_at a m) r s f))
      (subst (λ o. OptionCorr (TargetMap (names a b i)) (target_at a f.member) o)
      (sym (said_there (λ c m. target_at b m) r s f))
      (target_same (r.name, r.ty) f.member (method_stands_at r s f) f.member_kept))

  -- ---- invokespecial

  special_ref_is : (x : ClassId) (r s : MemberRef)
      → option_and_then (λ c. option_and_then (new_special a b i r x c) (method_of a r c)) (class_of a r) ≡ Some s
      → (f : Ref (methods_of r) r s) × (option_map_or i.kept_member (selected_special a x f.class f.member) true ≡ true)
  special_ref_is x r s e =
      let c = both_there (λ c. option_and_then (new_special a b i r x c) (method_of a r c)) (class_of a r) s e in
      let m = both_there (new_special a b i r x c.0) (method_of a r c.0) s c.2 in
      let t = some_when (option_map_or i.kept_member (selected_special a x c.0 m.0) true)
      (new_ref a b i r c.0 m.0) s m.2 in
      let k = new_ref_is r s c.0 m.0 t.1 in (
        record {
          class = c.0;
          class_is = c.1;
          class_kept = k.0;
          member = m.0;
          member_is = m.1;
          member_kept = k.1;
          named = k.2;
          named_is = k.3;
          new = k.4;
        },
        t.0,
      )
    where
      some_when : (t : Bool) (o : Option MemberRef) (s : MemberRef) → cond t o None ≡ Some s → (t ≡ true) × (o ≡ Some s)
      some_when true o s e = (refl, e)
      some_when false o s e = absurd cc

  special_same : (c d : List ℕ) (r s : MemberRef) → Classes c d → (mapping a b i).special_ref c r ≡ Some s
      → OptionCorr (TargetMap (names a b i)) (of_class a (special_of a r) None c) (of_class b (special_of b s) None d)
  special_same c d r s e g =
      let x = class_of_name a b i told c d e in
      let q = both_there (λ x. option_and_then (λ c. option_and_then (new_special a b i r x c) (method_of a r c))
      (class_of a r)) (class_named a c) s g in
      let same : Some q.0 ≡ Some x.at = sym q.1 ∙ x.is in
      let at : q.0 ≡ x.at = cc in
      let t = special_ref_is x.at r s
      (subst (λ z. option_and_then (λ c. option_and_then (new_special a b i r z c) (method_of a r c)) (class_of a r)
      ≡ Some s) at q.2) in
      let f = t.0 in
      let runs = kept_some i.kept_member (selected_special a x.at f.class f.member) t.1 in
      let named = declared_named a (r.name, r.ty) (f.member).class f.member (method_stands_at r s f) in
      let stands = subst (λ n. Stands a n f.member) (sym named) (method_stands_at r s f) in
      let here : of_class a (special_of a r) None c ≡ target_of a (selected_special a x.at f.class f.member) =
      ap (λ o. option_map_or (special_of a r) o None) x.is
      ∙ said_here (λ c m. target_of a (selected_special a x.at c m)) r s f in
      let there : of_class b (special_of b s) None d
      ≡ target_of b (option_map i.moved_member (selected_special a x.at f.class f.member)) =
      ap (λ o. option_map_or (special_of b s) o None) (class_there_too a b i told c d x)
      ∙ said_there (λ c m. target_of b (selected_special b (i.moved x.at) c m)) r s f
      ∙ ap (target_of b) (special_calls a b i x.at f.class f.member x.kept f.class_kept f.member_kept runs) in
      subst (λ o. OptionCorr (TargetMap (names a b i)) o (of_class b (special_of b s) None d)) (sym here)
      (subst (λ o. OptionCorr (TargetMap (names a b i)) (target_of a (selected_special a x.at f.class f.member)) o)
      (sym there)
      (some_target_same (named_at a f.member) (selected_special a x.at f.class f.member) runs
      (special_stands a x.at f.class f.member stands)))

  -- ---- invokevirtual and invokeinterface

  public_same : (o : Option MemberAt) → IfSome o (λ m. i.kept_member m ≡ true)
      → option_map_or (is_public_member b) (option_map i.moved_member o) true
      ≡ option_map_or (is_public_member a) o true
  public_same None k = refl
  public_same (Some m) k = i.flag_moved acc_public m k

  checked_same : (n : NameAndType) (of_interface : Bool) (o : Option MemberAt) → IfSome o (λ m. i.kept_member m ≡ true)
      → IfSome o (Stands a n)
      → OptionCorr (TargetMap (names a b i)) (checked a of_interface o)
      (checked b of_interface (option_map i.moved_member o))
  checked_same n false o k s = some_target_same n o k s
  checked_same n true o k s =
      subst
      (λ t. OptionCorr (TargetMap (names a b i)) (checked a true o)
      (cond t (target_of b (option_map i.moved_member o)) (Some (Fails IllegalAccess))))
      (sym (public_same o k)) (by (option_map_or (is_public_member a) o true))
    where
      by : (t : Bool)
          → OptionCorr (TargetMap (names a b i)) (cond t (target_of a o) (Some (Fails IllegalAccess)))
          (cond t (target_of b (option_map i.moved_member o)) (Some (Fails IllegalAccess)))
      by true = some_target_same n o k s
      by false = (Fails IllegalAccess, refl, refl)

  is_selected_same : (m : MemberAt) → i.kept_member m ≡ true → is_selected b (i.moved_member m) ≡ is_selected a m
  is_selected_same m k = λ j.
      not (((ap (is_interface_in b) (i.class_moved m) ∙ i.interface_moved m.class (i.class_kept m k)) j))
      || (i.instance_moved m k j && not (i.flag_moved acc_private m k j))

  -- a selected method of an interface is an instance method that isn't private
  open_method : (m : MemberAt) → is_selected a m ≡ true → is_interface_in a m.class ≡ true
      → (is_instance_method a m ≡ true) × (is_private_member a m ≡ false)
  open_method m e t =
      let h : (is_instance_method a m && not (is_private_member a m)) ≡ true =
      sym (ap (λ (u : Bool). not u || (is_instance_method a m && not (is_private_member a m))) t) ∙ e in
      let parts = and_parts (is_instance_method a m) (not (is_private_member a m)) h in
      (parts.0, not-true (is_private_member a m) parts.1)

  otherwise : (t : Bool) → OptionCorr (TargetMap (names a b i)) (cond t (Some (Fails IncompatibleChange)) None)
      (cond t (Some (Fails IncompatibleChange)) None)
  otherwise true = (Fails IncompatibleChange, refl, refl)
  otherwise false = refl

  module _ (x : ClassId) (there : IsClass a x) (k : i.kept x ≡ true) (r s : MemberRef)
      (f : Ref (methods_of r) r s) where
    abbrev Same : Option Target → Option Target → Type 0
    Same = OptionCorr (TargetMap (names a b i))

    -- what runs where the method is selected
    runs : is_interface_in a x ≡ false → is_below a x (f.member).class ≡ true → (t : Bool) → is_selected a f.member ≡ t
        → Same (cond t (checked a r.of_interface (selected a x f.member)) (Some (Fails AbstractMethod)))
        (cond t (checked b r.of_interface (selected b (i.moved x) (i.moved_member f.member)))
        (Some (Fails AbstractMethod)))
    runs class below false e = (Fails AbstractMethod, refl, refl)
    runs class below true e =
        let both = selection a b i p rule x f.member there k class f.member_kept below (open_method f.member e) in
        subst (λ o. Same (checked a r.of_interface (selected a x f.member)) (checked b r.of_interface o)) (sym both.0)
        (checked_same (named_at a f.member) r.of_interface (selected a x f.member) both.1
        (selected_stands a x f.member))

    -- by the tests on the receiver's class
    tested : is_interface_in a x ≡ false → (u t : Bool) → is_below a x (f.member).class ≡ t
        → Same
        (cond (u && t) (cond (is_selected a f.member) (checked a r.of_interface (selected a x f.member))
        (Some (Fails AbstractMethod))) (cond r.of_interface (Some (Fails IncompatibleChange)) None))
        (cond (u && t) (cond (is_selected a f.member)
        (checked b r.of_interface (selected b (i.moved x) (i.moved_member f.member)))
        (Some (Fails AbstractMethod))) (cond r.of_interface (Some (Fails IncompatibleChange)) None))
    tested class false t e = otherwise r.of_interface
    tested class true false e = otherwise r.of_interface
    tested class true true e = runs class e (is_selected a f.member) refl

    of_interface_same : s.of_interface ≡ r.of_interface
    of_interface_same = ap (λ (z : MemberRef). z.of_interface) f.new

    from_same : is_interface_in a x ≡ false
        → Same (selected_from a r x f.class f.member)
        (selected_from b s (i.moved x) (i.moved f.class) (i.moved_member f.member))
    from_same class =
        let moved : selected_from b s (i.moved x) (i.moved f.class) (i.moved_member f.member)
        ≡ cond (is_below a x f.class && is_below a x (f.member).class)
        (cond (is_selected a f.member) (checked b r.of_interface
        (selected b (i.moved x) (i.moved_member f.member))) (Some (Fails AbstractMethod)))
        (cond r.of_interface (Some (Fails IncompatibleChange)) None) =
        λ j. cond
        (order a b i x f.class k f.class_kept j
        && (ap (is_below b (i.moved x)) (i.class_moved f.member)
        ∙ order a b i x (f.member).class k (i.class_kept f.member f.member_kept)) j)
        (cond (is_selected_same f.member f.member_kept j)
        (checked b (of_interface_same j) (selected b (i.moved x) (i.moved_member f.member)))
        (Some (Fails AbstractMethod)))
        (cond (of_interface_same j) (Some (Fails IncompatibleChange)) None) in
        subst (λ o. Same (selected_from a r x f.class f.member) o) (sym moved)
        (tested class (is_below a x f.class) (is_below a x (f.member).class) refl)

    selected_at : (t : Bool) → is_interface_in a x ≡ t
        → Same (cond t None (of_method a (selected_from a r x) r))
        (cond t None (of_method b (selected_from b s (i.moved x)) s))
    selected_at true e = refl
    selected_at false e =
        subst (λ o. Same o (of_method b (selected_from b s (i.moved x)) s))
        (sym (said_here (selected_from a r x) r s f))
        (subst (λ o. Same (selected_from a r x f.class f.member) o)
        (sym (said_there (selected_from b s (i.moved x)) r s f))
        (from_same e))

    selected_of_same : Same (selected_of a r x) (selected_of b s (i.moved x))
    selected_of_same =
        subst (λ t. Same (selected_of a r x) (cond t None (of_method b (selected_from b s (i.moved x)) s)))
        (sym (i.interface_moved x k)) (selected_at (is_interface_in a x) refl)

  class_valid : (c : List ℕ) (x : ClassId) → class_named a c ≡ Some x → IsClass a x
  class_valid c x e = subst (λ o. IfSome o (IsClass a)) e (named_there a c)

  selected_same : (c d : List ℕ) (r s : MemberRef) → Classes c d → found_ref a b i (methods_of r) r ≡ Some s
      → OptionCorr (TargetMap (names a b i)) (of_class a (selected_of a r) None c) (of_class b (selected_of b s) None d)
  selected_same c d r s e g =
      let x = class_of_name a b i told c d e in
      let f = ref_of (methods_of r) r s g in
      subst (λ o. OptionCorr (TargetMap (names a b i)) o (of_class b (selected_of b s) None d))
      (sym (ap (λ o. option_map_or (selected_of a r) o None) x.is))
      (subst (λ o. OptionCorr (TargetMap (names a b i)) (selected_of a r x.at) o)
      (sym (ap (λ o. option_map_or (selected_of b s) o None) (class_there_too a b i told c d x)))
      (selected_of_same x.at (class_valid c x.at x.is) x.kept r s f))

  -- ---- arrays

  some_valid : (t : Bool) (o : Option ClassId) → IfSome o (IsClass a) → (x : ClassId) → cond t o None ≡ Some x
      → IsClass a x
  some_valid true o h x e = subst (λ z. IfSome z (IsClass a)) e h
  some_valid false o h x e = absurd cc

  ref_class_valid : (r : MemberRef) (x : ClassId) → class_of a r ≡ Some x → IsClass a x
  ref_class_valid r x e = by (r.class).base e
    where
      by : (c : Base)
          → class_of a (record {
            class = record { dims = (r.class).dims; base = c };
            name = r.name;
            ty = r.ty;
            of_interface = r.of_interface;
          })
          ≡ Some x
          → IsClass a x
      by (base.Class name) e = some_valid ((r.class).dims == 0) (class_named a name) (named_there a name) x e
      by base.Boolean e = some_valid ((r.class).dims == 0) None tt x e
      by base.Byte e = some_valid ((r.class).dims == 0) None tt x e
      by base.Char e = some_valid ((r.class).dims == 0) None tt x e
      by base.Short e = some_valid ((r.class).dims == 0) None tt x e
      by base.Int e = some_valid ((r.class).dims == 0) None tt x e
      by base.Long e = some_valid ((r.class).dims == 0) None tt x e
      by base.Float e = some_valid ((r.class).dims == 0) None tt x e
      by base.Double e = some_valid ((r.class).dims == 0) None tt x e

  -- the class is one that arrays are of
  is_of_arrays : (x : ClassId) → IsClass a x → i.kept x ≡ true
      → is_above_arrays (base.Class (name_of b (i.moved x))) ≡ is_above_arrays (base.Class (name_of a x))
  is_of_arrays x there k = λ j. own object refl j || (own (codes "java/lang/Cloneable") refl j
      || (own serializable refl j || false))
    where
      own : (c : List ℕ) → is_own_class c ≡ true → is_text (name_of b (i.moved x)) c ≡ is_text (name_of a x) c
      own c h = texts_agree (names a b i).class (one_class a b i told) (name_of a x) (name_of b (i.moved x)) c c
          (new_name a b i told x there k) (told.own_class c h)

  array_same : (r s : MemberRef) → found_ref a b i (methods_of r) r ≡ Some s
      → OptionCorr (TargetMap (names a b i)) (array_target_of a r) (array_target_of b s)
  array_same r s e =
      let f = ref_of (methods_of r) r s e in
      let kind : s.of_interface ≡ r.of_interface = ap (λ (z : MemberRef). z.of_interface) f.new in
      let moved : array_from b s (i.moved f.class) (i.moved_member f.member)
      ≡ cond (is_above_arrays (base.Class (name_of a f.class))) (target_at b (i.moved_member f.member))
      (cond r.of_interface (Some (Fails IncompatibleChange)) None) =
      λ j. cond (is_of_arrays f.class (ref_class_valid r f.class f.class_is) f.class_kept j)
      (target_at b (i.moved_member f.member)) (cond (kind j) (Some (Fails IncompatibleChange)) None) in
      subst (λ o. OptionCorr (TargetMap (names a b i)) o (array_target_of b s))
      (sym (said_here (array_from a r) r s f))
      (subst (λ o. OptionCorr (TargetMap (names a b i)) (array_from a r f.class f.member) o)
      (sym (said_there (array_from b s) r s f ∙ moved))
      (by r s f (is_above_arrays (base.Class (name_of a f.class)))))
    where
      by : (r s : MemberRef) (f : Ref (methods_of r) r s) (t : Bool)
          → OptionCorr (TargetMap (names a b i))
          (cond t (target_at a f.member) (cond r.of_interface (Some (Fails IncompatibleChange)) None))
          (cond t (target_at b (i.moved_member f.member)) (cond r.of_interface (Some (Fails IncompatibleChange)) None))
      by r s f true = target_same (r.name, r.ty) f.member (method_stands_at r s f) f.member_kept
      by r s f false = otherwise r.of_interface

  -- ---- classes

  sub_same : (c d e f : List ℕ) → Classes c e → Classes d f
      → of_class b (λ x. of_class b (is_below b x) false f) false e
      ≡ of_class a (λ x. of_class a (is_below a x) false d) false c
  sub_same c d e f g h =
      let x = class_of_name a b i told c e g in
      let y = class_of_name a b i told d f h in
      ap (λ o. option_map_or (λ z. of_class b (is_below b z) false f) o false) (class_there_too a b i told c e x)
      ∙ ap (λ o. option_map_or (is_below b (i.moved x.at)) o false) (class_there_too a b i told d f y)
      ∙ order a b i x.at y.at x.kept y.kept
      ∙ sym (ap (λ o. option_map_or (λ z. of_class a (is_below a z) false d) o false) x.is
      ∙ ap (λ o. option_map_or (is_below a x.at) o false) y.is)

  library_same : (c d : List ℕ) → Classes c d → of_class b is_of_library false d ≡ of_class a is_of_library false c
  library_same c d e =
      let x = class_of_name a b i told c d e in
      ap (λ o. option_map_or is_of_library o false) (class_there_too a b i told c d x)
      ∙ told.library_moved x.at x.kept
      ∙ sym (ap (λ o. option_map_or is_of_library o false) x.is)

  supers_same : (o : Option ClassId) → IfSome o (λ y. i.kept y ≡ true) → IfSome o (IsClass a)
      → AllZip Classes (map (name_of a) (option_to_list o)) (map (name_of b) (option_to_list (option_map i.moved o)))
  supers_same None k there = tt
  supers_same (Some y) k there = (new_name a b i told y there k, tt)

  firsts_by : (x : ClassId) → i.kept x ≡ true → (t : Bool)
      → AllZip Classes (cond t [] (map (name_of a) (option_to_list (superclass a x))))
      (cond t [] (map (name_of b) (option_to_list (superclass b (i.moved x)))))
  firsts_by x k true = tt
  firsts_by x k false =
      subst (λ o. AllZip Classes (map (name_of a) (option_to_list (superclass a x)))
      (map (name_of b) (option_to_list o)))
      (sym (i.super_moved x k)) (supers_same (superclass a x) (i.super_kept x k) (superclass_there a x))

  firsts_at : (x : ClassId) → i.kept x ≡ true → AllZip Classes (firsts_of a x) (firsts_of b (i.moved x))
  firsts_at x k =
      subst (λ t. AllZip Classes (firsts_of a x)
      (cond t [] (map (name_of b) (option_to_list (superclass b (i.moved x))))))
      (sym (i.interface_moved x k)) (firsts_by x k (is_interface_in a x))

  firsts_same : (c d : List ℕ) → Classes c d
      → AllZip Classes (of_class a (firsts_of a) [] c) (of_class b (firsts_of b) [] d)
  firsts_same c d e =
      let x = class_of_name a b i told c d e in
      subst (λ o. AllZip Classes o (of_class b (firsts_of b) [] d))
      (sym (ap (λ o. option_map_or (firsts_of a) o []) x.is))
      (subst (λ o. AllZip Classes (firsts_of a x.at) o)
      (sym (ap (λ o. option_map_or (firsts_of b) o []) (class_there_too a b i told c d x))) (firsts_at x.at x.kept))

  clinit_by : (o : Option MemberAt) → IfSome o (λ m. i.kept_member m ≡ true) → IfSome o (Stands a clinit)
      → OptionCorr Keys (option_map (key_at a) o)
      (option_map (key_at b) (option_and_then (if_kept i.kept_member i.moved_member) o))
  clinit_by None k s = refl
  clinit_by (Some m) k s = (
    key_at b (i.moved_member m),
    ap (λ t. option_map (key_at b) (cond t (Some (i.moved_member m)) None)) k,
    new_key_of a b i told clinit m s k,
  )

  clinit_same : (c d : List ℕ) → Classes c d
      → OptionCorr Keys (option_map (key_at a) (of_class a (declared_in a clinit) None c))
      (option_map (key_at b) (of_class b (declared_in b clinit) None d))
  clinit_same c d e =
      let x = class_of_name a b i told c d e in
      subst (λ o. OptionCorr Keys o (option_map (key_at b) (of_class b (declared_in b clinit) None d)))
      (sym (ap (λ o. option_map (key_at a) (option_map_or (declared_in a clinit) o None)) x.is))
      (subst (λ o. OptionCorr Keys (option_map (key_at a) (declared_in a clinit x.at)) o)
      (sym (ap (λ o. option_map (key_at b) (option_map_or (declared_in b clinit) o None))
      (class_there_too a b i told c d x)
      ∙ ap (option_map (key_at b)) (i.declared_moved clinit clinit told.clinit_renamed x.at x.kept)))
      (clinit_by (declared_in a clinit x.at) (told.clinit_kept x.at x.kept) (declared_stands a clinit x.at)))

  -- ---- the whole

  kind_same : (found : ClassId → Option MemberAt) (r s : MemberRef) → found_ref a b i found r ≡ Some s
      → LikeDescriptors r.ty s.ty
  kind_same found r s e =
      let f = ref_of found r s e in
      subst (λ (t : MemberRef). LikeDescriptors r.ty t.ty) (sym f.new)
      (told.descriptors (r.name, r.ty) f.named f.named_is)

  special_kind_same : (c : List ℕ) (r s : MemberRef) → (mapping a b i).special_ref c r ≡ Some s
      → LikeDescriptors r.ty s.ty
  special_kind_same c r s e =
      let q = both_there (λ x. option_and_then (λ c. option_and_then (new_special a b i r x c) (method_of a r c))
      (class_of a r)) (class_named a c) s e in
      let f = (special_ref_is q.0 r s q.2).0 in
      subst (λ (t : MemberRef). LikeDescriptors r.ty t.ty) (sym f.new)
      (told.descriptors (r.name, r.ty) f.named f.named_is)

  shape_same : ShapeMap (mapping a b i) (shape_of a) (shape_of b)
  shape_same = record {
    one_class = one_class a b i told;
    one_field = one_key a b i told;
    own_class = told.own_class;
    own_field = told.own_field;
    field_class = key_class a b i told;
    method_class = key_class a b i told;
    field_default = default_same;
    field_stored = stored_same;
    field_kind = λ r s e. (kind_same (fields_of r) r s e).field;
    method_kinds = λ r s e. (kind_same (methods_of r) r s e).arguments;
    special_kinds = λ c r s e. (special_kind_same c r s e).arguments;
    field = field_same;
    static_target = static_same;
    special_target = special_same;
    selected_target = selected_same;
    array_target = array_same;
    is_sub = sub_same;
    is_library = library_same;
    firsts = firsts_same;
    clinit = clinit_same;
    constant = constant_same;
  }

  pub view_same : Mapped (mapping a b i) (view_of a) (view_of b)
  view_same = record { shape = shape_same; code = code_same }

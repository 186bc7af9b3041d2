-- What a set and what is left of it owe each other, so that they do the same.
use Rattle.std.proofs.Common.{◌≡◌, ◌+◌, ◌++◌, ℕ, nat_eq, ◌&&◌, ◌||◌, Bool, true, false, cond, List, []}
use Rattle.std.proofs.Common.{◌∷◌, length}
use Rattle.std.proofs.Common.{Option, Some, None, slice_get, refl, sym, ap, subst, ◌∙◌, codes}
use Rattle.std.specs.Prelude.{IfSome}
use Rattle.std.specs.List.{AllByRecursion, list_all, list_any, starts_with}
use Rattle.std.specs.Option.{is_some, option_and_then, option_map, option_map_or}
use Rattle.std.proofs.lemmas.Bool.{and_parts}
use Rattle.jv_base.specs.Names.{is_text}
use Rattle.jv_base.proofs.Equality.{text_Decides}
use Rattle.jv_base.proofs.Lists.{all_at, nil_parts}
use Rattle.lib_table.specs.Library.{library, object, serializable}
use Rattle.lib_table.specs.Lookups as table
use Rattle.mark_core.specs.Marks.{Closed}
use Rattle.class_model.specs.WellFormed.{IsGoodCode, IsGoodMethod, IsGoodOp}
use Rattle.class_model.specs.Flags.{is_interface}
use Rattle.class_model.specs.declared.class.Class.{Class}
use Rattle.class_model.specs.declared.class.Method.{Method}
use Rattle.class_model.specs.declared.code.Code.{Code}
use Rattle.class_model.specs.declared.code.Ins.{Ins}
use Rattle.class_pool.specs.Found.{MemberRow, NameAndType, declared_in, name_of, named_at}
use Rattle.class_pool.specs.Hierarchy.{IsClass, class_named}
use Rattle.class_pool.specs.Items.{class_item}
use Rattle.class_pool.specs.declared.id.ClassId.{ClassId}
use Rattle.class_pool.specs.declared.id.ClassId.TheVariants.{Prog, Lib}
use Rattle.class_pool.specs.declared.id.MemberAt.{MemberAt}
use Rattle.class_pool.proofs.Declaring.{named_there}
use Rattle.link_check.specs.Profile.{body_kinds, code_kinds, declaration_kinds, is_of_library, overriding_kinds}
use Rattle.link_check.proofs.Taken.{links_taken}
use Rattle.member_shrink.specs.Shrunk.{is_marked, shrunk}
use Rattle.image_laws.specs.SetImage.Image.{Image, if_kept}
use Rattle.jvm_model.specs.Exceptions.{AbstractMethod, Arithmetic, ArrayIndex, ArrayStore, ClassCast, IllegalAccess}
use Rattle.jvm_model.specs.Exceptions.{InInitializer, IncompatibleChange, NegativeSize, NoClassDef, NullPointer}
use Rattle.jvm_model.specs.Exceptions.{TextIndex, exception_class}
use Rattle.jvm_model.specs.Heap.{string, string_builder}
use Rattle.jvm_model.specs.Mapped.{CodeMap, OptionCorr, is_own_class}
use Rattle.jvm_model.specs.Step as step
use Rattle.set_view.specs.ViewOf.{code_at, key_at, member_of, told_in}
use Rattle.image_laws.specs.ViewImage.ImageNames.{names, new_key}
use Rattle.image_laws.specs.ViewImage.ImageView.{IsImageView, LikeDescriptors}
use Rattle.image_laws.proofs.ViewImage.Naming.{member_is}
use Rattle.require_sys.specs.Requires.{code_wants, requires}
use Rattle.require_sys.specs.declared.kept.KeptByRules.{KeptByRules}
use Rattle.image_laws.specs.ShrunkImage.Keeping.{class_place, is_class_kept, is_index_marked, is_member_kept}
use Rattle.image_laws.specs.ShrunkImage.Keeping.{member_place}
use Rattle.image_laws.proofs.ShrunkImage.Classes.{class_of_kept, class_there, declared_same, kept_from, member_marked}
use Rattle.image_laws.proofs.ShrunkImage.Classes.{member_there}
use Rattle.image_laws.proofs.ShrunkImage.Classes.{name_same, named_moved, row_same}
use Rattle.image_laws.specs.TakenSet.TakenSet.{IsTaken}
use Rattle.image_laws.proofs.TakenSet.Members.{own_declared}
use Rattle.image_laws.proofs.TakenSet.Names.{class_found, differ, library_named}
use Rattle.removal_laws.proofs.RemovalImage.Marked.{image, starts_kept}
use Rattle.removal_laws.proofs.RemovalImage.Wanted.{AllIn, wants_of_code, wants_of_method}
use Rattle.removal_laws.proofs.RemovalSame.Codes.{class_same, code_same, new_refs}
use Rattle.removal_laws.proofs.RemovalSame.Told.{code_found, told_same}

-- ---- the classes and the field of which the machine speaks are the library's

abbrev pub is_library_name : List ℕ → Bool
is_library_name name = starts_with nat_eq name (codes "java/") && is_some (table.class_named name)

found_among : (good : List ℕ → Bool) (name : List ℕ) (names : List (List ℕ)) → list_any (is_text name) names ≡ true
    → list_all good names ≡ true → good name ≡ true
found_among good name [] any all = absurd cc
found_among good name (x ∷ xs) any all =
    let parts = and_parts (good x) (list_all good xs) all in
    by (is_text name x) refl any (λ h. found_among good name xs h parts.1) parts.0
  where
    by : (t : Bool) → is_text name x ≡ t → (t || list_any (is_text name) xs) ≡ true
        → (list_any (is_text name) xs ≡ true → good name ≡ true) → good x ≡ true → good name ≡ true
    by true e h r g = ap good ((text_Decides name x).0 e) ∙ g
    by false e h r g = r h

-- the classes of which the machine speaks
abbrev own_classes : List (List ℕ)
own_classes = object ∷ serializable ∷ codes "java/lang/Cloneable" ∷ string ∷ string_builder
    ∷ codes "java/io/PrintStream" ∷ codes "java/lang/Error" ∷ exception_class Arithmetic
    ∷ exception_class NullPointer ∷ exception_class ArrayIndex ∷ exception_class NegativeSize
    ∷ exception_class ArrayStore ∷ exception_class ClassCast ∷ exception_class TextIndex
    ∷ exception_class NoClassDef ∷ exception_class InInitializer ∷ exception_class IncompatibleChange
    ∷ exception_class IllegalAccess ∷ exception_class AbstractMethod ∷ []

pub own_names : (name : List ℕ) → is_own_class name ≡ true → is_library_name name ≡ true
unfolding library
own_names name own = found_among is_library_name name own_classes own refl

some_is : (o : Option ℕ) → is_some o ≡ true → (n : ℕ) × (o ≡ Some n)
some_is None h = absurd cc
some_is (Some n) h = (n, refl)

module _ (classes : List Class) (rules : KeptByRules) (marks : List Bool)
    (closed : Closed (requires classes rules) (is_marked marks)) (taken : IsTaken classes) where
  abbrev out : List Class
  out = shrunk classes marks

  abbrev i : Image classes out
  i = image classes rules marks closed taken

  -- ---- names

  some_class_kept : (name : List ℕ) (x : ClassId) → class_named classes name ≡ Some x
      → is_class_kept classes marks x ≡ true
      → IfSome (class_named classes name) (λ y. is_class_kept classes marks y ≡ true)
  some_class_kept name x e k = subst (λ o. IfSome o (λ y. is_class_kept classes marks y ≡ true)) (sym e) k

  pub found_left : (x : ClassId) → is_class_kept classes marks x ≡ true
      → class_named out (name_of out (class_place classes marks x)) ≡ Some (class_place classes marks x)
  found_left x k =
      let found = class_found classes taken x (class_there classes marks x k) in
      ap (class_named out) (name_same classes marks x k)
      ∙ named_moved classes marks (name_of classes x) (some_class_kept (name_of classes x) x found k)
      ∙ ap (option_map (class_place classes marks)) found

  -- a kept member keeps its key
  pub key_same : (m : MemberAt) → is_member_kept classes marks m ≡ true
      → key_at out (member_place classes marks m) ≡ key_at classes m
  key_same m k =
      let class = name_same classes marks m.class (class_of_kept classes marks m k) in
      let named = ap (λ o. option_map_or (λ (row : MemberRow). row.named) o ([], [])) (row_same classes marks m k) in
      λ j. record { class = class j; name = (named j).0; descriptor = (named j).1 }

  member_left : (m : MemberAt) → is_member_kept classes marks m ≡ true
      → member_of out (key_at out (member_place classes marks m)) ≡ Some (member_place classes marks m)
  member_left m k =
      let class = class_of_kept classes marks m k in
      let there = class_there classes marks m.class class in
      let found = class_found classes taken m.class there in
      ap (member_of out) (key_same m k)
      ∙ ap (option_and_then (declared_in out (named_at classes m)))
      (named_moved classes marks (name_of classes m.class)
      (some_class_kept (name_of classes m.class) m.class found class)
      ∙ ap (option_map (class_place classes marks)) found)
      ∙ declared_same classes marks (differ classes taken) (named_at classes m) (named_at classes m) refl m.class class
      ∙ ap (option_and_then (if_kept (is_member_kept classes marks) (member_place classes marks)))
      (own_declared classes taken m (there, member_there classes marks m k))
      ∙ ap (λ (t : Bool). cond t (Some (member_place classes marks m)) None) k

  -- ---- the library

  library_same : (x : ClassId) → is_of_library (class_place classes marks x) ≡ is_of_library x
  library_same (Prog n) = refl
  library_same (Lib id) = refl

  -- a class of the library is found by its name and kept
  pub library_found : (name : List ℕ) → is_library_name name ≡ true
      → (id : ℕ) × (class_named classes name ≡ Some (Lib id)) × (is_class_kept classes marks (Lib id) ≡ true)
  library_found name h =
      let parts = and_parts (starts_with nat_eq name (codes "java/")) (is_some (table.class_named name)) h in
      let id = some_is (table.class_named name) parts.1 in
      let found = library_named classes taken name parts.0 ∙ ap (option_map Lib) id.1 in (
        id.0,
        found,
        kept_from classes marks (Lib id.0)
            (subst (λ o. IfSome o (IsClass classes)) found (named_there classes name)) refl,
      )

  own_class_kept : (c : List ℕ) → is_own_class c ≡ true → (names classes out i).class c ≡ Some c
  own_class_kept c own =
      let id = library_found c (own_names c own) in
      class_same classes rules marks closed taken c (Lib id.0) id.1 id.2

  -- the field `System.out`
  abbrev pub out_field : MemberAt
  out_field = record { class = Lib 8; index = 0 }

  pub out_found : member_of classes step.out ≡ Some out_field
  unfolding library
  out_found = ap (option_and_then (declared_in classes (step.out.name, step.out.descriptor)))
      (library_named classes taken (codes "java/lang/System") refl)

  pub out_kept : is_member_kept classes marks out_field ≡ true
  unfolding library
  out_kept = refl

  own_field_kept : (names classes out i).field step.out ≡ Some step.out
  own_field_kept =
      ap (option_and_then (new_key classes out i)) out_found
      ∙ ap (λ (t : Bool). cond t (Some (key_at out (member_place classes marks out_field))) None) out_kept
      ∙ ap Some (key_same out_field out_kept ∙ (member_is classes step.out out_field out_found).key)

  like_itself : (n o : NameAndType) → Some n ≡ Some o → LikeDescriptors n.1 o.1
  like_itself n o e =
      let same : n ≡ o = cc in
      subst (λ (t : NameAndType). LikeDescriptors n.1 t.1) same
      (record { field = refl; arguments = refl; stores = λ v. refl })

  -- ---- codes

  pub code_kinds_none : (n : ℕ) (c : Class) (k : ℕ) (m : Method) (code : Code) → slice_get classes n ≡ Some c
      → slice_get c.methods k ≡ Some m → m.code ≡ Some code → code_kinds classes n m.name code ≡ []
  code_kinds_none n c k m code is at has =
      let place : MemberAt = record { class = Prog n; index = length c.fields + k } in
      let head = declaration_kinds classes n c (length c.fields + k) m in
      let none = (links_taken classes taken.linked).method n c k m is at in
      subst (λ o. option_map_or (code_kinds classes n m.name) o [] ≡ []) has
      (nil_parts (head ++ body_kinds c m ++ overriding_kinds classes n place)
      (option_map_or (code_kinds classes n m.name) m.code []) none).1

  pub good_code : (n : ℕ) (c : Class) (k : ℕ) (m : Method) (code : Code) → slice_get classes n ≡ Some c
      → slice_get c.methods k ≡ Some m → m.code ≡ Some code
      → AllByRecursion (λ (x : Ins). IsGoodOp (length code.ins) x.op) code.ins
  good_code n c k m code is at has =
      let good = all_at (IsGoodMethod (is_interface c.flags.0)) c.methods k m (taken.formed n c is).methods at in
      (subst (λ o. IfSome o IsGoodCode) has good.code).instructions

  -- the code of a kept method stands for itself
  code_itself : (x : ClassId) (k : ℕ) (code : Code)
      → is_member_kept classes marks (record { class = x; index = k }) ≡ true
      → told_in classes (λ f. None) (λ m. m.code) x k ≡ Some code
      → CodeMap (new_refs classes rules marks closed taken) (name_of classes x) code code
  code_itself x k code kept e =
      let found = code_found classes x k code e in
      let marked : is_marked marks (class_item classes found.n + 1 + (length found.class.fields + found.k)) ≡ true =
      subst (λ (j : ℕ). is_marked marks (class_item classes found.n + 1 + j) ≡ true) found.index_is
      (subst (λ (y : ClassId). is_index_marked classes marks y k ≡ true) found.class_is
      (member_marked classes marks (record { class = x; index = k }) kept)) in
      let there : IsClass classes (Prog found.n) = subst (IsClass classes) found.class_is
      (class_there classes marks x (class_of_kept classes marks (record { class = x; index = k }) kept)) in
      let wants = wants_of_method classes rules marks closed found.n found.class found.k found.method found.class_at
      found.method_at marked in
      let of_code : AllIn classes rules marks closed (code_wants classes found.n code) =
      subst (λ o. AllIn classes rules marks closed (option_map_or (code_wants classes found.n) o [])) found.code_is
      wants.code in
      subst (λ (y : ClassId). CodeMap (new_refs classes rules marks closed taken) (name_of classes y) code code)
      (sym found.class_is)
      (code_same classes rules marks closed taken found.n (name_of classes (Prog found.n)) found.method.name code
      (class_found classes taken (Prog found.n) there)
      (good_code found.n found.class found.k found.method code found.class_at found.method_at found.code_is)
      (wants_of_code classes rules marks closed found.n code of_code)
      (code_kinds_none found.n found.class found.k found.method code found.class_at found.method_at found.code_is))

  codes_moved : (m : MemberAt) → is_member_kept classes marks m ≡ true
      → OptionCorr (CodeMap (new_refs classes rules marks closed taken) (name_of classes m.class)) (code_at classes m)
      (code_at out (member_place classes marks m))
  codes_moved m kept =
      subst (λ o. OptionCorr (CodeMap (new_refs classes rules marks closed taken) (name_of classes m.class))
      (code_at classes m) o)
      (sym (told_same classes marks (λ f. None) (λ m. m.code) m kept)) (by (code_at classes m) refl)
    where
      by : (o : Option Code) → code_at classes m ≡ o
          → OptionCorr (CodeMap (new_refs classes rules marks closed taken) (name_of classes m.class)) o o
      by None e = refl
      by (Some code) e = (code, refl, code_itself m.class m.index code kept e)

  -- ---- the whole

  pub image_view : IsImageView classes out i
  image_view = record {
    named = class_found classes taken;
    named_moved = found_left;
    library_moved = λ x k. library_same x;
    own_class = own_class_kept;
    own_field = own_field_kept;
    library_member = λ m k library. key_same m k;
    member_named = member_left;
    descriptors = like_itself;
    clinit_renamed = refl;
    clinit_kept = starts_kept classes rules marks closed taken;
    constant_moved = λ m k. told_same classes marks (λ f. f.constant) (λ m. None) m k;
    code_moved = codes_moved;
  }

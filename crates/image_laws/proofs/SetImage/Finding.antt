-- Fields and methods that are found in an image.
use Rattle.std.proofs.Common.{◌≡◌, Bool, true, false, cond, not, ◌&&◌, List, [], ◌∷◌, map, Option, Some, None}
use Rattle.std.proofs.Common.{refl, sym, ap, subst, ◌∙◌}
use Rattle.std.specs.Prelude.{IfSome, codes}
use Rattle.std.specs.List.{AllByRecursion, cons_option, filter, find}
use Rattle.std.specs.Option.{option_and_then, option_map, option_or}
use Rattle.class_model.specs.Flags.{acc_abstract, acc_private, acc_public, acc_static}
use Rattle.class_model.specs.declared.class.Class.{Class}
use Rattle.class_pool.specs.declared.id.ClassId.{ClassId}
use Rattle.class_pool.specs.declared.id.MemberAt.{MemberAt}
use Rattle.class_pool.specs.Found.{NameAndType, declared_by, declared_in, is_abstract_member, is_private_member}
use Rattle.class_pool.specs.Found.{is_public_member, is_static_member}
use Rattle.class_pool.specs.Hierarchy.{class_named}
use Rattle.class_pool.specs.Resolution.{chosen, class_method_found, field_found, field_order, first, first_declared}
use Rattle.class_pool.specs.Resolution.{interface_method_found, is_interface_in, is_maximally_specific, is_open}
use Rattle.class_pool.specs.Resolution.{method_found, object_method, only_one, superinterface_methods}
use Rattle.class_pool.specs.Walk.{superclasses_from, superinterfaces}
use Rattle.image_laws.specs.SetImage.Image.{AreAbstract, Image}
use Rattle.image_laws.proofs.SetImage.MappedLists as lists
use Rattle.image_laws.proofs.SetImage.Walks.{AllKept, field_order_kept, field_order_moved, superclasses_kept}
use Rattle.image_laws.proofs.SetImage.Walks.{superclasses_moved, superinterfaces_kept, superinterfaces_moved}

-- ---- where no method has a body, the first one counts

abbrev AllAbstract : List Class → List MemberAt → Type 0
AllAbstract classes ms = AllByRecursion (λ m. is_abstract_member classes m ≡ true) ms

abbrev with_body : List Class → List MemberAt → List MemberAt
with_body classes ms = filter (λ m. not (is_abstract_member classes m)) ms

none_with_body : (classes : List Class) (keep : MemberAt → Bool) (ms : List MemberAt) → AllAbstract classes ms
    → with_body classes (filter keep ms) ≡ []
none_with_body classes keep [] h = refl
none_with_body classes keep (m ∷ ms) h = by (keep m) (none_with_body classes keep ms h.1)
  where
    by : (k : Bool) → with_body classes (filter keep ms) ≡ []
        → with_body classes (cond k (m ∷ filter keep ms) (filter keep ms)) ≡ []
    by true r =
        ap (λ (t : Bool). cond (not t) (m ∷ with_body classes (filter keep ms))
        (with_body classes (filter keep ms))) h.0
        ∙ r
    by false r = r

pub chosen_first : (classes : List Class) (ms : List MemberAt) → AllAbstract classes ms
    → chosen classes ms ≡ first ms
chosen_first classes ms h = ap (λ t. option_or (only_one classes t) (first ms))
    (none_with_body classes (is_maximally_specific classes ms) ms h)

-- ---- in an image

module _ (a b : List Class) (i : Image a b) where
  abbrev pub FoundKept : Option MemberAt → Type 0
  FoundKept o = lists.SomeKept i.kept_member i.moved_member o

  -- the kept ones of some members, moved
  abbrev pub members_moved : List MemberAt → List MemberAt
  members_moved ms = lists.all_moved i.kept_member i.moved_member ms

  -- what kept classes declare
  pub declared_moved : (n o : NameAndType) → i.renamed n ≡ Some o → (cs : List ClassId) → AllKept a b i cs
      → declared_by b o (map i.moved cs) ≡ members_moved (declared_by a n cs)
  declared_moved n o e [] k = refl
  declared_moved n o e (c ∷ cs) k =
      ap (λ t. cons_option t (declared_by b o (map i.moved cs))) (i.declared_moved n o e c k.0)
      ∙ lists.moved_option i.kept_member i.moved_member (declared_in a n c) (declared_by a n cs)
      (declared_by b o (map i.moved cs)) (declared_moved n o e cs k.1)

  first_declared_moved : (n o : NameAndType) → i.renamed n ≡ Some o → (cs : List ClassId) → AllKept a b i cs
      → FoundKept (first_declared a n cs)
      → first_declared b o (map i.moved cs) ≡ option_map i.moved_member (first_declared a n cs)
  first_declared_moved n o e cs k h = ap first (declared_moved n o e cs k)
      ∙ lists.first_moved i.kept_member i.moved_member (declared_by a n cs) h

  -- ---- fields (JVMS 5.4.3.2)

  pub field_moved : (n o : NameAndType) → i.renamed n ≡ Some o → (x : ClassId) → i.kept x ≡ true
      → FoundKept (field_found a x n) → field_found b (i.moved x) o ≡ option_map i.moved_member (field_found a x n)
  field_moved n o e x k h = ap (first_declared b o) (field_order_moved a b i x k)
      ∙ first_declared_moved n o e (field_order a x) (field_order_kept a b i x k) h

  -- ---- methods of superinterfaces

  is_open_moved : (m : MemberAt) → i.kept_member m ≡ true → is_open b (i.moved_member m) ≡ is_open a m
  is_open_moved m k =
      ap (λ (t : Bool). not t && not (is_static_member b (i.moved_member m))) (i.flag_moved acc_private m k)
      ∙ ap (λ (t : Bool). not (is_private_member a m) && not t) (i.flag_moved acc_static m k)

  interface_methods_moved : (n o : NameAndType) → i.renamed n ≡ Some o → (x : ClassId) → i.kept x ≡ true
      → superinterface_methods b (i.moved x) o ≡ members_moved (superinterface_methods a x n)
  interface_methods_moved n o e x k =
      ap (λ t. filter (is_open b) (declared_by b o t)) (superinterfaces_moved a b i x k)
      ∙ ap (filter (is_open b)) (declared_moved n o e (superinterfaces a x) (superinterfaces_kept a b i x k))
      ∙ lists.filter_moved i.kept_member i.moved_member (is_open a) (is_open b) is_open_moved
      (declared_by a n (superinterfaces a x))

  abstract_moved : (ms : List MemberAt) → AllAbstract a ms → AllAbstract b (members_moved ms)
  abstract_moved [] h = tt
  abstract_moved (m ∷ ms) h = by (i.kept_member m) refl (abstract_moved ms h.1)
    where
      by : (k : Bool) → i.kept_member m ≡ k → AllAbstract b (members_moved ms)
          → AllAbstract b (cons_option (cond k (Some (i.moved_member m)) None) (members_moved ms))
      by true k r = (i.flag_moved acc_abstract m k ∙ h.0, r)
      by false k r = r

  module _ (no_bodies : AreAbstract a) where
    chosen_moved : (n o : NameAndType) → i.renamed n ≡ Some o → (x : ClassId) → i.kept x ≡ true
        → FoundKept (chosen a (superinterface_methods a x n))
        → chosen b (superinterface_methods b (i.moved x) o)
        ≡ option_map i.moved_member (chosen a (superinterface_methods a x n))
    chosen_moved n o e x k h =
        let here = chosen_first a (superinterface_methods a x n) (no_bodies x n) in
        ap (chosen b) (interface_methods_moved n o e x k)
        ∙ chosen_first b (members_moved (superinterface_methods a x n))
        (abstract_moved (superinterface_methods a x n) (no_bodies x n))
        ∙ lists.first_moved i.kept_member i.moved_member (superinterface_methods a x n) (subst FoundKept here h)
        ∙ ap (option_map i.moved_member) (sym here)

    -- ---- methods of a class (JVMS 5.4.3.3)

    class_method_moved : (n o : NameAndType) → i.renamed n ≡ Some o → (x : ClassId) → i.kept x ≡ true
        → FoundKept (class_method_found a x n)
        → class_method_found b (i.moved x) o ≡ option_map i.moved_member (class_method_found a x n)
    class_method_moved n o e x k h =
        lists.or_moved i.kept_member i.moved_member
        (first_declared a n (superclasses_from a x)) (chosen a (superinterface_methods a x n))
        (first_declared b o (superclasses_from b (i.moved x))) (chosen b (superinterface_methods b (i.moved x) o)) h
        (λ l. ap (first_declared b o) (superclasses_moved a b i x k)
        ∙ first_declared_moved n o e (superclasses_from a x) (superclasses_kept a b i x k) l)
        (chosen_moved n o e x k)

    -- ---- methods of an interface (JVMS 5.4.3.4)

    abbrev is_object_method : List Class → MemberAt → Bool
    is_object_method classes m = is_public_member classes m && not (is_static_member classes m)

    is_object_method_moved : (m : MemberAt) → i.kept_member m ≡ true
        → is_object_method b (i.moved_member m) ≡ is_object_method a m
    is_object_method_moved m k =
        ap (λ (t : Bool). t && not (is_static_member b (i.moved_member m))) (i.flag_moved acc_public m k)
        ∙ ap (λ (t : Bool). is_public_member a m && not t) (i.flag_moved acc_static m k)

    abbrev object_method_of : List Class → NameAndType → ClassId → Option MemberAt
    object_method_of classes n object = find (is_object_method classes) (declared_by classes n (object ∷ []))

    object_method_moved : (n o : NameAndType) → i.renamed n ≡ Some o → FoundKept (object_method a n)
        → object_method b o ≡ option_map i.moved_member (object_method a n)
    object_method_moved n o e h = ap (option_and_then (object_method_of b o)) i.object_moved
        ∙ by (class_named a (codes "java/lang/Object")) i.object_kept h
      where
        by : (c : Option ClassId) → IfSome c (λ y. i.kept y ≡ true)
            → FoundKept (option_and_then (object_method_of a n) c)
            → option_and_then (object_method_of b o) (option_map i.moved c)
            ≡ option_map i.moved_member (option_and_then (object_method_of a n) c)
        by None k h = refl
        by (Some c) k h = ap (find (is_object_method b)) (declared_moved n o e (c ∷ []) (k, tt))
            ∙ lists.find_moved i.kept_member i.moved_member (is_object_method a) (is_object_method b)
            is_object_method_moved (declared_by a n (c ∷ [])) h

    interface_method_moved : (n o : NameAndType) → i.renamed n ≡ Some o → (x : ClassId) → i.kept x ≡ true
        → FoundKept (interface_method_found a x n)
        → interface_method_found b (i.moved x) o ≡ option_map i.moved_member (interface_method_found a x n)
    interface_method_moved n o e x k h =
        lists.or_moved i.kept_member i.moved_member
        (declared_in a n x) (option_or (object_method a n) (chosen a (superinterface_methods a x n)))
        (declared_in b o (i.moved x))
        (option_or (object_method b o) (chosen b (superinterface_methods b (i.moved x) o)))
        h
        (λ l. i.declared_moved n o e x k
        ∙ lists.option_moved i.kept_member i.moved_member (declared_in a n x) l)
        (λ l. lists.or_moved i.kept_member i.moved_member
        (object_method a n) (chosen a (superinterface_methods a x n))
        (object_method b o) (chosen b (superinterface_methods b (i.moved x) o)) l
        (object_method_moved n o e) (chosen_moved n o e x k))

    -- ---- methods

    pub method_moved : (n o : NameAndType) → i.renamed n ≡ Some o → (x : ClassId) → i.kept x ≡ true
        → FoundKept (method_found a x n)
        → method_found b (i.moved x) o ≡ option_map i.moved_member (method_found a x n)
    method_moved n o e x k h =
        ap (λ (t : Bool). cond t (interface_method_found b (i.moved x) o) (class_method_found b (i.moved x) o))
        (i.interface_moved x k)
        ∙ by (is_interface_in a x) h
      where
        by : (t : Bool) → FoundKept (cond t (interface_method_found a x n) (class_method_found a x n))
            → cond t (interface_method_found b (i.moved x) o) (class_method_found b (i.moved x) o)
            ≡ option_map i.moved_member (cond t (interface_method_found a x n) (class_method_found a x n))
        by true h = interface_method_moved n o e x k h
        by false h = class_method_moved n o e x k h

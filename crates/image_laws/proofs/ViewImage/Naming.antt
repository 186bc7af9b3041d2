-- The names of classes and members, and those of an image.
use Rattle.std.proofs.Common.{◌≡◌, ℕ, Bool, true, false, cond, List, [], ◌∷◌, Option, Some, None, slice_get}
use Rattle.std.proofs.Common.{get_or, refl}
use Rattle.std.proofs.Common.{sym, ap, ◌∙◌}
use Rattle.std.specs.List.{position}
use Rattle.std.specs.Option.{option_and_then, option_map, option_map_or}
use Rattle.std.proofs.lemmas.List.Quantifiers.{position-Some}
use Rattle.std.proofs.lemmas.Option.{slice_get-get_or}
use Rattle.link_check.proofs.OverridingLaws.{declared_class}
use Rattle.jv_base.specs.Names.{is_text}
use Rattle.jv_base.proofs.Equality.{text_Decides}
use Rattle.jv_base.proofs.Options.{both_there}
use Rattle.class_model.specs.declared.class.Class.{Class}
use Rattle.lib_table.specs.Library.{LibraryClass, class, library}
use Rattle.lib_table.specs.Lookups as table
use Rattle.lib_table.specs.declared.class.LibKind.TheVariants.{Open}
use Rattle.class_pool.specs.Found.{NameAndType, declared_in, name_of, named_at, same_member}
use Rattle.class_pool.specs.Hierarchy.{IsClass, class_named, or_found}
use Rattle.class_pool.specs.Walk.{same_class}
use Rattle.class_pool.specs.declared.id.ClassId.{ClassId}
use Rattle.class_pool.specs.declared.id.ClassId.TheVariants.{Prog, Lib}
use Rattle.class_pool.specs.declared.id.MemberAt.{MemberAt}
use Rattle.class_pool.proofs.Declaring.{declared_named}
use Rattle.class_pool.proofs.EachOnce.{same_is, same_itself}
use Rattle.class_pool.proofs.Among.{member_is as same_member_is, member_itself}
use Rattle.image_laws.specs.SetImage.Image.{Image}
use Rattle.jvm_model.specs.Value.{Key}
use Rattle.set_view.specs.ViewOf.{key_at, member_of}
use Rattle.image_laws.specs.ViewImage.ImageNames.{names, new_class, new_key}
use Rattle.image_laws.specs.ViewImage.ImageView.{IsImageView}
use Rattle.image_laws.proofs.ViewImage.Standing.{Stands, class_there}

pub some_of : {A : Type 0} (b : Bool) (x y : A) → cond b (Some x) None ≡ Some y → (b ≡ true) × (y ≡ x)
some_of true x y h = let e : y ≡ x = cc in (refl, e)
some_of false x y h = absurd cc

-- ---- the class of a name has that name

found_number : (classes : List Class) (name : List ℕ) (n : ℕ) → position (λ (c : Class). is_text name c.name) classes
    ≡ Some n
    → option_map_or (λ (c : Class). c.name) (slice_get classes n) [] ≡ name
found_number [] name n e = absurd cc
found_number (c ∷ cs) name n e =
    let h = position-Some (λ (c : Class). is_text name c.name) (c ∷ cs) n c e in
    ap (λ o. option_map_or (λ (c : Class). c.name) o []) (slice_get-get_or (c ∷ cs) n c h.0)
    ∙ sym ((text_Decides name (get_or (c ∷ cs) n c).name).0 h.1)

pub found_library : (name : List ℕ) (id : ℕ) → table.class_named name ≡ Some id → (table.class_at id).name ≡ name
found_library name id e =
    let h = position-Some (λ (c : LibraryClass). is_text c.name name) library id (class [] Open None [] []) e in
    (text_Decides (table.class_at id).name name).0 h.1

pub class_name : (classes : List Class) (name : List ℕ) (x : ClassId) → class_named classes name ≡ Some x
    → name_of classes x ≡ name
class_name classes name x e = by (position (λ c. is_text name c.name) classes) (table.class_named name) refl refl e
  where
    in_library : (p : Option ℕ) → table.class_named name ≡ p → option_map Lib p ≡ Some x → name_of classes x ≡ name
    in_library None l e = absurd cc
    in_library (Some id) l e =
        let q : x ≡ Lib id = cc in ap (name_of classes) q ∙ found_library name id l

    by : (o p : Option ℕ) → position (λ c. is_text name c.name) classes ≡ o → table.class_named name ≡ p
        → or_found o (option_map Lib p) ≡ Some x → name_of classes x ≡ name
    by (Some n) p k l e =
        let q : x ≡ Prog n = cc in ap (name_of classes) q ∙ found_number classes name n k
    by None p k l e = in_library p l e

-- ---- the member of a key has that key

pub record Member (classes : List Class) (k : Key) (m : MemberAt) : Type 0 where
  pub class : class_named classes k.class ≡ Some m.class
  pub stands : Stands classes (k.name, k.descriptor) m
  pub key : key_at classes m ≡ k

pub member_is : (classes : List Class) (k : Key) (m : MemberAt) → member_of classes k ≡ Some m → Member classes k m
member_is classes k m e =
    let x = both_there (declared_in classes (k.name, k.descriptor)) (class_named classes k.class) m e in
    let same = declared_class classes (k.name, k.descriptor) x.0 m x.2 in
    let class = x.1 ∙ ap Some (sym same) in
    let named = declared_named classes (k.name, k.descriptor) x.0 m x.2 in
    record {
      class = class;
      stands = ap (declared_in classes (k.name, k.descriptor)) same ∙ x.2;
      key = λ i. record {
        class = class_name classes k.class m.class class i;
        name = (named i).0;
        descriptor = (named i).1;
      };
    }

-- the key of a member that stands leads to it
pub key_leads : (classes : List Class) → ((x : ClassId) → IsClass classes x → class_named classes (name_of classes x)
    ≡ Some x)
    → (n : NameAndType) (m : MemberAt) → Stands classes n m → member_of classes (key_at classes m) ≡ Some m
key_leads classes named n m s =
    ap (option_and_then (declared_in classes (named_at classes m))) (named m.class (class_there classes n m.class m s))
    ∙ ap (λ (t : NameAndType). declared_in classes t m.class) (declared_named classes n m.class m s) ∙ s

-- ---- an image

module _ (a b : List Class) (i : Image a b) (told : IsImageView a b i) where
  one_place : (x y : ClassId) → i.kept x ≡ true → i.kept y ≡ true → i.moved x ≡ i.moved y → x ≡ y
  one_place x y k l e =
      same_is x y (sym (i.same_moved x y k l) ∙ ap (same_class (i.moved x)) (sym e) ∙ same_itself (i.moved x))

  one_member_place : (m n : MemberAt) → i.kept_member m ≡ true → i.kept_member n ≡ true
      → i.moved_member m ≡ i.moved_member n → m ≡ n
  one_member_place m n k l e =
      same_member_is m n (sym (i.same_member_moved m n k l) ∙ ap (same_member (i.moved_member m)) (sym e)
      ∙ member_itself (i.moved_member m))

  -- a class with a new name is one that is kept, and its new name is that of its place
  pub record ClassOf (c d : List ℕ) : Type 0 where
    pub at : ClassId
    pub is : class_named a c ≡ Some at
    pub kept : i.kept at ≡ true
    pub name : d ≡ name_of b (i.moved at)

  pub class_of_name : (c d : List ℕ) → (names a b i).class c ≡ Some d → ClassOf c d
  class_of_name c d e =
      let x = both_there (new_class a b i) (class_named a c) d e in
      let p = some_of (i.kept x.0) (name_of b (i.moved x.0)) d x.2 in
      record { at = x.0; is = x.1; kept = p.0; name = p.1 }

  -- it is found by that name in the image
  pub class_there_too : (c d : List ℕ) (x : ClassOf c d) → class_named b d ≡ Some (i.moved x.at)
  class_there_too c d x = ap (class_named b) x.name ∙ told.named_moved x.at x.kept

  -- a kept class has a new name
  pub new_name : (x : ClassId) → IsClass a x → i.kept x ≡ true
      → (names a b i).class (name_of a x) ≡ Some (name_of b (i.moved x))
  new_name x there k =
      ap (option_and_then (new_class a b i)) (told.named x there)
      ∙ ap (λ t. cond t (Some (name_of b (i.moved x))) None) k

  pub one_class : (c d e : List ℕ) → (names a b i).class c ≡ Some e → (names a b i).class d ≡ Some e → c ≡ d
  one_class c d e f g =
      let x = class_of_name c e f in
      let y = class_of_name d e g in
      let same : Some (i.moved x.at) ≡ Some (i.moved y.at) = sym (class_there_too c e x) ∙ class_there_too d e y in
      let moved : i.moved x.at ≡ i.moved y.at = cc in
      sym (class_name a c x.at x.is) ∙ ap (name_of a) (one_place x.at y.at x.kept y.kept moved)
      ∙ class_name a d y.at y.is

  -- the same of members
  pub record MemberOf (k l : Key) : Type 0 where
    pub at : MemberAt
    pub is : member_of a k ≡ Some at
    pub kept : i.kept_member at ≡ true
    pub key : l ≡ key_at b (i.moved_member at)

  pub member_of_key : (k l : Key) → option_and_then (new_key a b i) (member_of a k) ≡ Some l → MemberOf k l
  member_of_key k l e =
      let m = both_there (new_key a b i) (member_of a k) l e in
      let p = some_of (i.kept_member m.0) (key_at b (i.moved_member m.0)) l m.2 in
      record { at = m.0; is = m.1; kept = p.0; key = p.1 }

  pub member_there_too : (k l : Key) (m : MemberOf k l) → member_of b l ≡ Some (i.moved_member m.at)
  member_there_too k l m = ap (member_of b) m.key ∙ told.member_named m.at m.kept

  pub new_key_of : (n : NameAndType) (m : MemberAt) → Stands a n m → i.kept_member m ≡ true
      → option_and_then (new_key a b i) (member_of a (key_at a m)) ≡ Some (key_at b (i.moved_member m))
  new_key_of n m s k =
      ap (option_and_then (new_key a b i)) (key_leads a told.named n m s)
      ∙ ap (λ t. cond t (Some (key_at b (i.moved_member m))) None) k

  pub one_key : (k k' l : Key) → option_and_then (new_key a b i) (member_of a k) ≡ Some l
      → option_and_then (new_key a b i) (member_of a k') ≡ Some l → k ≡ k'
  one_key k k' l f g =
      let x = member_of_key k l f in
      let y = member_of_key k' l g in
      let same : Some (i.moved_member x.at) ≡ Some (i.moved_member y.at) =
      sym (member_there_too k l x) ∙ member_there_too k' l y in
      let moved : i.moved_member x.at ≡ i.moved_member y.at = cc in
      sym (member_is a k x.at x.is).key
      ∙ ap (key_at a) (one_member_place x.at y.at x.kept y.kept moved)
      ∙ (member_is a k' y.at y.is).key

  pub key_class : (k l : Key) → option_and_then (new_key a b i) (member_of a k) ≡ Some l
      → (names a b i).class k.class ≡ Some l.class
  key_class k l e =
      let x = member_of_key k l e in
      let there = member_is a k x.at x.is in
      ap (option_and_then (new_class a b i)) there.class
      ∙ ap (λ t. cond t (Some (name_of b (i.moved (x.at).class))) None) (i.class_kept x.at x.kept)
      ∙ ap (λ t. Some (name_of b t)) (sym (i.class_moved x.at))
      ∙ ap (λ (t : Key). Some t.class) (sym x.key)

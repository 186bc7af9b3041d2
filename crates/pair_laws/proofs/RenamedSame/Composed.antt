-- An image of an image is an image.
use Rattle.std.proofs.Common.{◌≡◌, Bool, true, false, cond, List, [], ◌∷◌, map, Option, Some, None, refl, ap}
use Rattle.std.proofs.Common.{◌∙◌, codes}
use Rattle.std.specs.Option.{option_and_then, option_map}
use Rattle.class_model.specs.declared.class.Class.{Class}
use Rattle.class_pool.specs.Found.{NameAndType, declared_in}
use Rattle.class_pool.specs.Hierarchy.{class_named, interfaces, superclass}
use Rattle.class_pool.specs.declared.id.ClassId.{ClassId}
use Rattle.class_pool.specs.declared.id.MemberAt.{MemberAt}
use Rattle.image_laws.specs.SetImage.Image.{Image, if_kept}

pub option_twice : {A B C : Type 0} (f : A → B) (g : B → C) (o : Option A)
    → option_map g (option_map f o) ≡ option_map (λ x. g (f x)) o
option_twice f g None = refl
option_twice f g (Some x) = refl

pub map_twice : {A B C : Type 0} (f : A → B) (g : B → C) (xs : List A) → map g (map f xs) ≡ map (λ x. g (f x)) xs
map_twice f g [] = refl
map_twice {A} {B} {C} f g (x ∷ xs) = ap (λ (t : List C). g (f x) ∷ t) (map_twice f g xs)

module _ (a b c : List Class) (i : Image a b) (j : Image b c)
    (keeps : (x : ClassId) → i.kept x ≡ true → j.kept (i.moved x) ≡ true)
    (keeps_member : (m : MemberAt) → i.kept_member m ≡ true → j.kept_member (i.moved_member m) ≡ true) where
  abbrev pub moved : ClassId → ClassId
  moved x = j.moved (i.moved x)

  abbrev pub moved_member : MemberAt → MemberAt
  moved_member m = j.moved_member (i.moved_member m)

  abbrev pub renamed : NameAndType → Option NameAndType
  renamed n = option_and_then j.renamed (i.renamed n)

  both_kept : (o : Option MemberAt) → option_and_then (if_kept j.kept_member j.moved_member)
      (option_and_then (if_kept i.kept_member i.moved_member) o) ≡ option_and_then
      (if_kept i.kept_member moved_member) o
  both_kept None = refl
  both_kept (Some m) = by (i.kept_member m) refl
    where
      by : (t : Bool) → i.kept_member m ≡ t → option_and_then (if_kept j.kept_member j.moved_member)
          (cond t (Some (i.moved_member m)) None) ≡ cond t (Some (moved_member m)) None
      by true h = ap (λ (t : Bool). cond t (Some (moved_member m)) None) (keeps_member m h)
      by false h = refl

  pub declared : (n o : NameAndType) → renamed n ≡ Some o → (x : ClassId) → i.kept x ≡ true
      → declared_in c o (moved x) ≡ option_and_then (if_kept i.kept_member moved_member) (declared_in a n x)
  declared n o e x h = by (i.renamed n) refl e
    where
      by : (p : Option NameAndType) → i.renamed n ≡ p → option_and_then j.renamed p ≡ Some o
          → declared_in c o (moved x) ≡ option_and_then (if_kept i.kept_member moved_member) (declared_in a n x)
      by None is e = absurd cc
      by (Some p) is e =
          j.declared_moved p o e (i.moved x) (keeps x h)
          ∙ ap (option_and_then (if_kept j.kept_member j.moved_member)) (i.declared_moved n p is x h)
          ∙ both_kept (declared_in a n x)

  abbrev pub composed : Image a c
  composed = record {
    kept = i.kept;
    moved = moved;
    kept_member = i.kept_member;
    moved_member = moved_member;
    renamed = renamed;
    same_moved = λ x y h k.
        j.same_moved (i.moved x) (i.moved y) (keeps x h) (keeps y k) ∙ i.same_moved x y h k;
    super_kept = i.super_kept;
    super_moved = λ x h.
        j.super_moved (i.moved x) (keeps x h) ∙ ap (option_map j.moved) (i.super_moved x h)
        ∙ option_twice i.moved j.moved (superclass a x);
    interfaces_kept = i.interfaces_kept;
    interfaces_moved = λ x h.
        j.interfaces_moved (i.moved x) (keeps x h) ∙ ap (map j.moved) (i.interfaces_moved x h)
        ∙ map_twice i.moved j.moved (interfaces a x);
    interface_moved = λ x h. j.interface_moved (i.moved x) (keeps x h) ∙ i.interface_moved x h;
    public_moved = λ x h. j.public_moved (i.moved x) (keeps x h) ∙ i.public_moved x h;
    package_moved = λ x y h k.
        j.package_moved (i.moved x) (i.moved y) (keeps x h) (keeps y k) ∙ i.package_moved x y h k;
    object_kept = i.object_kept;
    object_moved = j.object_moved ∙ ap (option_map j.moved) i.object_moved
        ∙ option_twice i.moved j.moved (class_named a (codes "java/lang/Object"));
    class_kept = i.class_kept;
    class_moved = λ m. j.class_moved (i.moved_member m) ∙ ap j.moved (i.class_moved m);
    same_member_moved = λ m n h k.
        j.same_member_moved (i.moved_member m) (i.moved_member n) (keeps_member m h) (keeps_member n k)
        ∙ i.same_member_moved m n h k;
    declared_moved = declared;
    flag_moved = λ flag m h. j.flag_moved flag (i.moved_member m) (keeps_member m h) ∙ i.flag_moved flag m h;
    instance_moved = λ m h. j.instance_moved (i.moved_member m) (keeps_member m h) ∙ i.instance_moved m h;
    name_moved = λ m h. ap (option_and_then j.renamed) (i.name_moved m h)
        ∙ j.name_moved (i.moved_member m) (keeps_member m h);
    init_moved = λ m h. j.init_moved (i.moved_member m) (keeps_member m h) ∙ i.init_moved m h;
  }

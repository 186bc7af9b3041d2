-- Supertypes in an image.
use Rattle.std.proofs.Common.{◌≡◌, ℕ, zero, suc, true, List, [], ◌∷◌, ◌++◌, map, refl, sym, ap, ◌∙◌}
use Rattle.std.specs.List.{flat_map, list_any}
use Rattle.std.specs.Option.{option_map_or}
use Rattle.std.proofs.lemmas.List.{map-append}
use Rattle.jv_base.proofs.Lists.{all_append}
use Rattle.class_model.specs.declared.class.Class.{Class}
use Rattle.class_pool.specs.declared.id.ClassId.{ClassId}
use Rattle.class_pool.specs.Hierarchy.{interfaces, superclass}
use Rattle.class_pool.specs.Resolution.{field_order}
use Rattle.class_pool.specs.Supers.{is_below}
use Rattle.class_pool.specs.Walk.{highest, own_superinterfaces, same_class, superclasses_from}
use Rattle.class_pool.specs.Walk.{superinterfaces, upwards, walked}
use Rattle.image_laws.specs.SetImage.Image.{Image}
use Rattle.image_laws.proofs.SetImage.MappedLists as lists

module _ (a b : List Class) (i : Image a b) where
  abbrev pub AllKept : List ClassId → Type 0
  AllKept xs = lists.AllKept i.kept i.moved xs

  -- ---- walks of so many steps

  upwards_kept : (n : ℕ) (x : ClassId) → i.kept x ≡ true → AllKept (upwards n a x)
  unfolding upwards
  upwards_kept zero x k = tt
  upwards_kept (suc n) x k = (
    k,
    lists.option_flat_kept i.kept i.moved (upwards n a) (superclass a x) (i.super_kept x k) (λ y h. upwards_kept n y h),
  )

  upwards_moved : (n : ℕ) (x : ClassId) → i.kept x ≡ true → upwards n b (i.moved x) ≡ map i.moved (upwards n a x)
  unfolding upwards
  upwards_moved zero x k = refl
  upwards_moved (suc n) x k = ap (λ (t : List ClassId). i.moved x ∷ t)
      (ap (λ o. option_map_or (upwards n b) o []) (i.super_moved x k)
      ∙ lists.option_flat_moved i.kept i.moved (upwards n a) (upwards n b) (superclass a x) (i.super_kept x k)
      (λ y h. upwards_moved n y h))

  walked_kept : (n : ℕ) (xs : List ClassId) → AllKept xs → AllKept (walked n a xs)
  unfolding walked
  walked_kept zero xs k = tt
  walked_kept (suc n) xs k = lists.flat_kept i.kept i.moved (λ j. j ∷ walked n a (interfaces a j)) xs k
      (λ y h. (h, walked_kept n (interfaces a y) (i.interfaces_kept y h)))

  walked_moved : (n : ℕ) (xs : List ClassId) → AllKept xs
      → walked n b (map i.moved xs) ≡ map i.moved (walked n a xs)
  unfolding walked
  walked_moved zero xs k = refl
  walked_moved (suc n) xs k =
      lists.flat_moved i.kept i.moved (λ j. j ∷ walked n a (interfaces a j)) (λ j. j ∷ walked n b (interfaces b j)) xs k
      (λ y h. ap (λ (t : List ClassId). i.moved y ∷ t)
      (ap (walked n b) (i.interfaces_moved y h) ∙ walked_moved n (interfaces a y) (i.interfaces_kept y h)))

  -- ---- all that stand above a class

  pub superclasses_kept : (x : ClassId) → i.kept x ≡ true → AllKept (superclasses_from a x)
  superclasses_kept x k = upwards_kept highest x k

  pub superclasses_moved : (x : ClassId) → i.kept x ≡ true
      → superclasses_from b (i.moved x) ≡ map i.moved (superclasses_from a x)
  superclasses_moved x k = upwards_moved highest x k

  pub own_kept : (x : ClassId) → i.kept x ≡ true → AllKept (own_superinterfaces a x)
  own_kept x k = walked_kept highest (interfaces a x) (i.interfaces_kept x k)

  pub own_moved : (x : ClassId) → i.kept x ≡ true
      → own_superinterfaces b (i.moved x) ≡ map i.moved (own_superinterfaces a x)
  own_moved x k = ap (walked highest b) (i.interfaces_moved x k)
      ∙ walked_moved highest (interfaces a x) (i.interfaces_kept x k)

  pub superinterfaces_kept : (x : ClassId) → i.kept x ≡ true → AllKept (superinterfaces a x)
  superinterfaces_kept x k =
      lists.flat_kept i.kept i.moved (own_superinterfaces a) (superclasses_from a x) (superclasses_kept x k) own_kept

  pub superinterfaces_moved : (x : ClassId) → i.kept x ≡ true
      → superinterfaces b (i.moved x) ≡ map i.moved (superinterfaces a x)
  superinterfaces_moved x k = ap (flat_map (own_superinterfaces b)) (superclasses_moved x k)
      ∙ lists.flat_moved i.kept i.moved (own_superinterfaces a) (own_superinterfaces b) (superclasses_from a x)
      (superclasses_kept x k) own_moved

  -- the order in which a field is looked for (JVMS 5.4.3.2)
  pub field_order_kept : (x : ClassId) → i.kept x ≡ true → AllKept (field_order a x)
  field_order_kept x k = lists.flat_kept i.kept i.moved (λ d. d ∷ own_superinterfaces a d) (superclasses_from a x)
      (superclasses_kept x k) (λ y h. (h, own_kept y h))

  pub field_order_moved : (x : ClassId) → i.kept x ≡ true
      → field_order b (i.moved x) ≡ map i.moved (field_order a x)
  field_order_moved x k = ap (flat_map (λ d. d ∷ own_superinterfaces b d)) (superclasses_moved x k)
      ∙ lists.flat_moved i.kept i.moved (λ d. d ∷ own_superinterfaces a d) (λ d. d ∷ own_superinterfaces b d)
      (superclasses_from a x) (superclasses_kept x k)
      (λ y h. ap (λ (t : List ClassId). i.moved y ∷ t) (own_moved y h))

  -- ---- one class below another

  -- a list of kept classes has a kept class where it had it
  pub among_moved : (xs : List ClassId) (y : ClassId) → AllKept xs → i.kept y ≡ true
      → list_any (same_class (i.moved y)) (map i.moved xs) ≡ list_any (same_class y) xs
  among_moved xs y k h = lists.any_moved i.kept i.moved (same_class y) (same_class (i.moved y)) xs k
      (λ z l. i.same_moved y z h l)

  pub below_moved : (x y : ClassId) → i.kept x ≡ true → i.kept y ≡ true
      → is_below b (i.moved x) (i.moved y) ≡ is_below a x y
  below_moved x y k h =
      ap (λ t. list_any (same_class (i.moved y)) (t ++ superinterfaces b (i.moved x))) (superclasses_moved x k)
      ∙ ap (λ t. list_any (same_class (i.moved y)) (map i.moved (superclasses_from a x) ++ t))
      (superinterfaces_moved x k)
      ∙ ap (list_any (same_class (i.moved y)))
      (sym (map-append i.moved (superclasses_from a x) (superinterfaces a x)))
      ∙ among_moved (superclasses_from a x ++ superinterfaces a x) y
      (all_append (λ x. i.kept x ≡ true) (superclasses_from a x) (superinterfaces a x)
      (superclasses_kept x k) (superinterfaces_kept x k)) h

-- In an image that keeps the roles of members a method overrides what it overrode, so it overrides none that may not be
-- (JVMS 4.10, 5.4.5).
use Rattle.std.proofs.Common.{◌≡◌, ℕ, zero, suc, not, ◌&&◌, ◌||◌, Bool, true, false, cond, List, [], ◌∷◌, ◌++◌}
use Rattle.std.proofs.Common.{Option, Some, None, refl, sym, ap, ◌∙◌}
use Rattle.std.specs.List.{AllByRecursion, cons_option, flat_map, list_any}
use Rattle.std.specs.Option.{option_map, option_map_or}
use Rattle.std.proofs.lemmas.Bool.{and_parts}
use Rattle.class_model.specs.Flags.{acc_final}
use Rattle.class_model.specs.declared.class.Class.{Class}
use Rattle.lib_table.specs.declared.member.Role.{Role}
use Rattle.class_pool.specs.Found.{NameAndType, declared_by, is_final_member, is_instance_method}
use Rattle.class_pool.specs.Found.{is_private_member, named_at, role_at, same_member}
use Rattle.class_pool.specs.Hierarchy.{IsClass, superclass}
use Rattle.class_pool.specs.Members.{declared_at}
use Rattle.class_pool.specs.Resolution.{is_interface_in}
use Rattle.class_pool.specs.Selection.{may_be_overridden, may_override, overrides, overriding}
use Rattle.class_pool.specs.Walk.{highest, same_class, superclasses_from, upwards}
use Rattle.class_pool.specs.declared.id.ClassId.{ClassId}
use Rattle.class_pool.specs.declared.id.MemberAt.{MemberAt}
use Rattle.class_pool.proofs.EachOnce.{same_is}
use Rattle.link_check.specs.Profile.{may_be_overridden_role, overridden_kinds, unless}
use Rattle.link_check.specs.declared.fault.ProfileKind.{ProfileKind}
use Rattle.link_check.specs.declared.fault.ProfileKind.TheVariants.{LeftOutMember, WrongKind}
use Rattle.image_laws.specs.SetImage.Image.{Image, IsProperSet, SelectedKept}
use Rattle.image_laws.proofs.SetImage.Access.{overrides_moved}
use Rattle.image_laws.proofs.SetImage.Finding.{declared_moved, members_moved}
use Rattle.image_laws.proofs.SetImage.Walks.{superclasses_kept, superclasses_moved}
use Rattle.image_laws.proofs.TakenSet.Rows.{none_each}

-- ---- no method of an interface overrides another one (JVMS 5.4.5)

module _ (classes : List Class) (m above : MemberAt) (interface : is_interface_in classes m.class ≡ true)
    (other : same_class m.class above.class ≡ false) where
  differs : (x : MemberAt) (t : Bool) → same_member m x ≡ t → same_member x above ≡ true → t ≡ false
  differs x false e h = refl
  differs x true e h = absurd
      (let one = same_is m.class x.class (and_parts (same_class m.class x.class) _ e).0 in
      let two = (and_parts (same_class x.class above.class) _ h).0 in
      let q : true ≡ false = sym two ∙ ap (λ (c : ClassId). same_class c above.class) (sym one) ∙ other in
      cc)

  of_interface : (x : MemberAt) (t : Bool) → same_member m x ≡ t → may_override classes x ≡ true → t ≡ false
  of_interface x false e h = refl
  of_interface x true e h = absurd
      (let one = same_is m.class x.class (and_parts (same_class m.class x.class) _ e).0 in
      let last = (and_parts (is_instance_method classes x && not (is_private_member classes x))
      (not (is_interface_in classes x.class)) h).1 in
      let q : not true ≡ true =
      ap not (sym interface ∙ ap (is_interface_in classes) one) ∙ last in
      cc)

  either_one : (a b c : Bool) → (a || (b && c)) ≡ true → (a ≡ false) → b ≡ true
  either_one true b c h e = absurd cc
  either_one false true c h e = refl
  either_one false false c h e = absurd cc

  not_among : (ms : List MemberAt) → list_any (same_member m) (overriding classes above ms) ≡ false
  not_among [] = refl
  not_among (x ∷ xs) =
      by (same_member x above || (may_override classes x
      && list_any (may_be_overridden classes x.class) (overriding classes above xs))) refl (not_among xs)
    where
      first : (a : Bool) → same_member x above ≡ a
          → (a || (may_override classes x
          && list_any (may_be_overridden classes x.class) (overriding classes above xs))) ≡ true
          → same_member m x ≡ false
      first true e h = differs x (same_member m x) refl e
      first false e h = of_interface x (same_member m x) refl
          (either_one false (may_override classes x)
          (list_any (may_be_overridden classes x.class) (overriding classes above xs)) h refl)

      by : (t : Bool) → (same_member x above || (may_override classes x
          && list_any (may_be_overridden classes x.class) (overriding classes above xs))) ≡ t
          → list_any (same_member m) (overriding classes above xs) ≡ false
          → list_any (same_member m) (cond t (x ∷ overriding classes above xs) (overriding classes above xs)) ≡ false
      by true e r = ap (λ (b : Bool). b || list_any (same_member m) (overriding classes above xs))
          (first (same_member x above) refl e) ∙ r
      by false e r = r

  none_overrides : overrides classes m above ≡ false
  none_overrides = not_among (declared_by classes (named_at classes above) (superclasses_from classes m.class))

module _ (a b : List Class) (i : Image a b) (proper : IsProperSet a) (rule : SelectedKept a b i)
    (roles : (m : MemberAt) → role_at (i.moved_member m) ≡ role_at m) where
  -- ---- superclasses of a class are no interfaces

  abbrev NoInterfaces : List ClassId → Type 0
  NoInterfaces cs = AllByRecursion (λ x. is_interface_in a x ≡ false) cs

  upwards_are : (n : ℕ) (x : ClassId) → is_interface_in a x ≡ false → NoInterfaces (upwards n a x)
  unfolding upwards
  upwards_are zero x h = tt
  upwards_are (suc n) x h = (h, by (superclass a x) refl (λ y e. upwards_are n y (proper.superclasses x y e)))
    where
      by : (o : Option ClassId) → superclass a x ≡ o
          → ((y : ClassId) → superclass a x ≡ Some y → NoInterfaces (upwards n a y))
          → NoInterfaces (option_map_or (upwards n a) o [])
      by None e r = tt
      by (Some y) e r = r y e

  -- ---- one method above

  -- two members are of one class where they were
  one_class : (m above : MemberAt) → i.kept_member m ≡ true → i.kept_member above ≡ true
      → same_class (i.moved_member m).class (i.moved_member above).class ≡ same_class m.class above.class
  one_class m above k h =
      (λ j. same_class (i.class_moved m j) (i.class_moved above j))
      ∙ i.same_moved m.class above.class (i.class_kept m k) (i.class_kept above h)

  overrides_same : (m above : MemberAt) → IsClass a m.class → i.kept_member m ≡ true → i.kept_member above ≡ true
      → same_class m.class above.class ≡ false
      → (is_interface_in a m.class ≡ false → is_interface_in a above.class ≡ false)
      → overrides b (i.moved_member m) (i.moved_member above) ≡ overrides a m above
  overrides_same m above there k h other kinds = by (is_interface_in a m.class) refl
    where
      by : (t : Bool) → is_interface_in a m.class ≡ t
          → overrides b (i.moved_member m) (i.moved_member above) ≡ overrides a m above
      by false e = overrides_moved a b i proper rule m above there k h e (kinds e)
      by true e =
          none_overrides b (i.moved_member m) (i.moved_member above)
          (ap (is_interface_in b) (i.class_moved m) ∙ i.interface_moved m.class (i.class_kept m k) ∙ e)
          (one_class m above k h ∙ other)
          ∙ sym (none_overrides a m above e other)

  -- what is due where a method overrides one of this kind
  abbrev due : Bool → Bool → Role → List ProfileKind
  due overrides final role =
      cond overrides (unless (not final) WrongKind ++ unless (may_be_overridden_role role) LeftOutMember) []

  overridden_right : (m above : MemberAt) → IsClass a m.class → i.kept_member m ≡ true → i.kept_member above ≡ true
      → (is_interface_in a m.class ≡ false → is_interface_in a above.class ≡ false)
      → overridden_kinds a m above ≡ [] → overridden_kinds b (i.moved_member m) (i.moved_member above) ≡ []
  overridden_right m above there k h kinds none =
      ap (λ (t : Bool). due (not t && overrides b (i.moved_member m) (i.moved_member above))
      (is_final_member b (i.moved_member above)) (role_at (i.moved_member above))) (one_class m above k h)
      ∙ ap (λ (t : Bool). due (not (same_class m.class above.class)
      && overrides b (i.moved_member m) (i.moved_member above)) t (role_at (i.moved_member above)))
      (i.flag_moved acc_final above h)
      ∙ ap (λ (r : Role). due (not (same_class m.class above.class)
      && overrides b (i.moved_member m) (i.moved_member above)) (is_final_member a above) r) (roles above)
      ∙ by (same_class m.class above.class) refl
    where
      by : (t : Bool) → same_class m.class above.class ≡ t
          → due (not (same_class m.class above.class) && overrides b (i.moved_member m) (i.moved_member above))
          (is_final_member a above) (role_at above) ≡ []
      by true e = ap (λ (t : Bool). due (not t && overrides b (i.moved_member m) (i.moved_member above))
          (is_final_member a above) (role_at above)) e
      by false e = ap (λ (t : Bool). due (not (same_class m.class above.class) && t)
          (is_final_member a above) (role_at above)) (overrides_same m above there k h e kinds) ∙ none

  -- ---- all methods above

  abbrev IsRight : MemberAt → MemberAt → Type 0
  IsRight m above = (is_interface_in a m.class ≡ false → is_interface_in a above.class ≡ false)
      × (overridden_kinds a m above ≡ [])

  each_right : (m : MemberAt) → IsClass a m.class → i.kept_member m ≡ true → (ms : List MemberAt)
      → AllByRecursion (IsRight m) ms
      → flat_map (overridden_kinds b (i.moved_member m)) (members_moved a b i ms) ≡ []
  each_right m there k [] h = refl
  each_right m there k (x ∷ xs) h = by (i.kept_member x) refl (each_right m there k xs h.1)
    where
      by : (t : Bool) → i.kept_member x ≡ t
          → flat_map (overridden_kinds b (i.moved_member m)) (members_moved a b i xs) ≡ []
          → flat_map (overridden_kinds b (i.moved_member m))
          (cons_option (cond t (Some (i.moved_member x)) None) (members_moved a b i xs)) ≡ []
      by true e r =
          ap (λ (t : List ProfileKind). t ++ flat_map (overridden_kinds b (i.moved_member m)) (members_moved a b i xs))
          (overridden_right m x there k e h.0.0 h.0.1) ∙ r
      by false e r = r

  -- what classes declare is of them
  declared_are : (P : ClassId → Type 0) (n : NameAndType) (cs : List ClassId) → AllByRecursion P cs
      → AllByRecursion (λ (m : MemberAt). P m.class) (declared_by a n cs)
  declared_are P n [] h = tt
  declared_are P n (x ∷ cs) h = by (declared_at a x n.0 n.1) (declared_are P n cs h.1)
    where
      by : (o : Option ℕ) → AllByRecursion (λ (m : MemberAt). P m.class) (declared_by a n cs)
          → AllByRecursion (λ (m : MemberAt). P m.class)
          (cons_option (option_map (λ k. record { class = x; index = k }) o) (declared_by a n cs))
      by None r = r
      by (Some k) r = (h.0, r)

  both : (m : MemberAt) (ms : List MemberAt)
      → AllByRecursion (λ (z : MemberAt). is_interface_in a m.class ≡ false → is_interface_in a z.class ≡ false) ms
      → AllByRecursion (λ z. overridden_kinds a m z ≡ []) ms → AllByRecursion (IsRight m) ms
  both m [] h k = tt
  both m (x ∷ xs) h k = ((h.0, k.0), both m xs h.1 k.1)

  supers_are : (x : ClassId)
      → AllByRecursion (λ y. is_interface_in a x ≡ false → is_interface_in a y ≡ false) (superclasses_from a x)
  supers_are x = by (superclasses_from a x) (λ e. upwards_are highest x e)
    where
      by : (cs : List ClassId) → (is_interface_in a x ≡ false → NoInterfaces cs)
          → AllByRecursion (λ y. is_interface_in a x ≡ false → is_interface_in a y ≡ false) cs
      by [] h = tt
      by (y ∷ cs) h = ((λ f. (h f).0), by cs (λ f. (h f).1))

  -- a kept method that breaks no rule by what it overrides breaks none in the image
  pub overriding_right : (m : MemberAt) → IsClass a m.class → i.kept_member m ≡ true
      → flat_map (overridden_kinds a m) (declared_by a (named_at a m) (superclasses_from a m.class)) ≡ []
      → flat_map (overridden_kinds b (i.moved_member m))
      (declared_by b (named_at b (i.moved_member m)) (superclasses_from b (i.moved m.class))) ≡ []
  overriding_right m there k none =
      let class = i.class_kept m k in
      let line = declared_by a (named_at a m) (superclasses_from a m.class) in
      ap (λ cs. flat_map (overridden_kinds b (i.moved_member m)) (declared_by b (named_at b (i.moved_member m)) cs))
      (superclasses_moved a b i m.class class)
      ∙ ap (flat_map (overridden_kinds b (i.moved_member m)))
      (declared_moved a b i (named_at a m) (named_at b (i.moved_member m)) (i.name_moved m k)
      (superclasses_from a m.class) (superclasses_kept a b i m.class class))
      ∙ each_right m there k line
      (both m line (declared_are (λ y. is_interface_in a m.class ≡ false → is_interface_in a y ≡ false)
      (named_at a m) (superclasses_from a m.class) (supers_are m.class))
      (none_each (overridden_kinds a m) line none))

-- What a class finds is declared under the name that was looked for, by a class that is there.
use Rattle.std.proofs.Common.{◌≡◌, ◌<◌, ◌≤◌, ⊎_elim, ℕ, not, ◌&&◌, ◌||◌, Bool, true, false, cond, List, [], ◌∷◌, length}
use Rattle.std.proofs.Common.{Option, Some, None, slice_get, refl, sym, ap, subst}
use Rattle.std.specs.Prelude.{IfSome, codes}
use Rattle.std.specs.List.{AllByRecursion, cons_option, filter, find, list_any}
use Rattle.std.specs.Option.{option_and_then, option_map, option_or}
use Rattle.std.proofs.lemmas.Bool.{cases_lt}
use Rattle.std.proofs.lemmas.List.{get_or_past}
use Rattle.std.proofs.lemmas.Option.{slice_get_within}
use Rattle.class_model.specs.declared.class.Class.{Class}
use Rattle.class_model.specs.Flags.{is_init}
use Rattle.lib_table.specs.Library.{LibraryClass, class, library}
use Rattle.lib_table.specs.declared.class.LibKind.TheVariants.{Open}
use Rattle.lib_table.specs.Lookups as table
use Rattle.class_pool.specs.Found.{NameAndType, declared_by, declared_in, is_instance_method, is_public_member}
use Rattle.class_pool.specs.Found.{is_static_member, named_at, same_member}
use Rattle.class_pool.specs.Hierarchy.{IsClass, class_named, superclass}
use Rattle.class_pool.specs.Members.{declared_at, member_named}
use Rattle.class_pool.specs.Resolution.{chosen, class_method_found, field_found, field_order, first, first_declared}
use Rattle.class_pool.specs.Resolution.{interface_method_found, is_interface_in, is_open, method_found, object_method}
use Rattle.class_pool.specs.Resolution.{superinterface_methods}
use Rattle.class_pool.specs.Selection.{first_instance, may_be_overridden, may_override, overriding, overriding_from}
use Rattle.class_pool.specs.Selection.{selected, selected_special}
use Rattle.class_pool.specs.Walk.{same_class, superclasses_from, superinterfaces}
use Rattle.class_pool.specs.declared.id.ClassId.{ClassId}
use Rattle.class_pool.specs.declared.id.ClassId.TheVariants.{Prog, Lib}
use Rattle.class_pool.specs.declared.id.MemberAt.{MemberAt}
use Rattle.image_laws.specs.SetImage.Image.{AreAbstract}
use Rattle.image_laws.proofs.SetImage.Finding.{chosen_first}

module _ (a : List Class) where
  -- the class of the member declares it under this name
  abbrev pub Stands : NameAndType → MemberAt → Type 0
  Stands n m = declared_in a n m.class ≡ Some m

  declared_all : (n : NameAndType) (cs : List ClassId) → AllByRecursion (Stands n) (declared_by a n cs)
  declared_all n [] = tt
  declared_all n (c ∷ cs) = by (declared_at a c n.0 n.1) refl (declared_all n cs)
    where
      by : (o : Option ℕ) → declared_at a c n.0 n.1 ≡ o → AllByRecursion (Stands n) (declared_by a n cs)
          → AllByRecursion (Stands n) (cons_option (option_map (λ k. record { class = c; index = k }) o)
          (declared_by a n cs))
      by None e r = r
      by (Some k) e r = (ap (option_map (λ k. record { class = c; index = k })) e, r)

  pub first_all : (P : MemberAt → Type 0) (ms : List MemberAt) → AllByRecursion P ms → IfSome (first ms) P
  first_all P [] h = tt
  first_all P (m ∷ ms) h = h.0

  pub find_all : (P : MemberAt → Type 0) (t : MemberAt → Bool) (ms : List MemberAt) → AllByRecursion P ms
      → IfSome (find t ms) P
  find_all P t [] h = tt
  find_all P t (m ∷ ms) h = by (t m) (find_all P t ms h.1)
    where
      by : (b : Bool) → IfSome (find t ms) P → IfSome (cond b (Some m) (find t ms)) P
      by true r = h.0
      by false r = r

  pub filter_all : (P : MemberAt → Type 0) (t : MemberAt → Bool) (ms : List MemberAt) → AllByRecursion P ms
      → AllByRecursion P (filter t ms)
  filter_all P t [] h = tt
  filter_all P t (m ∷ ms) h = by (t m) (filter_all P t ms h.1)
    where
      by : (b : Bool) → AllByRecursion P (filter t ms) → AllByRecursion P (cond b (m ∷ filter t ms) (filter t ms))
      by true r = (h.0, r)
      by false r = r

  pub overriding_all : (P : MemberAt → Type 0) (m : MemberAt) (ms : List MemberAt) → AllByRecursion P ms
      → AllByRecursion P (overriding a m ms)
  overriding_all P m [] h = tt
  overriding_all P m (z ∷ ms) h =
      by (same_member z m || (may_override a z && list_any (may_be_overridden a z.class) (overriding a m ms)))
      (overriding_all P m ms h.1)
    where
      by : (b : Bool) → AllByRecursion P (overriding a m ms)
          → AllByRecursion P (cond b (z ∷ overriding a m ms) (overriding a m ms))
      by true r = (h.0, r)
      by false r = r

  or_all : (P : MemberAt → Type 0) (o q : Option MemberAt) → IfSome o P → IfSome q P → IfSome (option_or o q) P
  or_all P None q h k = k
  or_all P (Some m) q h k = h

  pub field_stands : (n : NameAndType) (c : ClassId) → IfSome (field_found a c n) (Stands n)
  field_stands n c = first_all (Stands n) (declared_by a n (field_order a c)) (declared_all n (field_order a c))

  object_stands : (n : NameAndType) → IfSome (object_method a n) (Stands n)
  object_stands n = by (class_named a (codes "java/lang/Object"))
    where
      by : (o : Option ClassId)
          → IfSome (option_and_then (λ object. find (λ m. is_public_member a m && not (is_static_member a m))
          (declared_by a n (object ∷ []))) o)
          (Stands n)
      by None = tt
      by (Some c) = find_all (Stands n) (λ m. is_public_member a m && not (is_static_member a m))
          (declared_by a n (c ∷ [])) (declared_all n (c ∷ []))

  pub declared_stands : (n : NameAndType) (c : ClassId) → IfSome (declared_in a n c) (Stands n)
  declared_stands n c = at (declared_at a c n.0 n.1) refl
    where
      at : (o : Option ℕ) → declared_at a c n.0 n.1 ≡ o
          → IfSome (option_map (λ k. record { class = c; index = k }) o) (Stands n)
      at None e = tt
      at (Some k) e = ap (option_map (λ k. record { class = c; index = k })) e

  pub method_stands : AreAbstract a → (n : NameAndType) (c : ClassId) → IfSome (method_found a c n) (Stands n)
  method_stands no_bodies n c = by (is_interface_in a c)
    where
      inherited : IfSome (chosen a (superinterface_methods a c n)) (Stands n)
      inherited =
          subst (λ o. IfSome o (Stands n)) (sym (chosen_first a (superinterface_methods a c n) (no_bodies c n)))
          (first_all (Stands n) (superinterface_methods a c n)
          (filter_all (Stands n) (is_open a) (declared_by a n (superinterfaces a c))
          (declared_all n (superinterfaces a c))))

      by : (t : Bool) → IfSome (cond t (interface_method_found a c n) (class_method_found a c n)) (Stands n)
      by true =
          or_all (Stands n) (declared_in a n c) (option_or (object_method a n)
          (chosen a (superinterface_methods a c n)))
          (declared_stands n c)
          (or_all (Stands n) (object_method a n) (chosen a (superinterface_methods a c n)) (object_stands n) inherited)
      by false =
          or_all (Stands n) (first_declared a n (superclasses_from a c)) (chosen a (superinterface_methods a c n))
          (first_all (Stands n) (declared_by a n (superclasses_from a c))
          (declared_all n (superclasses_from a c))) inherited

  instance_stands : (n : NameAndType) (c : ClassId) → IfSome (first_instance a c n) (Stands n)
  instance_stands n c = find_all (Stands n) (is_instance_method a) (declared_by a n (superclasses_from a c))
      (declared_all n (superclasses_from a c))

  pub selected_stands : (x : ClassId) (m : MemberAt) → IfSome (selected a x m) (Stands (named_at a m))
  selected_stands x m = by (is_interface_in a m.class)
    where
      by : (t : Bool)
          → IfSome (cond t (first_instance a x (named_at a m)) (first (overriding_from a x m))) (Stands (named_at a m))
      by true = instance_stands (named_at a m) x
      by false =
          first_all (Stands (named_at a m)) (overriding_from a x m)
          (overriding_all (Stands (named_at a m)) m (declared_by a (named_at a m) (superclasses_from a x))
          (declared_all (named_at a m) (superclasses_from a x)))

  pub special_stands : (from named : ClassId) (m : MemberAt) → Stands (named_at a m) m
      → IfSome (selected_special a from named m) (Stands (named_at a m))
  special_stands from named m h = by (is_init (named_at a m).0) (same_class from named) (superclass a from)
    where
      up : (o : Option ClassId) → IfSome (option_and_then (λ above. first_instance a above (named_at a m)) o)
          (Stands (named_at a m))
      up None = tt
      up (Some c) = instance_stands (named_at a m) c

      by : (s t : Bool) (o : Option ClassId)
          → IfSome
          (cond s (Some m) (cond t (first_instance a from (named_at a m))
          (option_and_then (λ above. first_instance a above (named_at a m)) o)))
          (Stands (named_at a m))
      by true t o = h
      by false true o = instance_stands (named_at a m) from
      by false false o = up o

  -- so its class is there
  pub class_there : (n : NameAndType) (c : ClassId) (m : MemberAt) → declared_in a n c ≡ Some m → IsClass a c
  class_there n (Prog k) m e = by (slice_get a k) refl e
    where
      by : (o : Option Class) → slice_get a k ≡ o
          → option_map (λ j. record { class = Prog k; index = j }) (option_and_then (λ c. member_named c n.0 n.1) o)
          ≡ Some m
          → k < length a
      by None is e = absurd cc
      by (Some c) is e = slice_get_within a k c is
  class_there n (Lib id) m e =
      ⊎_elim (λ low. low) (λ high. absurd (none (declared_at a (Lib id) n.0 n.1) (past high) e))
      (cases_lt id (length library))
    where
      past : length library ≤ id → declared_at a (Lib id) n.0 n.1 ≡ None
      past high =
          ap (λ (t : LibraryClass). option_map (λ told. told.at) (table.member_named t.members n.0 n.1))
          (get_or_past library id (class [] Open None [] []) high)

      none : (o : Option ℕ) → o ≡ None → option_map (λ j. record { class = Lib id; index = j }) o ≡ Some m → ⊥
      none None is e = let q : None ≡ Some m = e in cc
      none (Some k) is e = cc

-- Superclasses in a set that is taken: chains of them, and where they end (JVMS 4.1).
use Rattle.std.proofs.Common.{◌≡◌, ◌⊎◌, ◌<◌, ◌≤◌, ◌&&◌, ◌||◌, inl, inr, ⊎_elim, ℕ, zero, suc, not, Bool, true, false}
use Rattle.std.proofs.Common.{List, [], ◌∷◌, length, Option, Some, None, Result, Ok, Err, slice_get, refl, sym}
use Rattle.std.proofs.Common.{ap, subst, ◌∙◌, arith, codes}
use Rattle.std.specs.Prelude.{◌==◌, IfSome}
use Rattle.std.specs.List.{AllByRecursion, cons_option, filter_map, flat_map, list_all, list_any}
use Rattle.std.specs.Option.{option_and_then, option_map, option_map_or}
use Rattle.std.proofs.lemmas.Bool.{and_parts, cases_lt, eqb-true, not-false, or_cases, or_parts}
use Rattle.std.proofs.lemmas.Option.{get_or_from_slice_get, slice_get_cases, slice_get_within}
use Rattle.jv_base.specs.Names.{is_text}
use Rattle.jv_base.proofs.Equality.{same_text}
use Rattle.jv_base.proofs.Lists.{all_append}
use Rattle.class_model.specs.Flags.{is_interface}
use Rattle.class_model.specs.declared.class.Class.{Class}
use Rattle.lib_table.specs.Library.{LibraryClass, class, library}
use Rattle.lib_table.proofs.Computed.{count}
use Rattle.lib_table.specs.Lookups as table
use Rattle.lib_table.specs.declared.class.LibKind.TheVariants.{Open}
use Rattle.class_pool.specs.Faults.{classes_of, is_super_missing, is_super_wrong, is_wrong_interface}
use Rattle.class_pool.specs.Faults.{is_wrong_superclass, name_faults, super_fault, super_faults, then_super_faults}
use Rattle.class_pool.specs.Hierarchy.{IsClass, class_named, classes_named, interfaces, is_interface_kind, is_open_kind}
use Rattle.class_pool.specs.Hierarchy.{kind_in, kind_of, superclass, superclass_of}
use Rattle.class_pool.specs.Ranks.{HasObject}
use Rattle.class_pool.specs.Resolution.{is_class_below, is_interface_in}
use Rattle.class_pool.specs.Walk.{highest, own_superinterfaces, same_class, superclasses_from, superinterfaces}
use Rattle.class_pool.specs.Walk.{walked}
use Rattle.class_pool.specs.bodies.Graph.{library_ids}
use Rattle.class_pool.specs.declared.fault.NamedClass.{NamedClass}
use Rattle.class_pool.specs.declared.fault.PoolFault.{PoolFault}
use Rattle.class_pool.specs.declared.id.ClassId.{ClassId}
use Rattle.class_pool.specs.declared.id.ClassId.TheVariants.{Prog, Lib}
use Rattle.class_pool.proofs.Declaring.{superclass_there}
use Rattle.class_pool.proofs.EachOnce.{same_is}
use Rattle.class_pool.proofs.FaultLaws.{none_at}
use Rattle.class_pool.proofs.ObjectLaws.{at_row, free_name, has_object, interface_flag as flag_of, when}
use Rattle.class_pool.proofs.Walking.{first_of, superclasses_next}
use Rattle.class_pool.proofs.Within.{in_first, up_first}
use Rattle.image_laws.specs.TakenSet.TakenSet.{IsTaken}
use Rattle.image_laws.proofs.TakenSet.LibraryRows.{interface_kinds, past_last}
use Rattle.image_laws.proofs.TakenSet.Names.{object_named}
use Rattle.image_laws.proofs.TakenSet.Proper.{is_proper, names_right}

-- ---- what building says of direct supertypes

rounds : (files : List NamedClass) (r : Result (Unit {0}) PoolFault) → name_faults files ≡ r
    → then_super_faults files r ≡ Ok tt → super_faults (classes_of files) ≡ Ok tt
rounds files (Ok t) e h = h
rounds files (Err f) e h = absurd cc

-- ---- the library's table

rows_interface : list_all (λ id. not (is_interface_kind (table.class_at id).kind)
    || option_map_or (λ s. s == 0) (table.super_of id) false) library_ids ≡ true
unfolding library
rows_interface = refl

rows_open : list_all (λ id. option_map_or (λ s. is_open_kind (table.class_at s).kind) (table.super_of id) true)
    library_ids ≡ true
unfolding library
rows_open = refl

-- what holds of each class of the table, and of what is past it
pub row_or_past : (p : LibraryClass → Bool) → list_all (λ id. p (table.class_at id)) library_ids ≡ true
    → p (class [] Open None [] []) ≡ true → (id : ℕ) → p (table.class_at id) ≡ true
row_or_past p all past id = ⊎_elim
    (λ low. at_row (λ k. p (table.class_at k)) id all low)
    (λ high. ap p (past_last id high) ∙ past)
    (cases_lt id (length library))

module _ (classes : List Class) (t : IsTaken classes) where
  supers_right : super_faults classes ≡ Ok tt
  supers_right = subst (λ cs. super_faults cs ≡ Ok tt) (sym t.built.2)
      (rounds t.files (name_faults t.files) refl t.built.0)

  pub few : length classes ≤ 4294967295
  few = (is_proper classes t).few

  -- the supertypes of a class of the set are of their kinds
  not_wrong : (n : ℕ) (c : Class) → slice_get classes n ≡ Some c → is_super_wrong classes c ≡ false
  not_wrong n c is =
      let none : super_fault classes c ≡ None =
      sym (ap (super_fault classes) (get_or_from_slice_get classes n c c is))
      ∙ none_at (λ (x : Class). x) (super_fault classes) classes n c supers_right (slice_get_within classes n c is) in
      free_name (is_super_missing classes c) (is_super_wrong classes c) _ _ none

  abbrev Flagged : Class → Bool
  Flagged c = is_interface c.flags.0 && not (is_text c.super_name (codes "java/lang/Object"))

  pub record Rights (c : Class) : Type 0 where
    pub superclass : is_wrong_superclass classes c ≡ false
    pub interfaces : list_any (is_wrong_interface classes) c.interfaces ≡ false
    pub flagged : Flagged c ≡ false

  rights : (n : ℕ) (c : Class) → slice_get classes n ≡ Some c → Rights c
  rights n c is =
      let outer = or_parts (is_wrong_superclass classes c || list_any (is_wrong_interface classes) c.interfaces)
      (Flagged c) (not_wrong n c is) in
      let inner = or_parts (is_wrong_superclass classes c) (list_any (is_wrong_interface classes) c.interfaces) outer.0
      in
      record { superclass = inner.0; interfaces = inner.1; flagged = outer.1 }

  -- ---- superclasses

  -- a superclass may have subclasses (JVMS 4.10)
  pub superclass_open : (x y : ClassId) → superclass classes x ≡ Some y → is_open_kind (kind_in classes y) ≡ true
  superclass_open (Prog n) y = by (slice_get classes n) refl where
    by : (o : Option Class) → slice_get classes n ≡ o → option_and_then (superclass_of classes) o ≡ Some y
        → is_open_kind (kind_in classes y) ≡ true
    by None is e = absurd cc
    by (Some c) is e = not-false (is_open_kind (kind_in classes y))
        (sym (ap (λ o. option_map_or (λ id. not (is_open_kind (kind_in classes id))) o false) e)
        ∙ (rights n c is).superclass)
  superclass_open (Lib id) y = by (table.super_of id) refl where
    open_row : (s : ℕ) → table.super_of id ≡ Some s → is_open_kind (table.class_at s).kind ≡ true
    open_row s is = sym (ap (λ o. option_map_or (λ k. is_open_kind (table.class_at k).kind) o true) is)
        ∙ row_or_past (λ (c : LibraryClass). option_map_or (λ k. is_open_kind (table.class_at k).kind)
        (option_and_then table.class_named c.super_name) true) rows_open refl id

    by : (o : Option ℕ) → table.super_of id ≡ o → option_map Lib o ≡ Some y
        → is_open_kind (kind_in classes y) ≡ true
    by None is e = absurd cc
    by (Some s) is e = let same : Lib s ≡ y = cc in
        subst (λ z. is_open_kind (kind_in classes z) ≡ true) same (open_row s is)

  interface_flag : (n : ℕ) (c : Class) → slice_get classes n ≡ Some c → is_interface_in classes (Prog n) ≡ true
      → is_interface c.flags.0 ≡ true
  interface_flag n c is h = flag_of c
      (sym (ap (λ o. is_interface_kind (option_map_or kind_of o Open)) is) ∙ h)

  no_class : (n : ℕ) → slice_get classes n ≡ None → n < length classes → ⊥
  no_class n is low = ⊎_elim (λ p. none p.0 (sym is ∙ p.2)) (λ p. let high = p.0 in omega (arith, low, high))
      (slice_get_cases classes n).1
    where
      none : (c : Class) → None ≡ Some c → ⊥
      none c e = cc

  -- the superclass of an interface is Object (JVMS 4.1)
  pub interface_super : (x : ClassId) → IsClass classes x → is_interface_in classes x ≡ true
      → superclass classes x ≡ Some (Lib 0)
  interface_super (Prog n) there h = by (slice_get classes n) refl where
    unflagged : (p q : Bool) → p ≡ true → (p && not q) ≡ false → q ≡ true
    unflagged true true e f = refl
    unflagged true false e f = absurd cc
    unflagged false q e f = absurd cc

    by : (o : Option Class) → slice_get classes n ≡ o → option_and_then (superclass_of classes) o ≡ Some (Lib 0)
    by None is = absurd (no_class n is there)
    by (Some c) is =
        let named : c.super_name ≡ codes "java/lang/Object" =
        same_text c.super_name (codes "java/lang/Object") (unflagged (is_interface c.flags.0)
        (is_text c.super_name (codes "java/lang/Object")) (interface_flag n c is h) (rights n c is).flagged) in
        ap (class_named classes) named ∙ object_named classes t
  interface_super (Lib id) there h = by (table.super_of id) refl where
    row : option_map_or (λ s. s == 0) (table.super_of id) false ≡ true
    row = when (is_interface_kind (table.class_at id).kind) _ h
        (at_row (λ k. not (is_interface_kind (table.class_at k).kind)
        || option_map_or (λ s. s == 0) (table.super_of k) false) id rows_interface there)

    by : (o : Option ℕ) → table.super_of id ≡ o → option_map Lib o ≡ Some (Lib 0)
    by None is = absurd (never (sym (ap (λ o. option_map_or (λ s. s == 0) o false) is) ∙ row)) where
      never : false ≡ true → ⊥
      never e = cc
    by (Some s) is = ap (λ k. Some (Lib k)) (eqb-true s 0
        (sym (ap (λ o. option_map_or (λ s. s == 0) o false) is) ∙ row))

  -- no superclass is an interface
  pub superclass_class : (x y : ClassId) → superclass classes x ≡ Some y → is_interface_in classes y ≡ false
  superclass_class x y h = (is_proper classes t).superclasses x y h

  -- ---- chains

  abbrev pub Below : ClassId → ClassId → Type 0
  Below x y = is_class_below classes x y ≡ true

  pub below_itself : (x : ClassId) → Below x x
  below_itself x = subst (λ xs. list_any (same_class x) xs ≡ true) (sym (up_first classes x)) (in_first x _)

  rank_low : (x : ClassId) → IsClass classes x → t.ranks.rank x < 8589934592
  rank_low x there = let most = t.ranks.most x there in let low = few in omega (arith, most, low, count)

  -- a class, and then those from its superclass on
  pub next : (x : ClassId) → IsClass classes x
      → superclasses_from classes x ≡ x ∷ option_map_or (superclasses_from classes) (superclass classes x) []
  next x there = superclasses_next classes t.ranks.rank x t.ranks.falls there (rank_low x there)

  super_falls : (x y : ClassId) → IsClass classes x → superclass classes x ≡ Some y
      → IsClass classes y × (t.ranks.rank y < t.ranks.rank x)
  super_falls x y there e = (
    subst (λ o. IfSome o (IsClass classes)) e (superclass_there classes x),
    subst (λ o. IfSome o (λ b. t.ranks.rank b < t.ranks.rank x)) e
        (first_of (λ b. t.ranks.rank b < t.ranks.rank x) (superclass classes x) (interfaces classes x)
        (t.ranks.falls x there)),
  )

  pub super_there : (x y : ClassId) → IsClass classes x → superclass classes x ≡ Some y → IsClass classes y
  super_there x y there e = (super_falls x y there e).0

  -- what holds of a class where it holds of its superclass, if it has one, holds of each
  pub climb : (P : ClassId → Type 0)
      → ((x : ClassId) → IsClass classes x → ((y : ClassId) → superclass classes x ≡ Some y → P y) → P x)
      → (x : ClassId) → IsClass classes x → P x
  climb P step x there = go (suc (t.ranks.rank x)) x there (omega arith) where
    go : (n : ℕ) (x : ClassId) → IsClass classes x → t.ranks.rank x < n → P x
    go zero x there low = absurd (omega (arith, low))
    go (suc n) x there low = step x there
        (λ y e. let f = super_falls x y there e in let less = f.1 in go n y f.0 (omega (arith, less, low)))

  -- one class is another, or one below its superclass is
  pub below_cases : (x y : ClassId) → IsClass classes x → Below x y
      → (x ≡ y) ⊎ ((s : ClassId) × (superclass classes x ≡ Some s) × IsClass classes s × Below s y)
  below_cases x y there h = ⊎_elim
      (λ e. inl (sym (same_is y x e)))
      (λ e. inr (by (superclass classes x) refl e))
      (or_cases (same_class y x) (list_any (same_class y) (rest (superclass classes x)))
      (sym (ap (list_any (same_class y)) (next x there)) ∙ h))
    where
      rest : Option ClassId → List ClassId
      rest o = option_map_or (superclasses_from classes) o []

      by : (o : Option ClassId) → superclass classes x ≡ o → list_any (same_class y) (rest o) ≡ true
          → (s : ClassId) × (superclass classes x ≡ Some s) × IsClass classes s × Below s y
      by None e h = absurd cc
      by (Some s) e h = (s, e, (super_falls x s there e).0, h)

  pub below_super : (x s y : ClassId) → IsClass classes x → superclass classes x ≡ Some s → Below s y → Below x y
  below_super x s y there e h = ap (list_any (same_class y)) (next x there)
      ∙ ap (λ o. same_class y x || list_any (same_class y) (option_map_or (superclasses_from classes) o [])) e
      ∙ right (same_class y x) h
    where
      right : (a : Bool) {b : Bool} → b ≡ true → (a || b) ≡ true
      right true h = refl
      right false h = h

  pub below_there : (x y : ClassId) → IsClass classes x → Below x y → IsClass classes y
  below_there x y there h = climb (λ z. Below z y → IsClass classes y)
      (λ z z_there up h. ⊎_elim (λ e. subst (IsClass classes) e z_there)
      (λ s. up s.0 s.1 s.3) (below_cases z y z_there h)) x there h

  pub below_trans : (x y z : ClassId) → IsClass classes x → Below x y → Below y z → Below x z
  below_trans x y z there h k = climb (λ w. Below w y → Below w z)
      (λ w w_there up h. ⊎_elim (λ e. subst (λ v. Below v z) (sym e) k)
      (λ s. below_super w s.0 z w_there s.1 (up s.0 s.1 s.3)) (below_cases w y w_there h)) x there h

  pub objects : HasObject classes
  objects = has_object t.files classes (names_right classes t) supers_right t.built.2

  object_there : IsClass classes (Lib 0)
  unfolding library
  object_there = omega arith

  object_alone : superclass classes (Lib 0) ≡ None
  unfolding library
  object_alone = refl

  -- Object is above each class (JVMS 4.1)
  pub below_object : (x : ClassId) → IsClass classes x → Below x (Lib 0)
  below_object x there = climb (λ z. Below z (Lib 0)) (λ z z_there up. by z z_there up (superclass classes z) refl) x
      there
    where
      by : (z : ClassId) → IsClass classes z → ((y : ClassId) → superclass classes z ≡ Some y → Below y (Lib 0))
          → (o : Option ClassId) → superclass classes z ≡ o → Below z (Lib 0)
      by z z_there up None e = subst (λ v. Below v (Lib 0))
          (objects.alone (Lib 0) object_there object_alone ∙ sym (objects.alone z z_there e)) (below_itself (Lib 0))
      by z z_there up (Some y) e = below_super z y (Lib 0) z_there e (up y e)

  -- above Object there is nothing else
  pub above_object : (z : ClassId) → Below (Lib 0) z → z ≡ Lib 0
  above_object z h = ⊎_elim (λ e. sym e)
      (λ s. absurd (none s.0 (sym object_alone ∙ s.1)))
      (below_cases (Lib 0) z object_there h)
    where
      none : (s : ClassId) → None ≡ Some s → ⊥
      none s e = cc

  -- above an interface there is nothing but Object
  pub above_interface : (x z : ClassId) → IsClass classes x → is_interface_in classes x ≡ true → Below x z
      → (z ≡ x) ⊎ (z ≡ Lib 0)
  above_interface x z there i h = ⊎_elim (λ e. inl (sym e))
      (λ s. inr (above_object z (subst (λ v. Below v z) (one s.0 (sym s.1 ∙ interface_super x there i)) s.3)))
      (below_cases x z there h)
    where
      one : (s : ClassId) → Some s ≡ Some (Lib 0) → s ≡ Lib 0
      one s e = cc

  -- above a class that is none there are no interfaces
  pub above_class : (x z : ClassId) → IsClass classes x → is_interface_in classes x ≡ false → Below x z
      → is_interface_in classes z ≡ false
  above_class x z there i h = ⊎_elim (λ e. subst (λ v. is_interface_in classes v ≡ false) e i)
      (λ s. climb (λ w. is_interface_in classes w ≡ false → Below w z → is_interface_in classes z ≡ false)
      (λ w w_there up j k. ⊎_elim (λ e. subst (λ v. is_interface_in classes v ≡ false) e j)
      (λ r. up r.0 r.1 (superclass_class w r.0 r.1) r.3) (below_cases w z w_there k))
      s.0 s.2 (superclass_class x s.0 s.1) s.3)
      (below_cases x z there h)

  -- nothing is below a class without subclasses but it
  pub below_final : (x z : ClassId) → IsClass classes x → is_open_kind (kind_in classes z) ≡ false → Below x z → x ≡ z
  below_final x z there final h = climb (λ w. Below w z → w ≡ z)
      (λ w w_there up k. ⊎_elim (λ e. e)
      (λ s. absurd (both (is_open_kind (kind_in classes z)) final
      (superclass_open w z (s.1 ∙ ap (λ (v : ClassId). Some v) (up s.0 s.1 s.3)))))
      (below_cases w z w_there k)) x there h
    where
      both : (b : Bool) → b ≡ false → b ≡ true → ⊥
      both b e f = cc

  -- above a class of the library there are such classes alone
  pub above_library : (id : ℕ) (z : ClassId) → IsClass classes (Lib id) → Below (Lib id) z
      → (k : ℕ) × (z ≡ Lib k)
  above_library id z there h = climb (λ w. (k : ℕ) × (w ≡ Lib k) → Below w z → (k : ℕ) × (z ≡ Lib k))
      (λ w w_there up l k. ⊎_elim (λ e. (l.0, sym e ∙ l.1))
      (λ s. up s.0 s.1 (super_library l.0 s.0 (sym (ap (superclass classes) l.1) ∙ s.1)) s.3)
      (below_cases w z w_there k))
      (Lib id) there (id, refl) h
    where
      super_library : (id : ℕ) (s : ClassId) → superclass classes (Lib id) ≡ Some s → (k : ℕ) × (s ≡ Lib k)
      super_library id s = by (table.super_of id) where
        by : (o : Option ℕ) → option_map Lib o ≡ Some s → (k : ℕ) × (s ≡ Lib k)
        by None e = absurd cc
        by (Some k) e = let same : s ≡ Lib k = cc in (k, same)

  -- ---- superinterfaces are interfaces (JVMS 4.1)

  abbrev pub AllInterfaces : List ClassId → Type 0
  AllInterfaces xs = AllByRecursion (λ x. is_interface_in classes x ≡ true) xs

  named_kinds : (names : List (List ℕ)) → list_any (is_wrong_interface classes) names ≡ false
      → AllInterfaces (classes_named classes names)
  named_kinds [] h = tt
  named_kinds (name ∷ names) h =
      let parts = or_parts (is_wrong_interface classes name) (list_any (is_wrong_interface classes) names) h in
      by (class_named classes name) parts.0 (named_kinds names parts.1)
    where
      by : (o : Option ClassId) → option_map_or (λ id. not (is_interface_kind (kind_in classes id))) o false ≡ false
          → AllInterfaces (classes_named classes names)
          → AllInterfaces (cons_option o (classes_named classes names))
      by None h r = r
      by (Some y) h r = (not-false (is_interface_in classes y) h, r)

  library_kinds : (ids : List ℕ) → list_all (λ i. is_interface_kind (table.class_at i).kind) ids ≡ true
      → AllInterfaces (filter_map (λ i. Some (Lib i)) ids)
  library_kinds [] h = tt
  library_kinds (i ∷ ids) h =
      let parts = and_parts (is_interface_kind (table.class_at i).kind)
      (list_all (λ i. is_interface_kind (table.class_at i).kind) ids) h in
      (parts.0, library_kinds ids parts.1)

  interfaces_are : (x : ClassId) → AllInterfaces (interfaces classes x)
  interfaces_are (Prog n) = by (slice_get classes n) refl where
    by : (o : Option Class) → slice_get classes n ≡ o
        → AllInterfaces (option_map_or (λ c. classes_named classes c.interfaces) o [])
    by None is = tt
    by (Some c) is = named_kinds c.interfaces (rights n c is).interfaces
  interfaces_are (Lib id) = library_kinds (table.interfaces_of id) (interface_kinds id)

  flat_are : (f : ClassId → List ClassId) (xs : List ClassId) → AllInterfaces xs
      → ((x : ClassId) → is_interface_in classes x ≡ true → AllInterfaces (f x)) → AllInterfaces (flat_map f xs)
  flat_are f [] h each = tt
  flat_are f (x ∷ xs) h each = all_append (λ z. is_interface_in classes z ≡ true) (f x) (flat_map f xs) (each x h.0)
      (flat_are f xs h.1 each)

  walked_are : (n : ℕ) (xs : List ClassId) → AllInterfaces xs → AllInterfaces (walked n classes xs)
  unfolding walked
  walked_are zero xs h = tt
  walked_are (suc n) xs h = flat_are (λ i. i ∷ walked n classes (interfaces classes i)) xs h
      (λ x e. (e, walked_are n (interfaces classes x) (interfaces_are x)))

  pub own_are : (x : ClassId) → AllInterfaces (own_superinterfaces classes x)
  own_are x = walked_are highest (interfaces classes x) (interfaces_are x)

  pub superinterfaces_are : (x : ClassId) → AllInterfaces (superinterfaces classes x)
  superinterfaces_are x = each (superclasses_from classes x) where
    each : (xs : List ClassId) → AllInterfaces (flat_map (own_superinterfaces classes) xs)
    each [] = tt
    each (y ∷ ys) = all_append (λ z. is_interface_in classes z ≡ true) (own_superinterfaces classes y)
        (flat_map (own_superinterfaces classes) ys) (own_are y) (each ys)

-- The order of classes in a set that is taken is as held types want it (JVMS 4.10.1.2).
use Rattle.std.proofs.Common.{◌≡◌, ◌⊎◌, ◌||◌, inl, inr, ⊎_elim, ℕ, Bool, true, false, cond, List, Option, Some, None}
use Rattle.std.proofs.Common.{refl, sym, ap, subst, ◌∙◌, codes, ◌++◌}
use Rattle.std.specs.Prelude.{IfSome, is_some}
use Rattle.std.specs.List.{AllByRecursion, list_any}
use Rattle.std.specs.Option.{option_map_or}
use Rattle.std.proofs.lemmas.Bool.{or_cases}
use Rattle.std.proofs.lemmas.List.Folds.{list_any-append}
use Rattle.jv_base.specs.Names.{is_text}
use Rattle.jv_base.specs.declared.types.Base.TheVariants as base
use Rattle.jv_base.proofs.Equality.{same_text}
use Rattle.jv_base.proofs.Lists.{all_at, any_where}
use Rattle.jv_base.proofs.Options.{some_there}
use Rattle.class_model.specs.declared.class.Class.{Class}
use Rattle.lib_table.specs.Library.{library}
use Rattle.class_pool.specs.Found.{name_of}
use Rattle.class_pool.specs.Hierarchy.{IsClass, class_named}
use Rattle.class_pool.specs.Resolution.{is_class_below, is_interface_in}
use Rattle.class_pool.specs.Supers.{is_below}
use Rattle.class_pool.specs.Walk.{same_class, superclasses_from, superinterfaces}
use Rattle.class_pool.specs.declared.id.ClassId.{ClassId}
use Rattle.class_pool.specs.declared.id.ClassId.TheVariants.{Lib}
use Rattle.class_pool.proofs.Declaring.{named_there}
use Rattle.class_pool.proofs.EachOnce.{same_is}
use Rattle.set_view.specs.ViewOf.{shape_of}
use Rattle.type_verifier.specs.Assignable.{class_type, is_above_arrays, is_class_assignable, is_java_assignable}
use Rattle.type_verifier.specs.Assignable.{reaches}
use Rattle.fit_laws.specs.Held.{erased_name, is_held, is_interface_name}
use Rattle.fit_laws.specs.Order.{IsOrdered}
use Rattle.image_laws.specs.TakenSet.TakenSet.{IsTaken}
use Rattle.image_laws.proofs.TakenSet.Names.{library_named, object_named}
use Rattle.image_laws.proofs.ViewImage.Naming.{class_name}
use Rattle.type_sound.proofs.Chains.{above_interface, above_object, below_itself, below_object, below_trans}
use Rattle.type_sound.proofs.Chains.{superinterfaces_are}

bool_cases : (b : Bool) → (b ≡ true) ⊎ (b ≡ false)
bool_cases true = inl refl
bool_cases false = inr refl

both : (b : Bool) → b ≡ false → b ≡ true → ⊥
both b e f = cc

abbrev pub object_name : List ℕ
object_name = codes "java/lang/Object"

module _ (classes : List Class) (t : IsTaken classes) where
  abbrev Named : List ℕ → ClassId → Type 0
  Named a x = class_named classes a ≡ Some x

  pub class_in : (a : List ℕ) (x : ClassId) → Named a x → IsClass classes x
  class_in a x e = subst (λ o. IfSome o (IsClass classes)) e (named_there classes a)

  one_class : (a : List ℕ) (x y : ClassId) → Named a x → Named a y → x ≡ y
  one_class a x y e f = some_is (sym e ∙ f) where
    some_is : {x y : ClassId} → Some x ≡ Some y → x ≡ y
    some_is e = cc

  -- ---- erased names

  kind_is : (a : List ℕ) (x : ClassId) → Named a x → is_interface_name classes a ≡ is_interface_in classes x
  kind_is a x e = ap (λ o. option_map_or (is_interface_in classes) o false) e

  pub erased_interface : (a : List ℕ) (x : ClassId) → Named a x → is_interface_in classes x ≡ true
      → erased_name classes a ≡ object_name
  erased_interface a x e i = ap (λ b. cond b object_name a) (kind_is a x e ∙ i)

  pub erased_own : (a : List ℕ) (x : ClassId) → Named a x → is_interface_in classes x ≡ false
      → erased_name classes a ≡ a
  erased_own a x e i = ap (λ b. cond b object_name a) (kind_is a x e ∙ i)

  -- ---- assignability by names

  pub assignable_below : (a b : List ℕ) (x y : ClassId) → Named a x → Named b y → is_class_below classes x y ≡ true
      → is_class_assignable classes a b ≡ true
  assignable_below a b x y e f h =
      ap (λ o. is_text a b || reaches classes o (class_named classes b)) e
      ∙ ap (λ o. is_text a b || reaches classes (Some x) o) f
      ∙ ap (λ c. is_text a b || (is_interface_in classes y || c)) h
      ∙ ends (is_text a b) (is_interface_in classes y)
    where
      ends : (p q : Bool) → (p || (q || true)) ≡ true
      ends true q = refl
      ends false true = refl
      ends false false = refl

  -- two names are one, or the second is that of an interface, or of a class above that of the first
  pub record IsAbove (a b : List ℕ) (y : ClassId) : Type 0 where
    pub named : Named b y
    pub above : (is_interface_in classes y ≡ true)
        ⊎ ((x : ClassId) × Named a x × (is_class_below classes x y ≡ true))

  pub assignable_cases : (a b : List ℕ) → is_class_assignable classes a b ≡ true
      → (a ≡ b) ⊎ ((y : ClassId) × IsAbove a b y)
  assignable_cases a b h = ⊎_elim
      (λ e. inl (same_text a b e))
      (λ e. inr (by (class_named classes a) refl (class_named classes b) refl e))
      (or_cases (is_text a b) (reaches classes (class_named classes a) (class_named classes b)) h)
    where
      by : (p : Option ClassId) → class_named classes a ≡ p → (q : Option ClassId) → class_named classes b ≡ q
          → reaches classes p q ≡ true → (y : ClassId) × IsAbove a b y
      by p e None f h = absurd cc
      by None e (Some y) f h = (y, record { named = f; above = inl h })
      by (Some x) e (Some y) f h = (
        y,
        record {
          named = f;
          above = ⊎_elim (λ i. inl i) (λ k. inr (x, e, k))
              (or_cases (is_interface_in classes y) (is_class_below classes x y) h);
        },
      )

  pub object_above : (a : List ℕ) (x : ClassId) → Named a x → is_class_assignable classes a object_name ≡ true
  object_above a x e = assignable_below a object_name x (Lib 0) e (object_named classes t)
      (below_object classes t x (class_in a x e))

  object_class : is_interface_in classes (Lib 0) ≡ false
  unfolding library
  object_class = refl

  -- a class is held by each that it is below
  pub held_below : (a b : List ℕ) (x y : ClassId) → Named a x → Named b y → is_class_below classes x y ≡ true
      → is_class_assignable classes a (erased_name classes b) ≡ true
  held_below a b x y e f h = ⊎_elim
      (λ i. subst (λ n. is_class_assignable classes a n ≡ true) (sym (erased_interface b y f i)) (object_above a x e))
      (λ i. subst (λ n. is_class_assignable classes a n ≡ true) (sym (erased_own b y f i))
      (assignable_below a b x y e f h))
      (bool_cases (is_interface_in classes y))

  -- ---- the facts

  goes_on : (a b c : List ℕ) → is_some (class_named classes a) ≡ true
      → is_class_assignable classes a (erased_name classes b) ≡ true → is_class_assignable classes b c ≡ true
      → is_class_assignable classes a (erased_name classes c) ≡ true
  goes_on a b c there h k = ⊎_elim
      (λ e. subst (λ n. is_class_assignable classes a (erased_name classes n) ≡ true) e h)
      (λ u. above u.0 u.1)
      (assignable_cases b c k)
    where
      at : (x : ClassId) × Named a x
      at = some_there (class_named classes a) there

      x : ClassId
      x = at.0

      to_object : erased_name classes c ≡ object_name → is_class_assignable classes a (erased_name classes c) ≡ true
      to_object e = subst (λ n. is_class_assignable classes a n ≡ true) (sym e) (object_above a x at.1)

      held : (z : ClassId) → Named c z → is_class_below classes x z ≡ true
          → is_class_assignable classes a (erased_name classes c) ≡ true
      held z f m = held_below a c x z at.1 f m

      -- b is a class, and a is assignable to it
      class_below : (y z : ClassId) → Named b y → Named c z → is_interface_in classes y ≡ false
          → is_class_below classes y z ≡ true → is_class_assignable classes a b ≡ true
          → is_class_assignable classes a (erased_name classes c) ≡ true
      class_below y z e f i m n = ⊎_elim
          (λ same. held z f (subst (λ v. is_class_below classes v z ≡ true)
          (one_class b y x e (subst (λ s. Named s x) same at.1)) m))
          (λ u. ⊎_elim
          (λ j. absurd (both (is_interface_in classes y) i
          (subst (λ v. is_interface_in classes v ≡ true) (one_class b u.0 y u.1.named e) j)))
          (λ r. held z f (below_trans classes t x y z (class_in a x at.1)
          (subst (λ v. is_class_below classes v y ≡ true) (one_class a r.0 x r.1 at.1)
          (subst (λ v. is_class_below classes r.0 v ≡ true) (one_class b u.0 y u.1.named e) r.2)) m))
          u.1.above)
          (assignable_cases a b n)

      above : (z : ClassId) → IsAbove b c z → is_class_assignable classes a (erased_name classes c) ≡ true
      above z u = ⊎_elim
          (λ i. to_object (erased_interface c z u.named i))
          (λ r. ⊎_elim
          (λ j. ⊎_elim
          (λ same. to_object
          (erased_interface c z u.named (subst (λ v. is_interface_in classes v ≡ true) (sym same) j)))
          (λ first. held z u.named (subst (λ v. is_class_below classes x v ≡ true) (sym first)
          (below_object classes t x (class_in a x at.1))))
          (above_interface classes t r.0 z (class_in b r.0 r.1) j r.2))
          (λ j. class_below r.0 z r.1 u.named j r.2
          (subst (λ n. is_class_assignable classes a n ≡ true) (erased_own b r.0 r.1 j) h))
          (bool_cases (is_interface_in classes r.0)))
          u.above

  itself : (a : List ℕ) → is_some (class_named classes a) ≡ true
      → is_class_assignable classes a (erased_name classes a) ≡ true
  itself a there =
      let x = some_there (class_named classes a) there in held_below a a x.0 x.0 x.1 x.1 (below_itself classes t x.0)

  -- Cloneable and Serializable are interfaces
  cloneable : is_interface_name classes (codes "java/lang/Cloneable") ≡ true
  unfolding library
  cloneable = ap (λ o. option_map_or (is_interface_in classes) o false)
      (library_named classes t (codes "java/lang/Cloneable") refl)

  serializable : is_interface_name classes (codes "java/io/Serializable") ≡ true
  unfolding library
  serializable = ap (λ o. option_map_or (is_interface_in classes) o false)
      (library_named classes t (codes "java/io/Serializable") refl)

  -- a class that stands above arrays is Object
  object_alone : (a : List ℕ) (x : ClassId) → Named a x → is_interface_in classes x ≡ false
      → is_above_arrays (base.Class a) ≡ true → a ≡ object_name
  object_alone a x e i h = ⊎_elim
      (λ p. ⊎_elim
      (λ q. same_text a object_name q)
      (λ q. absurd (never (codes "java/lang/Cloneable") (same_text a (codes "java/lang/Cloneable") q) cloneable))
      (or_cases (is_text a object_name) (is_text a (codes "java/lang/Cloneable")) p))
      (λ p. absurd (never (codes "java/io/Serializable") (same_text a (codes "java/io/Serializable") p) serializable))
      (or_cases (is_text a object_name || is_text a (codes "java/lang/Cloneable"))
      (is_text a (codes "java/io/Serializable")) h)
    where
      never : (n : List ℕ) → a ≡ n → is_interface_name classes n ≡ true → ⊥
      never n same k = both (is_interface_in classes x) i
          (sym (kind_is a x e) ∙ ap (is_interface_name classes) same ∙ k)

  object_is : name_of classes (Lib 0) ≡ object_name
  unfolding library
  object_is = refl

  above_on : (a b : List ℕ) → is_above_arrays (base.Class (erased_name classes a)) ≡ true
      → is_class_assignable classes a b ≡ true → is_above_arrays (base.Class (erased_name classes b)) ≡ true
  above_on a b h k = ⊎_elim
      (λ e. subst (λ n. is_above_arrays (base.Class (erased_name classes n)) ≡ true) e h)
      (λ u. above u.0 u.1)
      (assignable_cases a b k)
    where
      to_object : erased_name classes b ≡ object_name → is_above_arrays (base.Class (erased_name classes b)) ≡ true
      to_object e = ap (λ n. is_above_arrays (base.Class n)) e

      is_object : (z : ClassId) → Named b z → z ≡ Lib 0 → is_above_arrays (base.Class (erased_name classes b)) ≡ true
      is_object z f e =
          to_object (erased_own b z f (subst (λ v. is_interface_in classes v ≡ false) (sym e) object_class)
          ∙ sym (class_name classes b z f) ∙ ap (name_of classes) e ∙ object_is)

      above : (z : ClassId) → IsAbove a b z → is_above_arrays (base.Class (erased_name classes b)) ≡ true
      above z u = ⊎_elim
          (λ i. to_object (erased_interface b z u.named i))
          (λ r. ⊎_elim
          (λ j. ⊎_elim
          (λ same. to_object
          (erased_interface b z u.named (subst (λ v. is_interface_in classes v ≡ true) (sym same) j)))
          (λ first. is_object z u.named first)
          (above_interface classes t r.0 z (class_in a r.0 r.1) j r.2))
          (λ j. is_object z u.named (above_object classes t z
          (subst (λ v. is_class_below classes v z ≡ true)
          (one_class a r.0 (Lib 0) r.1 (ap (class_named classes)
          (object_alone a r.0 r.1 j (subst (λ n. is_above_arrays (base.Class n) ≡ true) (erased_own a r.0 r.1 j) h))
          ∙ object_named classes t)) r.2)))
          (bool_cases (is_interface_in classes r.0)))
          u.above

  -- what the machine finds below a class is a superclass or an interface
  below_names : (a b : List ℕ) → (shape_of classes).is_sub a b ≡ true
      → is_class_assignable classes a (erased_name classes b) ≡ true
  below_names a b h = by (class_named classes a) refl h where
    list_found : (xs ys : List ClassId) (y : ClassId) → list_any (same_class y) (xs ++ ys) ≡ true
        → (list_any (same_class y) xs ≡ true) ⊎ (list_any (same_class y) ys ≡ true)
    list_found xs ys y h = or_cases _ _ (sym (list_any-append (same_class y) xs ys) ∙ h)

    in_interfaces : (xs : List ClassId) (y : ClassId) → AllByRecursion (λ z. is_interface_in classes z ≡ true) xs
        → list_any (same_class y) xs ≡ true → is_interface_in classes y ≡ true
    in_interfaces xs y all h =
        let p = any_where (same_class y) xs h in
        subst (λ z. is_interface_in classes z ≡ true) (sym (same_is y p.1 p.3))
        (all_at (λ z. is_interface_in classes z ≡ true) xs p.0 p.1 all p.2)

    to : (x y : ClassId) → Named a x → Named b y → is_below classes x y ≡ true
        → is_class_assignable classes a (erased_name classes b) ≡ true
    to x y e f k = ⊎_elim
        (λ m. held_below a b x y e f m)
        (λ m. subst (λ n. is_class_assignable classes a n ≡ true)
        (sym (erased_interface b y f (in_interfaces (superinterfaces classes x) y (superinterfaces_are classes t x) m)))
        (object_above a x e))
        (list_found (superclasses_from classes x) (superinterfaces classes x) y k)

    second : (x : ClassId) → Named a x → (o : Option ClassId) → class_named classes b ≡ o
        → option_map_or (is_below classes x) o false ≡ true
        → is_class_assignable classes a (erased_name classes b) ≡ true
    second x e None f k = absurd cc
    second x e (Some y) f k = to x y e f k

    by : (o : Option ClassId) → class_named classes a ≡ o
        → option_map_or (λ x. option_map_or (is_below classes x) (class_named classes b) false) o false ≡ true
        → is_class_assignable classes a (erased_name classes b) ≡ true
    by None e k = absurd cc
    by (Some x) e k = second x e (class_named classes b) refl k

  below : (a b : List ℕ) → (shape_of classes).is_sub a b ≡ true
      → is_held classes (class_type a) (class_type b) ≡ true
  unfolding is_java_assignable
  below a b h = below_names a b h

  pub ordered : IsOrdered classes
  ordered = record {
    goes_on = goes_on;
    itself = itself;
    above_on = above_on;
    below = below;
    object = kind_is object_name (Lib 0) (object_named classes t) ∙ object_class;
  }

-- What is assignable holds what was held: types, from the order of classes.
use Rattle.std.proofs.Common.{ℕ, List, Bool, true, false, ◌≡◌, ◌⊎◌, ◌&&◌, ◌<◌, inl, inr, ⊎_elim}
use Rattle.std.proofs.Common.{refl, sym, ap, ◌∙◌, subst, arith, codes}
use Rattle.std.specs.Prelude.{◌==◌, cond, nat_lt}
use Rattle.std.proofs.lemmas.Bool.{and_parts, lt-ltb, ltb-true}
use Rattle.std.proofs.lemmas.Bool.Decides.{eqb_tells}
use Rattle.jv_base.specs.declared.types.Base.{Base}
use Rattle.jv_base.specs.declared.types.Base.TheVariants as base
use Rattle.jv_base.specs.declared.types.FieldType.{FieldType}
use Rattle.class_model.specs.declared.class.Class.{Class}
use Rattle.jvm_model.specs.Heap.{string}
use Rattle.type_verifier.specs.Assignable.{class_type, is_above_arrays, is_base_assignable}
use Rattle.type_verifier.specs.Assignable.{is_class_assignable, is_java_assignable}
use Rattle.fit_laws.specs.Held.{erased, erased_base, erased_name, is_base_there, is_held}
use Rattle.fit_laws.specs.Held.{is_interface_name, is_there}
use Rattle.fit_laws.specs.Order.{IsOrdered}

-- a test of dimensions, and what it says
pub dims_test : (m n : ℕ) (x y : Bool) → cond (m == n) x (nat_lt n m && y) ≡ true
    → ((m ≡ n) × (x ≡ true)) ⊎ ((n < m) × (y ≡ true))
dims_test m n x y h = ⊎_elim
    (λ e. inl (e.1, subst (λ (c : Bool). cond c x (nat_lt n m && y) ≡ true) e.0 h))
    (λ e. inr (let p = and_parts (nat_lt n m) y
    (subst (λ (c : Bool). cond c x (nat_lt n m && y) ≡ true) e.0 h) in
    (ltb-true n m p.0, p.1)))
    (eqb_tells m n)

pub dims_back : (m n : ℕ) (x y : Bool) → ((m ≡ n) × (x ≡ true)) ⊎ ((n < m) × (y ≡ true))
    → cond (m == n) x (nat_lt n m && y) ≡ true
dims_back m n x y h = ⊎_elim
    (λ e. ⊎_elim
    (λ p. subst (λ (c : Bool). cond c x (nat_lt n m && y) ≡ true) (sym e.0) p.1)
    (λ p. absurd (omega (arith, p.0, e.1)))
    h)
    (λ e. ⊎_elim
    (λ p. absurd (e.1 p.0))
    (λ p. subst (λ (c : Bool). cond c x (nat_lt n m && y) ≡ true) (sym e.0)
    (both (nat_lt n m) y (lt-ltb n m p.0) p.1))
    h)
    (eqb_tells m n)
  where
    both : (c d : Bool) → c ≡ true → d ≡ true → (c && d) ≡ true
    both true d e f = f
    both false d e f = absurd cc

-- what follows of types, from the order of names
pub record IsHierarchy (classes : List Class) : Type 0 where
  -- what is assignable holds what was held
  pub goes_on : (o a b : FieldType) → is_there classes o ≡ true → is_held classes o a ≡ true
      → is_java_assignable classes a b ≡ true → is_held classes o b ≡ true
  -- and so does what is held
  pub onward : (o a b : FieldType) → is_there classes o ≡ true → is_held classes o a ≡ true
      → is_held classes a b ≡ true → is_held classes o b ≡ true
  -- each type holds itself
  pub itself : (ty : FieldType) → is_there classes ty ≡ true → is_held classes ty ty ≡ true
  -- the class of strings is there
  pub string_there : is_there classes (class_type string) ≡ true

module _ (classes : List Class) (ordered : IsOrdered classes) where
  abbrev On : Base → Base → Type 0
  On x y = is_base_assignable classes x y ≡ true

  -- numbers are the same, or both are classes
  pub same_or_class : (x y : Base) → On x y → ((x ≡ y) × (erased_base classes y ≡ y))
      ⊎ ((m : List ℕ) × (n : List ℕ)
      × ((x ≡ base.Class m) × (y ≡ base.Class n) × (is_class_assignable classes m n ≡ true)))
  same_or_class base.Boolean base.Boolean h = inl (refl, refl)
  same_or_class base.Boolean base.Byte h = absurd cc
  same_or_class base.Boolean base.Char h = absurd cc
  same_or_class base.Boolean base.Short h = absurd cc
  same_or_class base.Boolean base.Int h = absurd cc
  same_or_class base.Boolean base.Long h = absurd cc
  same_or_class base.Boolean base.Float h = absurd cc
  same_or_class base.Boolean base.Double h = absurd cc
  same_or_class base.Boolean (base.Class c) h = absurd cc
  same_or_class base.Byte base.Boolean h = absurd cc
  same_or_class base.Byte base.Byte h = inl (refl, refl)
  same_or_class base.Byte base.Char h = absurd cc
  same_or_class base.Byte base.Short h = absurd cc
  same_or_class base.Byte base.Int h = absurd cc
  same_or_class base.Byte base.Long h = absurd cc
  same_or_class base.Byte base.Float h = absurd cc
  same_or_class base.Byte base.Double h = absurd cc
  same_or_class base.Byte (base.Class c) h = absurd cc
  same_or_class base.Char base.Boolean h = absurd cc
  same_or_class base.Char base.Byte h = absurd cc
  same_or_class base.Char base.Char h = inl (refl, refl)
  same_or_class base.Char base.Short h = absurd cc
  same_or_class base.Char base.Int h = absurd cc
  same_or_class base.Char base.Long h = absurd cc
  same_or_class base.Char base.Float h = absurd cc
  same_or_class base.Char base.Double h = absurd cc
  same_or_class base.Char (base.Class c) h = absurd cc
  same_or_class base.Short base.Boolean h = absurd cc
  same_or_class base.Short base.Byte h = absurd cc
  same_or_class base.Short base.Char h = absurd cc
  same_or_class base.Short base.Short h = inl (refl, refl)
  same_or_class base.Short base.Int h = absurd cc
  same_or_class base.Short base.Long h = absurd cc
  same_or_class base.Short base.Float h = absurd cc
  same_or_class base.Short base.Double h = absurd cc
  same_or_class base.Short (base.Class c) h = absurd cc
  same_or_class base.Int base.Boolean h = absurd cc
  same_or_class base.Int base.Byte h = absurd cc
  same_or_class base.Int base.Char h = absurd cc
  same_or_class base.Int base.Short h = absurd cc
  same_or_class base.Int base.Int h = inl (refl, refl)
  same_or_class base.Int base.Long h = absurd cc
  same_or_class base.Int base.Float h = absurd cc
  same_or_class base.Int base.Double h = absurd cc
  same_or_class base.Int (base.Class c) h = absurd cc
  same_or_class base.Long base.Boolean h = absurd cc
  same_or_class base.Long base.Byte h = absurd cc
  same_or_class base.Long base.Char h = absurd cc
  same_or_class base.Long base.Short h = absurd cc
  same_or_class base.Long base.Int h = absurd cc
  same_or_class base.Long base.Long h = inl (refl, refl)
  same_or_class base.Long base.Float h = absurd cc
  same_or_class base.Long base.Double h = absurd cc
  same_or_class base.Long (base.Class c) h = absurd cc
  same_or_class base.Float base.Boolean h = absurd cc
  same_or_class base.Float base.Byte h = absurd cc
  same_or_class base.Float base.Char h = absurd cc
  same_or_class base.Float base.Short h = absurd cc
  same_or_class base.Float base.Int h = absurd cc
  same_or_class base.Float base.Long h = absurd cc
  same_or_class base.Float base.Float h = inl (refl, refl)
  same_or_class base.Float base.Double h = absurd cc
  same_or_class base.Float (base.Class c) h = absurd cc
  same_or_class base.Double base.Boolean h = absurd cc
  same_or_class base.Double base.Byte h = absurd cc
  same_or_class base.Double base.Char h = absurd cc
  same_or_class base.Double base.Short h = absurd cc
  same_or_class base.Double base.Int h = absurd cc
  same_or_class base.Double base.Long h = absurd cc
  same_or_class base.Double base.Float h = absurd cc
  same_or_class base.Double base.Double h = inl (refl, refl)
  same_or_class base.Double (base.Class c) h = absurd cc
  same_or_class (base.Class a) base.Boolean h = absurd cc
  same_or_class (base.Class a) base.Byte h = absurd cc
  same_or_class (base.Class a) base.Char h = absurd cc
  same_or_class (base.Class a) base.Short h = absurd cc
  same_or_class (base.Class a) base.Int h = absurd cc
  same_or_class (base.Class a) base.Long h = absurd cc
  same_or_class (base.Class a) base.Float h = absurd cc
  same_or_class (base.Class a) base.Double h = absurd cc
  same_or_class (base.Class a) (base.Class c) h = inr (a, c, (refl, refl, h))

  above_class : (x : Base) → is_above_arrays x ≡ true → (n : List ℕ) × (x ≡ base.Class n)
  above_class base.Boolean h = absurd cc
  above_class base.Byte h = absurd cc
  above_class base.Char h = absurd cc
  above_class base.Short h = absurd cc
  above_class base.Int h = absurd cc
  above_class base.Long h = absurd cc
  above_class base.Float h = absurd cc
  above_class base.Double h = absurd cc
  above_class (base.Class a) h = (a, refl)

  -- what stands above arrays stays there
  pub above_name : (a : List ℕ) → is_above_arrays (base.Class a) ≡ true
      → is_above_arrays (base.Class (erased_name classes a)) ≡ true
  above_name a h = by (is_interface_name classes a) where
    by : (t : Bool)
        → (let name : List ℕ = cond t (codes "java/lang/Object") a in
        is_above_arrays (base.Class name)) ≡ true
    by true = refl
    by false = h

  above_erased : (x : Base) → is_above_arrays x ≡ true
      → is_above_arrays (erased_base classes x) ≡ true
  above_erased x h = let c = above_class x h in
      subst (λ (z : Base). is_above_arrays (erased_base classes z) ≡ true) (sym c.1)
      (above_name c.0 (subst (λ (z : Base). is_above_arrays z ≡ true) c.1 h))

  base_on : (o a b : Base) → is_base_there classes o ≡ true → On o (erased_base classes a) → On a b
      → On o (erased_base classes b)
  base_on o a b there h k = ⊎_elim
      (λ s. subst (λ (z : Base). On o (erased_base classes z)) s.0 h)
      (λ s. by s.0 s.1 s.2.0 s.2.1 s.2.2)
      (same_or_class a b k)
    where
      classes_on : (m n : List ℕ) → is_class_assignable classes m n ≡ true → (x : Base)
          → is_base_there classes x ≡ true → On x (base.Class (erased_name classes m))
          → On x (base.Class (erased_name classes n))
      classes_on m n e (base.Class c) t q = ordered.goes_on c m n t q e
      classes_on m n e base.Boolean t q = absurd cc
      classes_on m n e base.Byte t q = absurd cc
      classes_on m n e base.Char t q = absurd cc
      classes_on m n e base.Short t q = absurd cc
      classes_on m n e base.Int t q = absurd cc
      classes_on m n e base.Long t q = absurd cc
      classes_on m n e base.Float t q = absurd cc
      classes_on m n e base.Double t q = absurd cc

      by : (m n : List ℕ) → a ≡ base.Class m → b ≡ base.Class n
          → is_class_assignable classes m n ≡ true → On o (erased_base classes b)
      by m n p q e = subst (λ (z : Base). On o (erased_base classes z)) (sym q)
          (classes_on m n e o there (subst (λ (z : Base). On o (erased_base classes z)) p h))

  above_on : (a b : Base) → is_above_arrays (erased_base classes a) ≡ true → On a b
      → is_above_arrays (erased_base classes b) ≡ true
  above_on a b h k = ⊎_elim
      (λ s. subst (λ (z : Base). is_above_arrays (erased_base classes z) ≡ true) s.0 h)
      (λ s. subst (λ (z : Base). is_above_arrays (erased_base classes z) ≡ true) (sym s.2.1)
      (ordered.above_on s.0 s.1
      (subst (λ (z : Base). is_above_arrays (erased_base classes z) ≡ true) s.2.0 h) s.2.2))
      (same_or_class a b k)

  held_on : (o a b : FieldType) → is_there classes o ≡ true → is_held classes o a ≡ true
      → is_java_assignable classes a b ≡ true → is_held classes o b ≡ true
  unfolding is_java_assignable
  held_on o a b there h k = dims_back o.dims b.dims _ _ (⊎_elim
      (λ p. ⊎_elim
      (λ q. inl (p.0 ∙ q.0, base_on o.base a.base b.base there p.1 q.1))
      (λ q. inr (omega (arith, p.0, q.0), above_erased b.base q.1))
      (dims_test a.dims b.dims _ _ k))
      (λ p. ⊎_elim
      (λ q. inr (omega (arith, p.0, q.0), above_on a.base b.base p.1 q.1))
      (λ q. inr (omega (arith, p.0, q.0), above_erased b.base q.1))
      (dims_test a.dims b.dims _ _ k))
      (dims_test o.dims a.dims _ _ h))

  -- interfaces are erased once
  erased_again : (n : List ℕ) → erased_name classes (erased_name classes n) ≡ erased_name classes n
  erased_again n = by (is_interface_name classes n) refl where
    by : (t : Bool) → is_interface_name classes n ≡ t
        → (let name : List ℕ = cond t (codes "java/lang/Object") n in erased_name classes name ≡ name)
    by true e = ap (λ (t : Bool). cond t (codes "java/lang/Object") (codes "java/lang/Object"))
        ordered.object
    by false e = ap (λ (t : Bool). cond t (codes "java/lang/Object") n) e

  base_again : (x : Base) → erased_base classes (erased_base classes x) ≡ erased_base classes x
  base_again (base.Class n) = ap base.Class (erased_again n)
  base_again base.Boolean = refl
  base_again base.Byte = refl
  base_again base.Char = refl
  base_again base.Short = refl
  base_again base.Int = refl
  base_again base.Long = refl
  base_again base.Float = refl
  base_again base.Double = refl

  held_onward : (o a b : FieldType) → is_there classes o ≡ true → is_held classes o a ≡ true
      → is_held classes a b ≡ true → is_held classes o b ≡ true
  held_onward o a b there h k = subst
      (λ (x : Base). is_java_assignable classes o (record { dims = b.dims; base = x }) ≡ true)
      (base_again b.base) (held_on o a (erased classes b) there h k)

  base_itself : (x : Base) → is_base_there classes x ≡ true → On x (erased_base classes x)
  base_itself (base.Class n) t = ordered.itself n t
  base_itself base.Boolean t = refl
  base_itself base.Byte t = refl
  base_itself base.Char t = refl
  base_itself base.Short t = refl
  base_itself base.Int t = refl
  base_itself base.Long t = refl
  base_itself base.Float t = refl
  base_itself base.Double t = refl

  held_itself : (ty : FieldType) → is_there classes ty ≡ true → is_held classes ty ty ≡ true
  unfolding is_java_assignable
  held_itself ty there = dims_back ty.dims ty.dims _ _ (inl (refl, base_itself ty.base there))

  pub hierarchy_from : is_there classes (class_type string) ≡ true → IsHierarchy classes
  hierarchy_from there = record {
    goes_on = held_on;
    onward = held_onward;
    itself = held_itself;
    string_there = there;
  }

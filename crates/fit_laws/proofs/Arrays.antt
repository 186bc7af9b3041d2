-- Arrays: what they hold fits the type of an element, and what the machine finds below a type is
-- held by it.
use Rattle.std.proofs.Common.{ℕ, zero, suc, ◌+◌, List, Bool, true}
use Rattle.std.proofs.Common.{false, ◌≡◌, ◌⊎◌, ◌||◌, ◌<◌, inl, inr, ⊎_elim, refl, ap}
use Rattle.std.proofs.Common.{arith}
use Rattle.std.specs.Prelude.{◌-◌, codes}
use Rattle.jv_base.specs.Names.{is_text}
use Rattle.jv_base.specs.declared.types.Base.{Base}
use Rattle.jv_base.specs.declared.types.Base.TheVariants as base
use Rattle.jv_base.specs.declared.types.FieldType.{FieldType}
use Rattle.class_model.specs.declared.class.Class.{Class}
use Rattle.jvm_model.specs.Types.{array_of, is_array_below, is_base_below}
use Rattle.jvm_model.specs.Types.{is_type_below}
use Rattle.jvm_model.specs.Types as machine
use Rattle.set_view.specs.ViewOf.{shape_of}
use Rattle.type_verifier.specs.Assignable.{is_above_arrays, is_base_assignable}
use Rattle.type_verifier.specs.Assignable.{is_java_assignable}
use Rattle.type_verifier.specs.Rules.{element_type}
use Rattle.fit_laws.specs.Held.{erased_base, is_held}
use Rattle.fit_laws.specs.Order.{IsOrdered}
use Rattle.fit_laws.proofs.Held.{above_name, dims_back, dims_test}

module _ (classes : List Class) (ordered : IsOrdered classes) where
  -- an array that is held by a type of arrays has components that are held by its elements' type
  pub held_component : (c ty : FieldType) → 0 < ty.dims → is_held classes (array_of c) ty ≡ true
      → is_held classes c (element_type ty) ≡ true
  unfolding is_java_assignable
  held_component c ty some h = dims_back c.dims (ty.dims - 1) _ _ (⊎_elim
      (λ p. inl (omega (arith, p.0, some), p.1))
      (λ p. inr (omega (arith, p.0, some), p.1))
      (dims_test (c.dims + 1) ty.dims _ _ h))

  -- a type without dimensions holds no array's place, and one of arrays no instance's
  pub no_dims : (from ty : FieldType) → from.dims ≡ 0 → 0 < ty.dims
      → is_held classes from ty ≡ true → ⊥
  unfolding is_java_assignable
  no_dims from ty e some h = ⊎_elim
      (λ p. omega (arith, p.0, some, e))
      (λ p. omega (arith, p.0, e))
      (dims_test from.dims ty.dims _ _ h)

  -- ---- what the machine finds below a type

  any_three : (a b c : Bool) → (a || (b || (c || false))) ≡ true → ((a || b) || c) ≡ true
  any_three true b c h = refl
  any_three false true c h = refl
  any_three false false true h = refl
  any_three false false false h = absurd cc

  abbrev Below : ℕ → Base → ℕ → Base → Type 0
  Below m a n b = ((m ≡ n) × (is_base_assignable classes a (erased_base classes b) ≡ true))
      ⊎ ((n < m) × (is_above_arrays (erased_base classes b) ≡ true))

  class_below : (a b : List ℕ) → (shape_of classes).is_sub a b ≡ true
      → is_base_assignable classes (base.Class a) (erased_base classes (base.Class b)) ≡ true
  unfolding is_java_assignable
  class_below a b h = ordered.below a b h

  base_below : (a b : Base) → is_base_below (shape_of classes).is_sub a b ≡ true
      → is_base_assignable classes a (erased_base classes b) ≡ true
  base_below (base.Class a) (base.Class b) h = class_below a b h
  base_below (base.Class a) base.Boolean h = absurd cc
  base_below base.Boolean (base.Class b) h = absurd cc
  base_below base.Boolean base.Boolean h = refl
  base_below base.Boolean base.Byte h = absurd cc
  base_below base.Boolean base.Char h = absurd cc
  base_below base.Boolean base.Short h = absurd cc
  base_below base.Boolean base.Int h = absurd cc
  base_below base.Boolean base.Long h = absurd cc
  base_below base.Boolean base.Float h = absurd cc
  base_below base.Boolean base.Double h = absurd cc
  base_below (base.Class a) base.Byte h = absurd cc
  base_below base.Byte (base.Class b) h = absurd cc
  base_below base.Byte base.Boolean h = absurd cc
  base_below base.Byte base.Byte h = refl
  base_below base.Byte base.Char h = absurd cc
  base_below base.Byte base.Short h = absurd cc
  base_below base.Byte base.Int h = absurd cc
  base_below base.Byte base.Long h = absurd cc
  base_below base.Byte base.Float h = absurd cc
  base_below base.Byte base.Double h = absurd cc
  base_below (base.Class a) base.Char h = absurd cc
  base_below base.Char (base.Class b) h = absurd cc
  base_below base.Char base.Boolean h = absurd cc
  base_below base.Char base.Byte h = absurd cc
  base_below base.Char base.Char h = refl
  base_below base.Char base.Short h = absurd cc
  base_below base.Char base.Int h = absurd cc
  base_below base.Char base.Long h = absurd cc
  base_below base.Char base.Float h = absurd cc
  base_below base.Char base.Double h = absurd cc
  base_below (base.Class a) base.Short h = absurd cc
  base_below base.Short (base.Class b) h = absurd cc
  base_below base.Short base.Boolean h = absurd cc
  base_below base.Short base.Byte h = absurd cc
  base_below base.Short base.Char h = absurd cc
  base_below base.Short base.Short h = refl
  base_below base.Short base.Int h = absurd cc
  base_below base.Short base.Long h = absurd cc
  base_below base.Short base.Float h = absurd cc
  base_below base.Short base.Double h = absurd cc
  base_below (base.Class a) base.Int h = absurd cc
  base_below base.Int (base.Class b) h = absurd cc
  base_below base.Int base.Boolean h = absurd cc
  base_below base.Int base.Byte h = absurd cc
  base_below base.Int base.Char h = absurd cc
  base_below base.Int base.Short h = absurd cc
  base_below base.Int base.Int h = refl
  base_below base.Int base.Long h = absurd cc
  base_below base.Int base.Float h = absurd cc
  base_below base.Int base.Double h = absurd cc
  base_below (base.Class a) base.Long h = absurd cc
  base_below base.Long (base.Class b) h = absurd cc
  base_below base.Long base.Boolean h = absurd cc
  base_below base.Long base.Byte h = absurd cc
  base_below base.Long base.Char h = absurd cc
  base_below base.Long base.Short h = absurd cc
  base_below base.Long base.Int h = absurd cc
  base_below base.Long base.Long h = refl
  base_below base.Long base.Float h = absurd cc
  base_below base.Long base.Double h = absurd cc
  base_below (base.Class a) base.Float h = absurd cc
  base_below base.Float (base.Class b) h = absurd cc
  base_below base.Float base.Boolean h = absurd cc
  base_below base.Float base.Byte h = absurd cc
  base_below base.Float base.Char h = absurd cc
  base_below base.Float base.Short h = absurd cc
  base_below base.Float base.Int h = absurd cc
  base_below base.Float base.Long h = absurd cc
  base_below base.Float base.Float h = refl
  base_below base.Float base.Double h = absurd cc
  base_below (base.Class a) base.Double h = absurd cc
  base_below base.Double (base.Class b) h = absurd cc
  base_below base.Double base.Boolean h = absurd cc
  base_below base.Double base.Byte h = absurd cc
  base_below base.Double base.Char h = absurd cc
  base_below base.Double base.Short h = absurd cc
  base_below base.Double base.Int h = absurd cc
  base_below base.Double base.Long h = absurd cc
  base_below base.Double base.Float h = absurd cc
  base_below base.Double base.Double h = refl

  above_below : (b : Base) → machine.is_above_arrays b ≡ true
      → is_above_arrays (erased_base classes b) ≡ true
  above_below (base.Class name) h =
      above_name classes ordered name (any_three (is_text name (codes "java/lang/Object"))
      (is_text name (codes "java/lang/Cloneable"))
      (is_text name (codes "java/io/Serializable")) h)
  above_below base.Boolean h = absurd cc
  above_below base.Byte h = absurd cc
  above_below base.Char h = absurd cc
  above_below base.Short h = absurd cc
  above_below base.Int h = absurd cc
  above_below base.Long h = absurd cc
  above_below base.Float h = absurd cc
  above_below base.Double h = absurd cc

  dims_below : (m : ℕ) (a : Base) (n : ℕ) (b : Base)
      → is_array_below (shape_of classes).is_sub m a n b ≡ true → Below m a n b
  dims_below zero a zero b h = inl (refl, base_below a b h)
  dims_below zero a (suc n) b h = absurd cc
  dims_below (suc m) a zero b h = inr (omega arith, above_below b h)
  dims_below (suc m) a (suc n) b h = ⊎_elim
      (λ p. inl (ap suc p.0, p.1))
      (λ p. inr (omega (arith, p.0), p.1))
      (dims_below m a n b h)

  pub types_below : (a b : FieldType) → is_type_below (shape_of classes).is_sub a b ≡ true
      → is_held classes a b ≡ true
  unfolding is_java_assignable
  types_below a b h =
      dims_back a.dims b.dims _ _ (dims_below a.dims a.base b.dims b.base h)

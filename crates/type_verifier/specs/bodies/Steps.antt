-- How far up classes stand, and how a walk goes up in long steps (only the proof of the walk needs it).
use Rattle.std.specs.Prelude.{◌≡◌, ◌<◌, ◌≤◌, ℕ, List, length, Option, None, IfSome, slice_index_or}
use Rattle.class_model.specs.declared.class.Class.{Class}
use Rattle.class_pool.specs.declared.id.ClassId.{ClassId}
use Rattle.class_pool.specs.declared.id.ClassId.TheVariants.{Prog, Lib}
use Rattle.class_pool.specs.Resolution.{is_class_below}
use Rattle.class_pool.specs.Walk.{superclasses_from}
use Rattle.type_verifier.specs.declared.hierarchy.Step.{Step}

module _ (classes : List Class) where
  -- how many classes stand from this one upwards, itself with them
  unfoldable pub height : ClassId → ℕ
  height c = length (superclasses_from classes c)

  -- a class of the set of at most this height, or one of the library
  abbrev pub IsFloor : ℕ → ClassId → Type 0
  IsFloor floor (Prog n) = height (Prog n) ≤ floor
  IsFloor floor (Lib id) = Unit {0}

  -- a class of the set is no higher than another one, and it is below each class of at most its height, and each of the
  -- library, where the other one is
  pub record IsFar (n far : ℕ) : Type 0 where
    pub there : far < length classes
    pub low : height (Prog far) ≤ height (Prog n)
    pub same : (to : ClassId) → IsFloor (height (Prog far)) to
        → is_class_below classes (Prog far) to ≡ is_class_below classes (Prog n) to

  -- what is known of a class of the set is right
  pub record IsStep (n : ℕ) (step : Step) : Type 0 where
    pub height : step.height ≡ height (Prog n)
    pub far : IsFar n step.far

  -- the same of all classes of which something is known
  abbrev pub AreSteps : List (Option Step) → Type 0
  AreSteps steps = (n : ℕ) → IfSome (slice_index_or steps n None) (IsStep n)

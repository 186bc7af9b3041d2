-- What is known of a class from the classes above it, found once for each class (only the proof of check_links needs
-- it).
use Rattle.std.specs.Prelude.{◌≡◌, IfSome, ℕ, Bool, true, false, List, [], length, Option, Some, None, slice_get}
use Rattle.std.specs.Prelude.{slice_index_or}
use Rattle.std.specs.List.{flat_map, list_any}
use Rattle.std.specs.Option.{option_map_or}
use Rattle.class_model.specs.Flags.{acc_final, has}
use Rattle.class_model.specs.declared.class.Class.{Class}
use Rattle.class_pool.specs.declared.id.ClassId.{ClassId}
use Rattle.class_pool.specs.declared.id.ClassId.TheVariants.{Prog}
use Rattle.class_pool.specs.Hierarchy.{IsClass}
use Rattle.class_pool.specs.Walk.{superclasses_from, superinterfaces}
use Rattle.link_check.specs.declared.fault.ProfileKind.{ProfileKind}
use Rattle.link_check.specs.declared.overriding.inherited.Known.{Known}
use Rattle.link_check.specs.Profile.{methods_of, selected_kinds}
use Rattle.class_pool.specs.Walk.{superclasses_up}

abbrev pub has_final_method : Class → Bool
has_final_method c = list_any (λ m. has acc_final m.flags.0) c.methods

-- a class of the set none of whose methods is final
abbrev pub IsPlain : List Class → ClassId → Type 0
IsPlain classes x = (n : ℕ) × (c : Class) × (x ≡ Prog n) × (slice_get classes n ≡ Some c) × (has_final_method c ≡ false)

-- of what neither the class with this number nor a plain one has any, the superclasses from this one upwards have all
pub record IsStart (classes : List Class) (n : ℕ) (start : Option ClassId) : Type 0 where
  pub there : IfSome start (IsClass classes)
  pub same : (kinds : ClassId → List ProfileKind) → kinds (Prog n) ≡ []
      → ((x : ClassId) → IsPlain classes x → kinds x ≡ [])
      → flat_map kinds (superclasses_from classes (Prog n)) ≡ flat_map kinds (superclasses_up classes start)

-- what is wrong with the methods that run in a class where those of an interface are called
abbrev pub running_kinds_of : List Class → ℕ → ClassId → List ProfileKind
running_kinds_of classes n i = flat_map (selected_kinds classes n) (methods_of classes i)

-- the same of all superinterfaces of the class
abbrev pub running_kinds : List Class → ℕ → List ProfileKind
running_kinds classes n = flat_map (running_kinds_of classes n) (superinterfaces classes (Prog n))

-- nothing is wrong with them
abbrev pub Fits : List Class → ℕ → Type 0
Fits classes n = running_kinds classes n ≡ []

pub record IsKnown (classes : List Class) (n : ℕ) (known : Known) : Type 0 where
  pub start : IsStart classes n known.start
  pub plain : known.plain ≡ true → IsPlain classes (Prog n)
  pub fits : known.fits ≡ true → Fits classes n

-- what is known of a class is right
pub record AreKnown (classes : List Class) (known : List (Option Known)) : Type 0 where
  pub count : length known ≡ length classes
  pub each : (n : ℕ) → IfSome (slice_index_or known n None) (IsKnown classes n)

-- the first class to look at: the class itself where nothing is known of it
abbrev pub start_at : List (Option Known) → ℕ → Option ClassId
start_at known n = option_map_or (λ one. one.start) (slice_index_or known n None) (Some (Prog n))

-- What the rounds of tests give (only the proofs of the rounds need it).
use Rattle.std.specs.Prelude.{◌≡◌, ◌<◌, ◌↔◌, ◌⊎◌, ℕ, Bool, IsTrue, List, length, Option, Some, None, Result, Ok, Err}
use Rattle.jv_base.specs.declared.outcome.Or.{Or}
use Rattle.jv_base.specs.declared.outcome.Or.TheVariants.{Fault, OutOfMemory}
use Rattle.class_model.specs.declared.class.Class.{Class}
use Rattle.class_pool.specs.declared.fault.NamedClass.{NamedClass}
use Rattle.class_pool.specs.declared.fault.PoolFault.{PoolFault}
use Rattle.class_pool.specs.declared.id.ClassId.TheVariants.{Prog}
use Rattle.class_pool.specs.Faults.{IsFirstCycle, classes_of, name_faults, super_faults}
use Rattle.class_pool.specs.bodies.Faults.{IsFirstCyclic}
use Rattle.class_pool.specs.Ranks.{HasRanks}
use Rattle.class_pool.specs.Supertypes.{IsProperSub}

-- the classes of the files, where the first round has no fault; else its first fault
abbrev pub PassesNames : List NamedClass → Result (List Class) (Or PoolFault) → Type 0
PassesNames files (Ok classes) = (name_faults files ≡ Ok tt) × (classes ≡ classes_of files)
PassesNames files (Err (Fault f)) = name_faults files ≡ Err f
PassesNames files (Err OutOfMemory) = Unit {0}

-- where the other two have no fault each class has a rank; else the first fault
abbrev pub PassesHierarchy : List Class → Result (Unit {0}) (Or PoolFault) → Type 0
PassesHierarchy classes (Ok _) = (super_faults classes ≡ Ok tt) × HasRanks classes
PassesHierarchy classes (Err (Fault f)) =
    (super_faults classes ≡ Err f) ⊎ ((super_faults classes ≡ Ok tt) × IsFirstCycle classes f)
PassesHierarchy classes (Err OutOfMemory) = Unit {0}

-- the first class that is its own proper supertype; where none is, each class has a rank
abbrev pub FindsRanks : List Class → Option ℕ → Type 0
FindsRanks classes (Some n) = IsFirstCyclic classes (Some n)
FindsRanks classes None = HasRanks classes

-- a test of the classes of the set, which its proper supertypes pass and no other
abbrev pub HasTest : List Class → ℕ → Type 0
HasTest classes n =
    (test : ℕ → Bool) × ((m : ℕ) → m < length classes → IsTrue (test m) ↔ IsProperSub classes (Prog n) (Prog m))

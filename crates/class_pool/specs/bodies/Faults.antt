-- What makes files no set: three rounds, each over all classes in set order, the first fault counting: parts that only
-- the proofs of bodies need (the project's own: steps of a call).
use Rattle.std.specs.Prelude.{◌≢◌, ◌<◌, ℕ}
use Rattle.std.specs.Prelude.{List, length, Option, Some, None, Result, Ok, Err}
use Rattle.std.specs.List.{AllPairs}
use Rattle.jv_base.specs.declared.outcome.Or.{Or}
use Rattle.jv_base.specs.declared.outcome.Or.TheVariants.{Fault, OutOfMemory}
use Rattle.class_model.specs.declared.class.Class.{Class}
use Rattle.class_pool.specs.declared.fault.PoolFault.{PoolFault}
use Rattle.class_pool.specs.Supertypes.{IsCyclic, NoCycle}
use Rattle.class_pool.specs.Faults.{IsFirstCycle}

-- no two classes have one name (only the proof of build needs it)
abbrev pub NamesDiffer : List Class → Type 0
NamesDiffer classes = AllPairs (λ a b. a.name ≢ b.name) classes

-- the first class that is its own proper supertype; there may be none (only the proof of build needs it)
abbrev pub IsFirstCyclic : List Class → Option ℕ → Type 0
IsFirstCyclic classes None = NoCycle classes
IsFirstCyclic classes (Some n) = (n < length classes) × IsCyclic classes n × ((m : ℕ) → m < n → IsCyclic classes m → ⊥)

-- no class is its own proper supertype, or the fault names the first that is (only the proof of build needs it)
abbrev pub FindsCycle : {T : Type 0} → List Class → Result T (Or PoolFault) → Type 0
FindsCycle classes (Ok _) = NoCycle classes
FindsCycle classes (Err (Fault f)) = IsFirstCycle classes f
FindsCycle classes (Err OutOfMemory) = Unit {0}

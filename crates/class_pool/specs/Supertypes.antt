-- The supertypes of a class (JVMS 4.1; JLS 4.10.2). A set is a test of classes.
use Rattle.std.specs.Prelude.{◌<◌, ℕ, Bool, IsTrue, List, length}
use Rattle.std.specs.List.{All, cons_option}
use Rattle.class_model.specs.declared.class.Class.{Class}
use Rattle.class_pool.specs.declared.id.ClassId.{ClassId}
use Rattle.class_pool.specs.declared.id.ClassId.TheVariants.{Prog}
use Rattle.class_pool.specs.Hierarchy.{superclass, interfaces}

-- the direct supertypes: the superclass, and then the direct superinterfaces (JLS 4.10.2)
abbrev pub direct : List Class → ClassId → List ClassId
direct classes a = cons_option (superclass classes a) (interfaces classes a)

-- the set has with each class its direct supertypes (JLS 4.10)
abbrev pub IsClosed : List Class → (ClassId → Bool) → Type 0
IsClosed classes set = (a : ClassId) → IsTrue (set a) → All (λ b. IsTrue (set b)) (direct classes a)

-- b lies in each closed set that has a: the reflexive and transitive closure of direct supertypes (JLS 4.10)
abbrev pub Sub : List Class → ClassId → ClassId → Type 0
Sub classes a b = (set : ClassId → Bool) → IsTrue (set a) → IsClosed classes set → IsTrue (set b)

-- b lies in each closed set that has the direct supertypes of a: it is a supertype, one step or more above (JLS 4.10)
abbrev pub IsProperSub : List Class → ClassId → ClassId → Type 0
IsProperSub classes a b = (set : ClassId → Bool) → All (λ c. IsTrue (set c)) (direct classes a) → IsClosed classes set
    → IsTrue (set b)

-- the class is its own proper supertype (JVMS 5.3.5, ClassCircularityError)
abbrev pub IsCyclic : List Class → ℕ → Type 0
IsCyclic classes n = IsProperSub classes (Prog n) (Prog n)

-- no class of the set is (JVMS 5.3.5, ClassCircularityError)
abbrev pub NoCycle : List Class → Type 0
NoCycle classes = (n : ℕ) → n < length classes → IsCyclic classes n → ⊥

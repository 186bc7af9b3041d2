-- Methods that no class of a set has, or none above a class (only the proof of system_of needs it).
use Rattle.std.specs.Prelude.{◌≡◌, ◌<◌, ℕ, Bool, false, List, Some, slice_get}
use Rattle.std.specs.List.{AllByRecursion}
use Rattle.std.specs.Option.{is_some}
use Rattle.class_model.specs.declared.class.Class.{Class}
use Rattle.class_pool.specs.Found.{NameAndType, declared_in, named_at}
use Rattle.class_pool.specs.declared.id.ClassId.{ClassId}
use Rattle.class_pool.specs.declared.id.ClassId.TheVariants.{Lib, Prog}
use Rattle.class_pool.specs.declared.id.MemberAt.{MemberAt}
use Rattle.require_sys.specs.Requires.{is_program}

-- of the classes with the first numbers none has a member of this name and descriptor
abbrev pub AreNone : List Class → NameAndType → ℕ → Type 0
AreNone classes named count = (n : ℕ) → n < count → is_some (declared_in classes named (Prog n)) ≡ false

-- a member of the library whose name and descriptor no member of the set has
pub record IsAlone (classes : List Class) (m : MemberAt) : Type 0 where
  pub library : is_program m.class ≡ false
  pub none : (n : ℕ) → is_some (declared_in classes (named_at classes m) (Prog n)) ≡ false

-- so it is with each member of a class for which a list says false
abbrev pub AreAlone : List Class → ClassId → List Bool → Type 0
AreAlone classes c flags =
    (k : ℕ) → slice_get flags k ≡ Some false → IsAlone classes (record { class = c; index = k })

-- it is no class of the program that has a member of this name and descriptor
abbrev pub IsUndeclared : List Class → NameAndType → ClassId → Type 0
IsUndeclared classes named (Prog n) = is_some (declared_in classes named (Prog n)) ≡ false
IsUndeclared classes named (Lib id) = Unit {0}

-- so it is with each of these
abbrev pub AreUndeclared : List Class → NameAndType → List ClassId → Type 0
AreUndeclared classes named cs = AllByRecursion (IsUndeclared classes named) cs

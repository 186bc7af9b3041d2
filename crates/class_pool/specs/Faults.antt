-- What makes files no set: three rounds, each over all classes in set order, the first fault counting
-- (the project's own: which files are taken as a set).
use Rattle.std.specs.Prelude.{◌≡◌, ◌<◌, ◌⊎◌, slice_get, ℕ, nat_eq, Bool, true, false, not, ◌&&◌, ◌||◌}
use Rattle.std.specs.Prelude.{List, [], ◌∷◌, ◌++◌, map, codes, Option, Some, None, Result, Ok, Err}
use Rattle.std.specs.Prelude.{if◌then◌else◌}
use Rattle.std.specs.List.{AllPairs, list_any, starts_with}
use Rattle.std.specs.Option.{is_none, option_map_or}
use Rattle.std.specs.Cmp.Lexicographic.{slice_cmp}
use Rattle.std.specs.Ordering.{nat_cmp, is_lt}
use Rattle.jv_base.specs.Names.{is_text}
use Rattle.jv_base.specs.declared.outcome.Or.{Or}
use Rattle.jv_base.specs.declared.outcome.Or.TheVariants.{Fault, OutOfMemory}
use Rattle.class_model.specs.Flags.{is_interface}
use Rattle.class_model.specs.declared.class.Class.{Class}
use Rattle.class_pool.specs.declared.fault.NamedClass.{NamedClass}
use Rattle.class_pool.specs.declared.fault.PoolFault.{PoolFault}
use Rattle.class_pool.specs.declared.fault.PoolKind.{PoolKind}
use Rattle.class_pool.specs.declared.fault.PoolKind.TheVariants.{NameMismatch, LibraryName, SuperMissing, SuperKind}
use Rattle.class_pool.specs.declared.fault.PoolKind.TheVariants.{Cycle}
use Rattle.class_pool.specs.Hierarchy.{class_named, kind_in, is_interface_kind, is_open_kind}
use Rattle.class_pool.specs.Supertypes.{IsCyclic, NoCycle}

-- the paths ascend
abbrev pub Ascends : List NamedClass → Type 0
Ascends files = AllPairs (λ a b. is_lt (slice_cmp nat_cmp a.path b.path) ≡ true) files

-- the classes of files, in their order
abbrev pub classes_of : List NamedClass → List Class
classes_of files = map (λ f. f.class) files

-- the fault of the first class that has one
abbrev pub fault_of : Class → Option PoolKind → Result (Unit {0}) PoolFault → Result (Unit {0}) PoolFault
fault_of c (Some kind) others = Err (record { class = c.name; kind = kind })
fault_of c None others = others

-- the fault of the first item whose class has one
abbrev pub first_fault : {A : Type 0} → (A → Class) → (A → Option PoolKind) → List A → Result (Unit {0}) PoolFault
first_fault class kind [] = Ok tt
first_fault class kind (x ∷ xs) = fault_of (class x) (kind x) (first_fault class kind xs)

-- first round: the path is not the name with `.class` behind it, or the name is one of the library's packages
-- (JVMS 5.3.5; that the library's packages are closed is the project's own)
abbrev pub name_fault : NamedClass → Option PoolKind
name_fault f =
    if not (is_text f.path (f.class.name ++ codes ".class")) then Some NameMismatch
    else if starts_with nat_eq f.class.name (codes "java/") then Some LibraryName
    else None

-- the fault of the first file that has one in the first round
abbrev pub name_faults : List NamedClass → Result (Unit {0}) PoolFault
name_faults files = first_fault (λ f. f.class) name_fault files

-- second round: a direct supertype isn't there (JVMS 5.3.5, 5.4.3.1)
abbrev pub is_super_missing : List Class → Class → Bool
is_super_missing classes c =
    is_none (class_named classes c.super_name) || list_any (λ name. is_none (class_named classes name)) c.interfaces

-- a superclass that is an interface or final (JVMS 5.3.5, IncompatibleClassChangeError, and 4.10)
abbrev pub is_wrong_superclass : List Class → Class → Bool
is_wrong_superclass classes c =
    option_map_or (λ id. not (is_open_kind (kind_in classes id))) (class_named classes c.super_name) false

-- a direct superinterface that is none (JVMS 5.3.5, IncompatibleClassChangeError)
abbrev pub is_wrong_interface : List Class → List ℕ → Bool
is_wrong_interface classes name = option_map_or (λ id. not (is_interface_kind (kind_in classes id)))
    (class_named classes name) false

-- or an interface whose superclass isn't Object (JVMS 4.1, 4.10, 5.3.5)
abbrev pub is_super_wrong : List Class → Class → Bool
is_super_wrong classes c =
    is_wrong_superclass classes c
    || list_any (is_wrong_interface classes) c.interfaces
    || (is_interface c.flags.0 && not (is_text c.super_name (codes "java/lang/Object")))

-- what is wrong with a class's direct supertypes (JVMS 4.1, 4.10, 5.3.5)
abbrev pub super_fault : List Class → Class → Option PoolKind
super_fault classes c =
    if is_super_missing classes c then Some SuperMissing
    else if is_super_wrong classes c then Some SuperKind
    else None

-- the fault of the first class that has one in the second round
abbrev pub super_faults : List Class → Result (Unit {0}) PoolFault
super_faults classes = first_fault (λ c. c) (super_fault classes) classes

-- the second round, where the first one has no fault
abbrev pub then_super_faults : List NamedClass → Result (Unit {0}) PoolFault → Result (Unit {0}) PoolFault
then_super_faults files (Err e) = Err e
then_super_faults files (Ok _) = super_faults (classes_of files)

-- the first two rounds
abbrev pub first_faults : List NamedClass → Result (Unit {0}) PoolFault
first_faults files = then_super_faults files (name_faults files)

-- third round: the fault names it (JVMS 5.3.5, ClassCircularityError)
abbrev pub IsFirstCycle : List Class → PoolFault → Type 0
IsFirstCycle classes f =
    (n : ℕ) × (c : Class) × (slice_get classes n ≡ Some c) × (f ≡ record { class = c.name; kind = Cycle })
    × IsCyclic classes n
    × ((m : ℕ) → m < n → IsCyclic classes m → ⊥)

-- the classes of the files, where no round has a fault; else the first fault
abbrev pub Builds : Result (List Class) (Or PoolFault) → List NamedClass → Type 0
Builds (Ok set) files = (first_faults files ≡ Ok tt) × NoCycle (classes_of files) × (set ≡ classes_of files)
Builds (Err (Fault f)) files = (first_faults files ≡ Err f)
    ⊎ ((first_faults files ≡ Ok tt) × IsFirstCycle (classes_of files) f)
Builds (Err OutOfMemory) files = Unit {0}

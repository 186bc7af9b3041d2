-- What a closed set has with each class and each member, as statements on all sets of classes (the project's own). An
-- item without a number, as one of the library, is in each set.
use Rattle.std.specs.Prelude.{◌≡◌, ℕ, ◌+◌, Bool, true, false, List, length, Some, IfSome, slice_get}
use Rattle.std.specs.List.{AllByRecursion}
use Rattle.std.specs.Option.{option_map_or}
use Rattle.mark_core.specs.Marks.{Closed}
use Rattle.class_model.specs.declared.class.Class.{Class}
use Rattle.class_model.specs.declared.class.Field.{Field}
use Rattle.class_model.specs.declared.class.Method.{Method}
use Rattle.class_pool.specs.Found.{is_instance_method, is_private_member}
use Rattle.class_pool.specs.Hierarchy.{interfaces, superclass}
use Rattle.class_pool.specs.Items.{class_item}
use Rattle.class_pool.specs.Resolution.{is_interface_in}
use Rattle.class_pool.specs.Selection.{selected}
use Rattle.class_pool.specs.Supers.{is_below}
use Rattle.class_pool.specs.Walk.{same_class}
use Rattle.class_pool.specs.declared.id.ClassId.TheVariants.{Prog}
use Rattle.class_pool.specs.declared.id.MemberAt.{MemberAt}
use Rattle.require_sys.specs.Requires.{Item, OfClass, OfMember, class_wants, field_wants, method_wants, number_of}
use Rattle.require_sys.specs.Requires.{requires}
use Rattle.require_sys.specs.declared.kept.KeptByRules.{KeptByRules}

-- an item is in the set of numbers, if it has a number
abbrev pub is_in : List Class → (ℕ → Bool) → Item → Bool
is_in classes set item = option_map_or set (number_of classes item) true

-- each of these is
abbrev pub AreIn : List Class → (ℕ → Bool) → List Item → Type 0
AreIn classes set items = AllByRecursion (λ item. is_in classes set item ≡ true) items

-- with a class its direct supertypes (JVMS 4.1)
abbrev pub KeepsSupertypes : Type 0
KeepsSupertypes = (classes : List Class) (kept : KeptByRules) (set : ℕ → Bool) → Closed (requires classes kept) set
    → (n : ℕ) (c : Class) → slice_get classes n ≡ Some c → set (class_item classes n) ≡ true
    → IfSome (superclass classes (Prog n)) (λ y. is_in classes set (OfClass y) ≡ true)
    × AllByRecursion (λ y. is_in classes set (OfClass y) ≡ true) (interfaces classes (Prog n))

-- with a class what it wants
abbrev pub KeepsForClass : Type 0
KeepsForClass = (classes : List Class) (kept : KeptByRules) (set : ℕ → Bool) → Closed (requires classes kept) set
    → (n : ℕ) (c : Class) → slice_get classes n ≡ Some c → set (class_item classes n) ≡ true
    → AreIn classes set (class_wants classes kept n c)

-- with a field what it wants
abbrev pub KeepsForField : Type 0
KeepsForField = (classes : List Class) (kept : KeptByRules) (set : ℕ → Bool) → Closed (requires classes kept) set
    → (n : ℕ) (c : Class) → slice_get classes n ≡ Some c → (k : ℕ) (f : Field) → slice_get c.fields k ≡ Some f
    → set (class_item classes n + 1 + k) ≡ true → AreIn classes set (field_wants classes n f)

-- with a method what it wants
abbrev pub KeepsForMethod : Type 0
KeepsForMethod = (classes : List Class) (kept : KeptByRules) (set : ℕ → Bool) → Closed (requires classes kept) set
    → (n : ℕ) (c : Class) → slice_get classes n ≡ Some c → (k : ℕ) (m : Method) → slice_get c.methods k ≡ Some m
    → set (class_item classes n + 1 + (length c.fields + k)) ≡ true
    → AreIn classes set (method_wants classes n kept m)

-- with a class that is no interface, and an instance method above it that isn't private, the method that runs where
-- that one is called on an object of the class (JVMS 5.4.5, 6.5)
abbrev pub KeepsSelected : Type 0
KeepsSelected = (classes : List Class) (kept : KeptByRules) (set : ℕ → Bool) → Closed (requires classes kept) set
    → (n : ℕ) (c : Class) (m : MemberAt) → slice_get classes n ≡ Some c → set (class_item classes n) ≡ true
    → is_interface_in classes (Prog n) ≡ false → is_in classes set (OfMember m) ≡ true
    → is_below classes (Prog n) m.class ≡ true → same_class (Prog n) m.class ≡ false
    → is_instance_method classes m ≡ true → is_private_member classes m ≡ false
    → IfSome (selected classes (Prog n) m) (λ s. is_in classes set (OfMember s) ≡ true)

-- Classes above another one that stand for it: the same methods run in them (only the proof of system_of needs it).
use Rattle.std.specs.Prelude.{◌≡◌, ◌<◌, ℕ, false, true, List, [], length, slice_index_or}
use Rattle.std.specs.List.{filter_map}
use Rattle.class_model.specs.declared.class.Class.{Class}
use Rattle.class_pool.specs.Found.{is_instance_method}
use Rattle.class_pool.specs.Resolution.{is_class_below, is_interface_in}
use Rattle.class_pool.specs.Walk.{own_superinterfaces}
use Rattle.class_pool.specs.declared.id.ClassId.TheVariants.{Prog}
use Rattle.require_sys.specs.Requires.{instance_methods, library_supers, methods_above}
use Rattle.item_numbers.specs.bodies.Selecting.{called_item, pair_with}

-- no member of a class is an instance method
abbrev pub HasNoMethod : List Class → ℕ → Type 0
HasNoMethod classes n = (k : ℕ) → is_instance_method classes (record { class = Prog n; index = k }) ≡ false

-- a class has neither instance methods nor superinterfaces itself, and the class above it is no interface
pub record IsBlank (classes : List Class) (n p : ℕ) : Type 0 where
  pub own : own_superinterfaces classes (Prog n) ≡ []
  pub methods : HasNoMethod classes n
  pub above : is_interface_in classes (Prog p) ≡ false

-- in two classes the same methods run, where the library calls those that it knows, and where those of the program are
-- called
pub record IsTop (classes : List Class) (n top : ℕ) : Type 0 where
  pub there : top < length classes
  pub called : filter_map (called_item classes n) (instance_methods classes (library_supers classes (Prog n)))
      ≡ filter_map (called_item classes top) (instance_methods classes (library_supers classes (Prog top)))
  pub pairs : (own : ℕ) → filter_map (pair_with classes own n) (methods_above classes (Prog n))
      ≡ filter_map (pair_with classes own top) (methods_above classes (Prog top))

-- above two classes the same classes of the library are
pub record IsLibraryTop (classes : List Class) (n top : ℕ) : Type 0 where
  pub there : top < length classes
  pub same : library_supers classes (Prog n) ≡ library_supers classes (Prog top)

-- for each number below a bound there is one that is as it has to be
pub record AreGiven (Is : ℕ → ℕ → Type 0) (bound : ℕ) (numbers : List ℕ) : Type 0 where
  pub count : length numbers ≡ bound
  pub each : (n : ℕ) → n < bound → Is n (slice_index_or numbers n 0)

-- for each class there is such a class
abbrev pub AreTops : List Class → List ℕ → Type 0
AreTops classes tops = AreGiven (IsTop classes) (length classes) tops

abbrev pub AreLibraryTops : List Class → List ℕ → Type 0
AreLibraryTops classes tops = AreGiven (IsLibraryTop classes) (length classes) tops

-- each class is one that is given for it, or a superclass of that
abbrev pub AreAbove : List Class → List ℕ → Type 0
AreAbove classes below =
    AreGiven (λ n k. is_class_below classes (Prog k) (Prog n) ≡ true) (length classes) below

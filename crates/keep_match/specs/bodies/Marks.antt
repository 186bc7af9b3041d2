-- What is marked while rules are gone over (only the proof of seeds_of needs it).
use Rattle.std.specs.Prelude.{◌≡◌, ◌<◌, ℕ, ◌==◌, Bool, true, false, ◌||◌, List, [], ◌∷◌, ◌++◌, length, map, take, Some}
use Rattle.std.specs.Prelude.{◌⊎◌, slice_get, slice_index_or, slice_set, if◌then◌else◌}
use Rattle.std.specs.List.{list_any}
use Rattle.std.specs.Str.{IsUtf8, chars}
use Rattle.report_text.specs.Spelled.{class_text}
use Rattle.class_model.specs.declared.class.Class.{Class}
use Rattle.class_pool.specs.Count.{items_of}
use Rattle.keep_rules.specs.declared.rules.Filter.{Filter}
use Rattle.keep_rules.specs.declared.rules.Keep.{Keep}
use Rattle.keep_rules.specs.declared.rules.MemberSpec.{MemberSpec}
use Rattle.keep_match.specs.Matches.{matches_field, matches_method}
use Rattle.keep_match.specs.Seeds.{are_kept, keeps_class}

-- one value or the other at each place of the first list (only the proof of seeds_of needs it)
abbrev pub or_each : List Bool → List Bool → List Bool
or_each [] ys = []
or_each (x ∷ xs) [] = x ∷ xs
or_each (x ∷ xs) (y ∷ ys) = (x || y) ∷ or_each xs ys

-- for each member of a class whether one of the specifications matches it (only the proof of seeds_of needs it)
abbrev pub members_kept : List MemberSpec → Class → List Bool
members_kept specs c = map (λ f. list_any (λ spec. matches_field spec f) specs) c.fields
    ++ map (λ m. list_any (λ spec. matches_method spec m) specs) c.methods

-- what one more rule makes of the marks of a class and its members (only the proof of seeds_of needs it)
abbrev pub marked : List Class → ℕ → Class → Keep → List Bool → List Bool
marked classes n c k row =
    if keeps_class classes n c k then or_each row (true ∷ members_kept k.spec.members c) else row

-- the marks of the n-th class (only the proof of seeds_of needs it)
abbrev pub row_at : List (List Bool) → ℕ → List Bool
row_at rows n = slice_index_or rows n []

-- each class has its marks, one for itself and one for each member (only the proof of seeds_of needs it)
pub record AreRows (classes : List Class) (rows : List (List Bool)) : Type 0 where
  pub count : length rows ≡ length classes
  pub widths : (n : ℕ) (c : Class) → slice_get classes n ≡ Some c → length (row_at rows n) ≡ items_of c

-- the marks are those of these rules (only the proof of seeds_of needs it)
pub record HasRows (classes : List Class) (keeps : List Keep) (rows : List (List Bool)) : Type 0 where
  pub count : length rows ≡ length classes
  pub each : (n : ℕ) (c : Class) → slice_get classes n ≡ Some c → row_at rows n ≡ are_kept keeps classes (n, c)

-- one more rule has marked a class (only the proof of seeds_of needs it)
abbrev pub IsDone : List Class → Keep → List (List Bool) → List (List Bool) → ℕ → Type 0
IsDone classes k old new n = (c : Class) → slice_get classes n ≡ Some c
    → row_at new n ≡ marked classes n c k (row_at old n)

-- all classes have the marks of one more rule (only the proof of seeds_of needs it)
pub record AreMarked (classes : List Class) (k : Keep) (old new : List (List Bool)) : Type 0 where
  pub count : length new ≡ length old
  pub each : (n : ℕ) → n < length classes → IsDone classes k old new n

-- ---- rules that name their classes

-- `*` and `?` (ProGuard manual, "Class Specifications")
abbrev pub is_wildcard : ℕ → Bool
is_wildcard c = c == 42 || c == 63

-- a pattern without wildcards, not behind a `!` (only the proof of seeds_of needs it)
pub record IsLiteral (f : Filter) : Type 0 where
  pub positive : f.negated ≡ false
  pub free : list_any is_wildcard (chars f.pattern) ≡ false
  pub text : IsUtf8 f.pattern

-- so is each of these (only the proof of seeds_of needs it)
abbrev pub AreLiteral : ℕ → List Filter → Type 0
AreLiteral n filters = (j : ℕ) (f : Filter) → j < n → slice_get filters j ≡ Some f → IsLiteral f

-- the names of the first classes with dots, no two of them equal (only the proof of seeds_of needs it)
pub record AreNames (classes : List Class) (count : ℕ) (names : List (List ℕ)) : Type 0 where
  pub are : names ≡ map class_text (take count classes)
  pub texts : (n : ℕ) (c : Class) → n < count → slice_get classes n ≡ Some c → IsUtf8 c.name
  pub differ : (m n : ℕ) (a b : Class) → m < n → n < count → slice_get classes m ≡ Some a → slice_get classes n ≡ Some b
      → class_text a ≡ class_text b → ⊥

-- the one class with a name (only the proof of seeds_of needs it)
pub record IsNumber (classes : List Class) (name : List ℕ) (n : ℕ) : Type 0 where
  pub there : n < length classes
  pub named : (c : Class) → slice_get classes n ≡ Some c → class_text c ≡ name
  pub only : (m : ℕ) (c : Class) → slice_get classes m ≡ Some c → class_text c ≡ name → m ≡ n

-- no class has a name (only the proof of seeds_of needs it)
abbrev pub IsUnnamed : List Class → List ℕ → Type 0
IsUnnamed classes name = (n : ℕ) (c : Class) → slice_get classes n ≡ Some c → class_text c ≡ name → ⊥

-- some classes have the marks of one more rule, and the others their old ones (only the proof of seeds_of needs it)
pub record IsMarking (classes : List Class) (k : Keep) (old new : List (List Bool)) : Type 0 where
  pub count : length new ≡ length old
  pub each : (n : ℕ) (c : Class) → slice_get classes n ≡ Some c
      → (row_at new n ≡ row_at old n) ⊎ (row_at new n ≡ marked classes n c k (row_at old n))

-- the marks of one class are those of one more rule (only the proof of seeds_of needs it)
abbrev pub IsPut : List Class → Keep → List (List Bool) → List (List Bool) → ℕ → Type 0
IsPut classes k old new n = (c : Class) → slice_get classes n ≡ Some c
    → new ≡ slice_set old n (marked classes n c k (row_at old n))

-- some more classes have the marks of one more rule, whichever marks they had before (only the proof of seeds_of needs
-- it)
pub record AreAdded (classes : List Class) (k : Keep) (now new : List (List Bool)) (IsNow : ℕ → Type 0) : Type 0 where
  pub marking : (old : List (List Bool)) → length old ≡ length classes → IsMarking classes k old now
      → IsMarking classes k old new
  pub stays : (old : List (List Bool)) (n : ℕ) → length old ≡ length classes → IsMarking classes k old now
      → IsDone classes k old now n → IsDone classes k old new n
  pub done : (old : List (List Bool)) (n : ℕ) → length old ≡ length classes → IsMarking classes k old now → IsNow n
      → IsDone classes k old new n

-- the class of a number has a name (only the proof of seeds_of needs it)
abbrev pub IsNamed : List Class → List ℕ → ℕ → Type 0
IsNamed classes name n = (c : Class) × (slice_get classes n ≡ Some c) × (class_text c ≡ name)

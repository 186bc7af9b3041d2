-- The nearest instance method of each number from a class upwards, as it is noted (only the proof of system_of needs
-- it).
use Rattle.std.specs.Prelude.{◌≡◌, ◌≤◌, ◌<◌, ℕ, ◌==◌, Bool, true, false, List, [], ◌∷◌, Option, Some, None}
use Rattle.std.specs.Prelude.{if◌then◌else◌, length, slice_get, slice_index_or, ◌⊎◌}
use Rattle.std.specs.List.{All, find, flat_map}
use Rattle.class_model.specs.declared.class.Class.{Class}
use Rattle.class_pool.specs.Resolution.{is_class_below}
use Rattle.class_pool.specs.declared.id.ClassId.{ClassId}
use Rattle.class_pool.specs.declared.id.ClassId.TheVariants.{Prog, Lib}
use Rattle.method_places.specs.declared.methods.InstanceMethod.{InstanceMethod}
use Rattle.method_places.specs.declared.methods.Openness.{Openness}
use Rattle.method_places.specs.declared.methods.Openness.TheVariants.{Abstract, Open, Package, Private}
use Rattle.method_places.specs.declared.nearest.Note.{Note}

-- ---- the classes of the program

-- the classes in front of the first one of the library
abbrev pub program_front : List ClassId → List ClassId
program_front [] = []
program_front (Prog n ∷ cs) = Prog n ∷ program_front cs
program_front (Lib id ∷ cs) = []

-- the rows of a class in a table
abbrev pub rows_by : List (List InstanceMethod) → ClassId → List InstanceMethod
rows_by table (Prog n) = slice_index_or table n []
rows_by table (Lib id) = []

-- those of the classes in front
abbrev pub front_rows : List (List InstanceMethod) → List ClassId → List InstanceMethod
front_rows table cs = flat_map (rows_by table) (program_front cs)

-- a class of the program has a number below this one
abbrev pub IsBefore : ℕ → ClassId → Type 0
IsBefore count (Prog n) = n < count
IsBefore count (Lib id) = Unit {0}

-- a row stands in the table as one of a class
abbrev pub IsListed : List (List InstanceMethod) → ℕ → InstanceMethod → Type 0
IsListed table n row = (k : ℕ) × (slice_get (slice_index_or table n []) k ≡ Some row)

-- ---- notes

-- the first row with a number
abbrev pub row_with : ℕ → List InstanceMethod → Option InstanceMethod
row_with number rows = find (λ row. row.number == number) rows

-- what a note says to those who have its stamp
abbrev pub noted : ℕ → Option Note → Option InstanceMethod
noted stamp (Some note) = if note.stamp == stamp then Some note.row else None
noted stamp None = None

-- for each number but 0 the first of these rows is noted
abbrev pub AreNoted : ℕ → List InstanceMethod → List Note → Type 0
AreNoted stamp rows notes = (number : ℕ) → 0 < number → number < length notes
    → noted stamp (slice_get notes number) ≡ row_with number rows

-- no note has a stamp above this one
abbrev pub AreUpTo : ℕ → List Note → Type 0
AreUpTo stamp notes = All (λ note. note.stamp ≤ stamp) notes

-- ---- what runs

-- no other class has it (JVMS 5.4.5)
abbrev pub is_hidden : Openness → Bool
is_hidden (Private) = true
is_hidden _ = false

-- methods of its package or of all packages may override it, so that it may override others (JVMS 5.4.5)
abbrev pub is_overriding : Openness → Bool
is_overriding (Package) = true
is_overriding (Open) = true
is_overriding _ = false

-- it is known that the nearest method runs where that of a row is called: it is that one, that one is of an interface,
-- or the nearest one overrides it
abbrev pub Runs : List Class → ℕ → InstanceMethod → InstanceMethod → Type 0
Runs classes run row nearest = (nearest.class ≡ row.class) ⊎ ((row.openness ≡ Abstract)
    ⊎ ((row.openness ≡ Open) × (is_overriding nearest.openness ≡ true)
    × (is_class_below classes (Prog run) (Prog row.class) ≡ true)))

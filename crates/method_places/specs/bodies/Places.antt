-- The instance methods that may override others, by name, descriptor and package (only the proof of system_of needs it).
use Rattle.std.specs.Prelude.{◌≡◌, ℕ, ◌+◌, ◌*◌, ◌==◌, nat_lt, Bool, true, false, ◌||◌, List, map, Option, Some, None}
use Rattle.std.specs.Prelude.{if◌then◌else◌, slice_get}
use Rattle.std.specs.List.{filter_map, position}
use Rattle.std.specs.List.Sorted.{IsSorted}
use Rattle.std.specs.Option.{option_and_then, option_map_or}
use Rattle.std.specs.Ordering.{nat_cmp}
use Rattle.jv_base.specs.Names.{is_text}
use Rattle.class_model.specs.declared.class.Class.{Class}
use Rattle.class_pool.specs.Found.{package_of}
use Rattle.method_places.specs.bodies.Alike.{place_of}
use Rattle.method_places.specs.bodies.Nearest.{is_overriding}
use Rattle.method_places.specs.declared.methods.InstanceMethod.{InstanceMethod}
use Rattle.method_places.specs.declared.methods.Openness.{Openness}
use Rattle.method_places.specs.declared.methods.Openness.TheVariants.{Open}
use Rattle.method_places.specs.declared.places.Part.{Part}
use Rattle.method_places.specs.declared.places.Part.TheVariants.{Each, Open as OfOpen}
use Rattle.method_places.specs.declared.places.Places.{Places}

-- the place of the name of a package among others, and the highest number where it isn't there
abbrev pub package_number : List (List ℕ) → List ℕ → ℕ
package_number names name = option_map_or (λ p. p) (position (is_text name) names) 18446744073709551615

-- two numbers as one
abbrev pub joined : ℕ → ℕ → Option ℕ
joined number home =
    if number == 0 || (nat_lt 4294967295 number || nat_lt 4294967295 home) then None
    else Some (number * 4294967296 + home)

-- those of the name and descriptor and of the package of a method
abbrev pub key_in : List ℕ → InstanceMethod → Option ℕ
key_in packages row = option_and_then (joined row.number) (slice_get packages row.class)

-- the place of a key that is there
abbrev pub place_where : ℕ → ℕ → Option ℕ → ℕ
place_where place key (Some found) = if found == key then place + 1 else 0
place_where place key None = 0

abbrev pub place_at : List ℕ → ℕ → ℕ
place_at keys key = place_where (place_of keys key) key (slice_get keys (place_of keys key))

-- the place of a method that may override others
abbrev pub place_in : List ℕ → List ℕ → InstanceMethod → ℕ
place_in packages keys row =
    if is_overriding row.openness then option_map_or (place_at keys) (key_in packages row) 0 else 0

-- a method is one of a part
abbrev pub is_part : Part → Openness → Bool
is_part (Each) openness = true
is_part (OfOpen) openness = is_open openness where
  is_open : Openness → Bool
  is_open (Open) = true
  is_open _ = false

-- a row with another number
abbrev pub with_number : InstanceMethod → ℕ → InstanceMethod
with_number row number = record {
  class = row.class;
  index = row.index;
  item = row.item;
  openness = row.openness;
  number = number;
}

-- the row of a method of a part with its place as its number, if it has one
abbrev pub part_row : List ℕ → List ℕ → Part → InstanceMethod → Option InstanceMethod
part_row packages keys part row =
    if is_part part row.openness then (if place_in packages keys row == 0 then None
    else Some (with_number row (place_in packages keys row))) else None

-- the methods of a table with their places
pub record HavePlaces (classes : List Class) (table : List (List InstanceMethod)) (places : Places) : Type 0 where
  pub names : List (List ℕ)
  pub packages : places.packages ≡ map (λ c. package_number names (package_of c.name)) classes
  pub sorted : IsSorted nat_cmp places.keys.items
  pub each : places.each ≡ map (filter_map (part_row places.packages places.keys.items Each)) table
  pub opening : places.opening ≡ map (filter_map (part_row places.packages places.keys.items OfOpen)) table

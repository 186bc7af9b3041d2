-- The methods that may override others and have the name and descriptor of a private one (only the proof of system_of
-- needs it).
use Rattle.std.specs.Prelude.{◌≡◌, ℕ, ◌&&◌, nat_lt, Bool, false, List, length, map, Option, Some, None}
use Rattle.std.specs.Prelude.{if◌then◌else◌, slice_index_or}
use Rattle.std.specs.List.{filter_map}
use Rattle.method_places.specs.bodies.Nearest.{is_overriding}
use Rattle.method_places.specs.declared.methods.InstanceMethod.{InstanceMethod}
use Rattle.override_pairs.specs.declared.free.Free.{Free}

-- a number is marked
abbrev pub is_marked : List Bool → ℕ → Bool
is_marked hidden number = nat_lt number (length hidden) && slice_index_or hidden number false

-- a method may override others, and its number is marked
abbrev pub is_free : List Bool → InstanceMethod → Bool
is_free hidden row = is_overriding row.openness && is_marked hidden row.number

abbrev pub free_row : List Bool → InstanceMethod → Option InstanceMethod
free_row hidden row = if is_free hidden row then Some row else None

-- these are those of each class
abbrev pub HasFree : List (List InstanceMethod) → Free → Type 0
HasFree table free = free.rows ≡ map (filter_map (free_row free.hidden.items)) table

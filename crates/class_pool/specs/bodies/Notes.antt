-- From which class on upwards members are to be looked for, as it is noted (only the proof of ClassSet needs it).
use Rattle.std.specs.Prelude.{ℕ, List, length, map, Option, Some, None}
use Rattle.std.specs.List.{prefix_len}
use Rattle.std.specs.List.Sorted.{IsSorted}
use Rattle.std.specs.Option.{option_map_or}
use Rattle.tree_notes.specs.Notes.{IsNearest}
use Rattle.class_pool.specs.bodies.ByName.{Key, is_before, key_cmp, number_at}
use Rattle.class_pool.specs.Found.{NameAndType}
use Rattle.class_pool.specs.declared.id.ClassId.{ClassId}
use Rattle.class_pool.specs.declared.id.ClassId.TheVariants.{Lib, Prog}
use Rattle.class_pool.specs.declared.set.members.MemberIndex.{MemberIndex}
use Rattle.class_pool.specs.declared.set.notes.MemberNotes.{MemberNotes}

-- how many keys stand before those of a name and a descriptor
abbrev pub place_in : List Key → NameAndType → ℕ
place_in keys named = prefix_len (is_before named.0 named.1) keys

-- the number of a name and a descriptor that a key has; of all others it is how many keys there are
abbrev pub number_in : List Key → NameAndType → ℕ
number_in keys named = option_map_or (λ n. place_in keys named)
    (number_at keys (place_in keys named) named.0 named.1) (length keys)

-- the numbers of the members of a class
abbrev pub numbers_of : List Key → MemberIndex → List ℕ
numbers_of keys index = map (λ (key : Key). number_in keys (key.0, key.1.0)) index.keys.items

-- the number of a class of the set
abbrev pub program_of : Option ClassId → Option ℕ
program_of (Some (Prog n)) = Some n
program_of (Some (Lib id)) = None
program_of None = None

-- for the class and the number of each member it is noted where to look for it, in the tree of superclasses
pub record IsNoted (above : List (Option ClassId)) (members : List MemberIndex) (notes : MemberNotes) : Type 0 where
  pub order : IsSorted key_cmp notes.keys.items
  pub nearest : IsNearest (map program_of above) (map (numbers_of notes.keys.items) members) notes.nearest

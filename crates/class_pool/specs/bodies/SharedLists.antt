-- Lists of which one may be the end of another (only the proof of ClassSet needs it).
use Rattle.std.specs.Prelude.{◌≡◌, ◌-◌, ◌<◌, ◌≤◌, ℕ, List, [], ◌∷◌, drop, length, slice_index_or}
use Rattle.class_pool.specs.declared.hierarchy.shared_lists.Place.{Place}
use Rattle.class_pool.specs.declared.id.ClassId.{ClassId}

-- places for classes, those before the first one free
pub record Places : Type 0 where
  pub first : ℕ
  pub ids : List ClassId

-- no place
abbrev pub no_places : Places
no_places = record { first = 0; ids = [] }

-- the place is taken, or the end
abbrev pub IsIn : Places → ℕ → Type 0
IsIn block k = (block.first ≤ k) × (k ≤ length block.ids)

-- the class stands before a place
abbrev pub StandsBefore : Places → ℕ → ClassId → Type 0
StandsBefore block k c = (block.first < k) × (drop (k - 1) block.ids ≡ c ∷ drop k block.ids)

-- what is taken stays
abbrev pub Stays : Places → Places → Type 0
Stays old new = (k : ℕ) → IsIn old k → IsIn new k × (drop k new.ids ≡ drop k old.ids)

-- the block of a place
abbrev pub block_at : List Places → Place → Places
block_at blocks p = slice_index_or blocks p.block no_places

-- the list at a place
abbrev pub ids_at : List Places → Place → List ClassId
ids_at blocks p = drop p.start (block_at blocks p).ids

-- the place is one of a block
abbrev pub IsTaken : List Places → Place → Type 0
IsTaken blocks p = (p.block < length blocks) × IsIn (block_at blocks p) p.start

-- each list stays as it is
abbrev pub Keeps : List Places → List Places → Type 0
Keeps old new = (p : Place) → IsTaken old p → IsTaken new p × (ids_at new p ≡ ids_at old p)

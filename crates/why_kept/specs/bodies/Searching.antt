-- The state of the search for levels (only the proof of `why` needs it).
use Rattle.std.specs.Prelude.{◌≡◌, ◌⊎◌, ◌==◌, ℕ, ◌+◌, ◌<◌, ◌≤◌, length, List}
use Rattle.std.specs.List.{All, Contains, count_by}
use Rattle.mark_core.specs.Marks.{needs_of}
use Rattle.mark_core.specs.declared.system.Pair.{Pair}
use Rattle.mark_core.specs.declared.system.System.{System}
use Rattle.why_kept.specs.Derivations.{IsDerivedAt}
use Rattle.why_kept.specs.Levels.{level_of, level_of_pair}
use Rattle.why_kept.specs.bodies.ByItem.{HasItem}
use Rattle.why_kept.specs.declared.search.Search.{Search}

module _ (sys : System) where
  -- the level of an item so far
  abbrev pub level_in : Search → ℕ → ℕ
  level_in search x = level_of sys search.levels.items x

  -- the item has one
  abbrev pub Has : Search → ℕ → Type 0
  Has search x = level_in search x < sys.n

  -- how many items are still to be found or taken
  abbrev pub left : Search → ℕ
  left search = count_by (λ level. level == sys.n) search.levels.items + length search.found.items

  -- levels so far are depths of derivations, up to this level, which those that were found last have
  pub record IsSound (level : ℕ) (search : Search) : Type 0 where
    pub count : length search.levels.items ≡ sys.n
    pub most : (x : ℕ) → level_in search x ≤ sys.n
    pub up_to : (x : ℕ) → Has search x → level_in search x ≤ level
    pub last : (x : ℕ) → Has search x → level_in search x ≡ level → Contains search.found.items x
    pub found : All (λ x. (x < sys.n) × (level_in search x ≡ level)) search.found.items
    pub derived : (x : ℕ) → Has search x → IsDerivedAt sys x (level_in search x)

  -- no level changes, those that are found last stay, what has a level now was found last, and as many items are left
  pub record Grows (old new : Search) : Type 0 where
    pub keeps : (x : ℕ) → Has old x → level_in new x ≡ level_in old x
    pub lower : (x : ℕ) → level_in new x ≤ level_in old x
    pub waits : (x : ℕ) → Contains old.found.items x → Contains new.found.items x
    pub fresh : (x : ℕ) → Has new x → Has old x ⊎ Contains new.found.items x
    pub left : left new ≡ left old

  -- the items are near to this level
  abbrev pub AreNear : Search → ℕ → List ℕ → Type 0
  AreNear search level xs = All (λ x. level_in search x ≤ level) xs

  -- where both items of a pair have levels before this one, its consequence is near to it
  abbrev pub IsNearBy : Search → ℕ → Pair → Type 0
  IsNearBy search level pair = level_in search pair.one < level → level_in search pair.two < level → level_in search pair.derived ≤ level

  -- an item of the pair has the level before this one
  abbrev pub IsNext : Search → ℕ → Pair → Type 0
  IsNext search level pair = (level_in search pair.one + 1 ≡ level) ⊎ (level_in search pair.two + 1 ≡ level)

  -- the consequences of all pairs are that have the item
  abbrev pub ArePairsNear : Search → ℕ → ℕ → Type 0
  ArePairsNear search level x = All (λ pair. HasItem x pair → IsNearBy search level pair) sys.pairs

  -- where both items of a pair have levels, one of them waits or the consequence has at most one more than the greater
  abbrev pub IsDone : Search → List ℕ → Pair → Type 0
  IsDone search waiting pair = Has search pair.one → Has search pair.two → Contains waiting pair.one
      ⊎ (Contains waiting pair.two
      ⊎ (level_in search pair.derived ≤ level_of_pair sys search.levels.items pair + 1))

  -- the levels are certified but for what the waiting items make due
  pub record IsOpen (level : ℕ) (waiting : List ℕ) (search : Search) : Type 0 where
    pub sound : IsSound level search
    pub seeds : All (λ x. level_in search x ≡ 0) sys.seeds
    pub needs : (x : ℕ) → Has search x → Contains waiting x ⊎ AreNear search (level_in search x + 1) (needs_of sys x)
    pub pairs : All (IsDone search waiting) sys.pairs

-- the items of the level before this one that are still to be taken
abbrev pub ArePresent : System → ℕ → List ℕ → Search → Type 0
ArePresent sys level present search = All (λ x. (x < sys.n) × (level_in sys search x + 1 ≡ level)) present

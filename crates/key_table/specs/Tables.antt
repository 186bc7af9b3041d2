-- Where the keys of a table stand (the project's own: only the proof of the table needs it).
use Rattle.std.specs.Prelude.{◌≡◌, ℕ, ◌<◌, Bool, false, List, length, Option, None, Some, IfSome, slice_get}
use Rattle.std.specs.Prelude.{if◌then◌else◌}
use Rattle.std.specs.declared.cmp.Ordering.{Ordering}
use Rattle.std.specs.Ordering.{nat_cmp}
use Rattle.std.specs.BTreeMap.{is_at}
use Rattle.std.specs.List.{position_from}
use Rattle.std.specs.Map.{lookup}

-- the place of the first key with the mark of this one
abbrev pub first_place : {K : Type 0} → (K → ℕ) → List (ℕ × ℕ) → K → Option ℕ
first_place mark firsts key = lookup (is_at (nat_cmp (mark key))) firsts

-- this key is the one that is there
abbrev pub is_there : {K : Type 0} → (K → K → Bool) → K → Option K → Bool
is_there eq key None = false
is_there eq key (Some there) = eq key there

module _ {K : Type 0} (cmp : K → K → Ordering) (eq : K → K → Bool) where
  -- the place of a key: that of the first with its mark, or among the others
  abbrev pub place_by : List K → List (K × ℕ) → K → Option ℕ → Option ℕ
  place_by keys others key None = None
  place_by keys others key (Some first) =
      if is_there eq key (slice_get keys first) then Some first else lookup (is_at (cmp key)) others

  -- each key is found where it stands; there is a first key with the mark of each of the others
  pub record ArePlaced (mark : K → ℕ) (keys : List K) (firsts : List (ℕ × ℕ)) (others : List (K × ℕ)) : Type 0 where
    pub found : (key : K) → place_by keys others key (first_place mark firsts key) ≡ position_from (eq key) 0 keys
    pub within : (key : K) → IfSome (first_place mark firsts key) (λ n. n < length keys)
    pub behind : (key : K) → first_place mark firsts key ≡ None → lookup (is_at (cmp key)) others ≡ None

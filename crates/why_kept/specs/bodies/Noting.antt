-- By what items are kept, as it is noted step by step (only the proof of `why` needs it).
use Rattle.std.specs.Prelude.{◌≡◌, ◌<◌, ◌==◌, ◌&&◌, ◌+◌, ℕ, Bool, true, false, List, length, slice_index_or}
use Rattle.std.specs.Prelude.{take, if◌then◌else◌}
use Rattle.std.specs.List.{find, list_any, range_with_len}
use Rattle.mark_core.specs.declared.system.System.{System}
use Rattle.why_kept.specs.Levels.{level_of}
use Rattle.why_kept.specs.Steps.{by_need, by_pair, follows_from, is_needed_by}
use Rattle.why_kept.specs.declared.reasons.By.{By}
use Rattle.why_kept.specs.declared.reasons.By.TheVariants as by

-- what is noted for an item
abbrev pub noted_at : List By → ℕ → By
noted_at sources x = slice_index_or sources x by.Seed

-- nothing but that the item is a seed is noted
abbrev pub is_seed : By → Bool
is_seed by.Seed = true
is_seed _ = false

-- where that is so and a test holds, this is noted
abbrev pub note_if : Bool → By → By → By
note_if test new old = if test && is_seed old then new else old

-- for each item what is noted, by a function of the items
pub record AreNoted (n : ℕ) (expected : ℕ → By) (sources : List By) : Type 0 where
  pub count : length sources ≡ n
  pub each : (x : ℕ) → x < n → noted_at sources x ≡ expected x

module _ (sys : System) (levels : List ℕ) where
  -- what needs of the first m items tell
  abbrev pub by_needs : ℕ → ℕ → By
  by_needs m x = by_need (find (is_needed_by sys levels x) (range_with_len 0 m)) by.Seed

  -- what all needs and the first m pairs tell
  abbrev pub by_pairs : ℕ → ℕ → By
  by_pairs m x = by_need (find (is_needed_by sys levels x) (range_with_len 0 sys.n))
      (by_pair (find (follows_from sys levels x) (take m sys.pairs)))

  -- the first m of the needs of an item have this one, of the level behind
  abbrev pub is_among : ℕ → List ℕ → ℕ → ℕ → Bool
  is_among item needs m x = (level_of sys levels x == level_of sys levels item + 1) && list_any (λ z. x == z) (take m needs)

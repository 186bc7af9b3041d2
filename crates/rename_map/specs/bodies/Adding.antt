-- Names that are added to others (only the proof of fixed_names needs it).
use Rattle.std.specs.Prelude.{◌≡◌, ◌||◌, Bool, List}
use Rattle.std.specs.List.{list_any}

-- the new ones are the old ones and these, by a test of being the same
pub record Adds {A : Type 0} (same : A → A → Bool) (old more new : List A) : Type 0 where
  pub each : (a : A) → list_any (same a) new ≡ (list_any (same a) old || list_any (same a) more)

-- Texts that were renamed before (only the proof of renaming needs it).
use Rattle.std.specs.Prelude.{◌≡◌, ℕ, List}
use Rattle.std.specs.List.{AllByRecursion}

-- each text of a table stands with what becomes of it
pub record AreKnown (becomes : List ℕ → List ℕ) (table : List (List ℕ × List ℕ)) : Type 0 where
  pub each : AllByRecursion (λ (e : List ℕ × List ℕ). e.1 ≡ becomes e.0) table

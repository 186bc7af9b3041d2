-- What is appended up to a limit (only the proof of write_mapping_within needs it).
use Rattle.std.specs.Prelude.{◌≡◌, ◌⊎◌, ◌≤◌, ◌<◌, ℕ, List, ◌++◌, length}

-- all of a text was appended; or as much of it as passes the limit
abbrev pub IsPushed : ℕ → List ℕ → List ℕ → List ℕ → Type 0
IsPushed limit old text new = (new ≡ old ++ text) ⊎ ((limit < length new) × (length new ≤ length (old ++ text)))

-- What steps have appended to a list that has a limit (only the proofs of bodies need it).
use Rattle.std.specs.Prelude.{◌≡◌, ◌≤◌, ◌<◌, ℕ, List, ◌++◌, length, Result, Ok, Err}
use Rattle.jv_base.specs.declared.outcome.Or.{Or}
use Rattle.jv_base.specs.declared.outcome.Or.TheVariants.{Fault, OutOfMemory}
use Rattle.list_texts.specs.declared.limit.TooLong.{TooLong}

-- the text has at most so many bytes
abbrev pub IsShort : Result (Unit {0}) (Or TooLong) → ℕ → List ℕ → Type 0
IsShort (Ok done) limit text = length text ≤ limit
IsShort (Err (Fault fault)) limit text = (fault ≡ record { limit = limit }) × (limit < length text)
IsShort (Err OutOfMemory) limit text = Unit {0}

-- lines were appended; or with them the text is longer than the limit
abbrev pub Appends : Result (Unit {0}) (Or TooLong) → ℕ → List ℕ → List ℕ → List ℕ → Type 0
Appends (Ok done) limit old lines new = new ≡ old ++ lines
Appends (Err (Fault fault)) limit old lines new = (fault ≡ record { limit = limit }) × (limit < length (old ++ lines))
Appends (Err OutOfMemory) limit old lines new = Unit {0}

-- What a sink has taken (the project's own: what is promised of output).
use Rattle.std.specs.Prelude.{◌≡◌, ℕ, List, ◌++◌, take, Option, Result, Ok, Err}
use Rattle.std.specs.Option.{option_map}
use Rattle.tree_io.specs.Count.{Rose}
use Rattle.tree_io.specs.declared.faults.PutFault.{PutFault}
use Rattle.tree_io.specs.declared.faults.PutFault.TheVariants.{Failed, OutOfMemory}

-- told text with bytes at its end
abbrev pub followed_by : Option (List ℕ) → List ℕ → Option (List ℕ)
followed_by text bytes = option_map (λ t. t ++ bytes) text

-- a front of the bytes was appended
abbrev pub GainsFront : List ℕ → Option (List ℕ) → Option (List ℕ) → Type 0
GainsFront bytes old new = (n : ℕ) × (new ≡ followed_by old (take n bytes))

-- all was appended; or a front of it, where the count of faults rose; or nothing, where memory was wanting
abbrev pub Takes : Result (Unit {0}) PutFault → List ℕ → Option (List ℕ) → Option (List ℕ) → ℕ → ℕ → Type 0
Takes (Ok _) bytes old new before after = new ≡ followed_by old bytes
Takes (Err Failed) bytes old new before after = Rose before after × GainsFront bytes old new
Takes (Err OutOfMemory) bytes old new before after = (new ≡ old) × (after ≡ before)

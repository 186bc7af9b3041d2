-- Which systems are valid (the project's own: each number of a system names an item).
use Rattle.std.specs.Prelude.{◌≡◌, ℕ, ◌<◌, length}
use Rattle.std.specs.List.{All}
use Rattle.mark_core.specs.declared.system.System.{System}
use Rattle.mark_core.specs.declared.system.Pair.{Pair}

-- each of the pair's three items is below n
abbrev pub PairBelow : ℕ → Pair → Type 0
PairBelow n pair = (pair.one < n) × (pair.two < n) × (pair.derived < n)

-- there is a list of needs for each item, and each item that the system names is below n
abbrev pub Valid : System → Type 0
Valid sys =
    (length sys.needs ≡ sys.n)
    × All (λ x. x < sys.n) sys.seeds
    × All (λ items. All (λ x. x < sys.n) items) sys.needs
    × All (PairBelow sys.n) sys.pairs

-- Ranks of items, told by a list of numbers, and what a list of needs for each item asks of them (the project's own).
use Rattle.std.specs.Prelude.{◌<◌, ◌≤◌, ℕ, List, [], length, slice_index_or}
use Rattle.std.specs.List.{All}

-- the number of a rank, 0 past the last one
abbrev pub rank_of : List ℕ → ℕ → ℕ
rank_of ranks n = slice_index_or ranks n 0

-- no rank is higher than there are items, and what each item needs has a lower one
abbrev pub IsRanked : List (List ℕ) → List ℕ → Type 0
IsRanked needs ranks = (n : ℕ) → n < length needs
    → (rank_of ranks n ≤ length needs) × All (λ m. rank_of ranks m < rank_of ranks n) (slice_index_or needs n [])

-- what each item before one needs has a lower rank
abbrev pub IsRankedBefore : ℕ → List (List ℕ) → List ℕ → Type 0
IsRankedBefore first needs ranks = (n : ℕ) → n < first
    → All (λ m. rank_of ranks m < rank_of ranks n) (slice_index_or needs n [])

-- something that an item needs has no lower rank
abbrev pub IsUnrankedAt : ℕ → List (List ℕ) → List ℕ → Type 0
IsUnrankedAt item needs ranks = All (λ m. rank_of ranks m < rank_of ranks item) (slice_index_or needs item []) → ⊥

-- nothing that an item needs has a higher rank
abbrev pub NoneRises : List (List ℕ) → List ℕ → Type 0
NoneRises needs ranks = (n : ℕ) → n < length needs
    → All (λ m. rank_of ranks m ≤ rank_of ranks n) (slice_index_or needs n [])

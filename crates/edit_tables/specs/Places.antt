-- Where indices come to stand, as a list (the project's own; only the code's contracts need it).
use Rattle.std.specs.Prelude.{ℕ, suc, List, [], ◌∷◌, Bool, true, if◌then◌else◌, slice_index_or}

-- how many are left before each index and before the end, so many being left before
abbrev pub counts_from : ℕ → List Bool → List ℕ
counts_from n [] = n ∷ []
counts_from n (b ∷ bs) = n ∷ counts_from (if b then suc n else n) bs

-- an index is left; one outside the list is
abbrev pub lives_in : List Bool → ℕ → Bool
lives_in lives at = slice_index_or lives at true

-- where an index comes to stand
abbrev pub place_in : List ℕ → ℕ → ℕ
place_in places at = slice_index_or places at 0

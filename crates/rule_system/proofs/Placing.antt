-- The places of true in a list are below a bound.
use Rattle.std.proofs.Common.{ℕ, ◌+◌, ◌<◌, ◌≤◌, Bool, true, false, List, [], ◌∷◌, length, All, arith}
use Rattle.std.proofs.lemmas.List.Elements.{All-nil, All-cons}
use Rattle.keep_match.specs.Seeds.{places_of_true}

pub places_below : (m n : ℕ) (bs : List Bool) → n + length bs ≤ m → All (λ x. x < m) (places_of_true n bs)
places_below m n [] most = All-nil (λ x. x < m)
places_below m n (true ∷ bs) most = All-cons (λ x. x < m) n (places_of_true (n + 1) bs) (omega arith)
    (places_below m (n + 1) bs (omega arith))
places_below m n (false ∷ bs) most = places_below m (n + 1) bs (omega arith)

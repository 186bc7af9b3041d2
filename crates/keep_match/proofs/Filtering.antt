-- Filters, gone over from the first pattern on.
use Rattle.std.proofs.Common.{◌≡◌, ℕ, Bool, false, not, cond, List, [], ◌∷◌, refl, ap}
use Rattle.keep_rules.specs.declared.rules.Filter.{Filter}
use Rattle.keep_match.specs.Filters.{accepts}

-- what patterns decide where none before them matched, and what is said for the case that none does
abbrev pub decided : (List ℕ → Bool) → Bool → List Filter → Bool
decided matches otherwise [] = otherwise
decided matches otherwise (f ∷ fs) = cond (matches f.pattern) (not f.negated) (decided matches f.negated fs)

pub accepts_from : (matches : List ℕ → Bool) (f : Filter) (fs : List Filter)
    → accepts matches (f ∷ fs) ≡ cond (matches f.pattern) (not f.negated) (decided matches f.negated fs)
unfolding accepts
accepts_from matches f [] = refl
accepts_from matches f (g ∷ fs) =
    ap (λ (b : Bool). cond (matches f.pattern) (not f.negated) b) (accepts_from matches g fs)

pub accepts_is : (matches : List ℕ → Bool) (fs : List Filter) → accepts matches fs ≡ decided matches false fs
unfolding accepts
accepts_is matches [] = refl
accepts_is matches (f ∷ fs) = accepts_from matches f fs

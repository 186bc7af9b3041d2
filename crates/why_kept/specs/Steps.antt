-- A derivation told step by step, each item once (the project's own).
use Rattle.std.specs.Prelude.{◌≡◌, ◌⊎◌, ◌==◌, ◌&&◌, ℕ, ◌+◌, Bool, List, [], ◌∷◌, map, nat_lt, Option, Some, None, MatchBool}
use Rattle.std.specs.List.{All, Contains, find, list_any, range_with_len}
use Rattle.std.specs.List.Sorted.{IsStrictlySortedBy}
use Rattle.std.specs.Ordering.{nat_cmp, ordering_then}
use Rattle.std.specs.declared.cmp.Ordering.{Ordering}
use Rattle.mark_core.specs.Marks.{needs_of}
use Rattle.mark_core.specs.declared.system.Pair.{Pair}
use Rattle.mark_core.specs.declared.system.System.{System}
use Rattle.why_kept.specs.Derivations.{IsDerivation, Tree, depth_of, item_of}
use Rattle.why_kept.specs.Derivations as tree
use Rattle.why_kept.specs.Levels.{level_of, level_of_pair}
use Rattle.why_kept.specs.declared.reasons.By.{By}
use Rattle.why_kept.specs.declared.reasons.By.TheVariants as by
use Rattle.why_kept.specs.declared.reasons.WhyStep.{WhyStep}

-- ---- by what an item is kept

-- by a pair, if there is one
abbrev pub by_pair : Option Pair → By
by_pair (Some pair) = by.Pair pair.one pair.two
by_pair None = by.Seed

-- by an item that needs it, if there is one
abbrev pub by_need : Option ℕ → By → By
by_need (Some y) other = by.Need y
by_need None other = other

module _ (sys : System) (levels : List ℕ) where
  -- an item of the level before needs it
  abbrev pub is_needed_by : ℕ → ℕ → Bool
  is_needed_by x y = (level_of sys levels x == level_of sys levels y + 1) && list_any (λ z. x == z) (needs_of sys y)

  -- it is the consequence of a pair whose greater level is the one before
  abbrev pub follows_from : ℕ → Pair → Bool
  follows_from x pair = (pair.derived == x) && (level_of sys levels x == level_of_pair sys levels pair + 1)

  -- the least item of the level before that needs it, else the first such pair; where there is none it is a seed
  abbrev pub by_of : ℕ → By
  by_of x = by_need (find (is_needed_by x) (range_with_len 0 sys.n)) (by_pair (find (follows_from x) sys.pairs))

-- the items by which something is kept
abbrev pub sources_of : By → List ℕ
sources_of by.Seed = []
sources_of (by.Need x) = x ∷ []
sources_of (by.Pair x y) = x ∷ y ∷ []

-- ---- steps

-- the level and the item of a step
abbrev pub key_of : System → List ℕ → WhyStep → ℕ × ℕ
key_of sys levels step = (level_of sys levels step.id, step.id)

-- in the order of levels, and then of items
abbrev pub key_cmp : ℕ × ℕ → ℕ × ℕ → Ordering
key_cmp x y = ordering_then (nat_cmp x.0 y.0) (nat_cmp x.1 y.1)

-- the item has a step
abbrev pub HasStep : List WhyStep → ℕ → Type 0
HasStep steps x = (step : WhyStep) × Contains steps step × (step.id ≡ x)

-- something is kept by the item
abbrev pub IsSource : List WhyStep → ℕ → Type 0
IsSource steps x = (step : WhyStep) × Contains steps step × Contains (sources_of step.by) x

-- the parts of a derivation are steps
abbrev pub IsTold : List WhyStep → Tree → Type 0
IsTold steps (tree.seed x) = Contains steps (record { id = x; by = by.Seed })
IsTold steps (tree.need x t) = Contains steps (record { id = x; by = by.Need (item_of t) }) × IsTold steps t
IsTold steps (tree.pair x t u) =
    Contains steps (record { id = x; by = by.Pair (item_of t) (item_of u) }) × IsTold steps t × IsTold steps u

-- the steps tell a derivation of the item, of the depth of its level: each item once, in the order of levels and then of
-- items, with that by which it is kept; what something is kept by has a step too, and nothing else has
pub record Explains (sys : System) (levels : List ℕ) (id : ℕ) (steps : List WhyStep) : Type 0 where
  pub ordered : IsStrictlySortedBy key_cmp (map (key_of sys levels) steps)
  pub by : All (λ (step : WhyStep). step.by ≡ by_of sys levels step.id) steps
  pub has : HasStep steps id
  pub sources : All (λ (step : WhyStep). All (HasStep steps) (sources_of step.by)) steps
  pub only : All (λ (step : WhyStep). (step.id ≡ id) ⊎ IsSource steps step.id) steps
  pub tree : Tree
  pub derives : IsDerivation sys tree
  pub item : item_of tree ≡ id
  pub deep : depth_of tree ≡ level_of sys levels id
  pub told : IsTold steps tree

-- they do so where it has a level; else there are none
abbrev pub AreSteps : System → List ℕ → ℕ → List WhyStep → Type 0
AreSteps sys levels id steps =
    MatchBool (nat_lt (level_of sys levels id) sys.n) (Explains sys levels id steps) (steps ≡ [])

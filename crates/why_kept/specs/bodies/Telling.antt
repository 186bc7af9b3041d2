-- Steps as they are told, the last one first (only the proof of `why` needs it).
use Rattle.std.specs.Prelude.{◌≡◌, ◌⊎◌, ◌<◌, ℕ, ◌+◌, ◌*◌, max, List, [], ◌∷◌, ◌++◌, map, slice_index_or}
use Rattle.std.specs.List.{All, Contains}
use Rattle.std.specs.BTreeSet.{insert_key}
use Rattle.std.specs.List.Sorted.{IsStrictlySortedBy}
use Rattle.mark_core.specs.declared.system.System.{System}
use Rattle.why_kept.specs.Levels.{level_of}
use Rattle.why_kept.specs.Steps.{IsSource, by_of, key_cmp, key_of, sources_of}
use Rattle.why_kept.specs.declared.reasons.WhyStep.{WhyStep}

-- the keys and those of more items, each with its level
abbrev pub with_keys : List ℕ → List ℕ → List (ℕ × ℕ) → List (ℕ × ℕ)
with_keys levels [] keys = keys
with_keys levels (x ∷ xs) keys = with_keys levels xs (insert_key key_cmp keys (slice_index_or levels x 0, x))

-- a bound for the keys below a number of items, told as a number
abbrev pub weight : ℕ → List (ℕ × ℕ) → ℕ
weight n [] = 0
weight n (k ∷ ks) = max (k.0 * n + k.1 + 1) (weight n ks)

module _ (sys : System) (levels : List ℕ) where
  -- the level and the number of an item
  abbrev pub key : ℕ → ℕ × ℕ
  key x = (level_of sys levels x, x)

  -- the keys of what waits and of the steps behind it
  abbrev pub all_keys : List (ℕ × ℕ) → List WhyStep → List (ℕ × ℕ)
  all_keys waiting steps = waiting ++ map (key_of sys levels) steps

  -- what waits and the steps behind it ascend; each is an item with a level; the item waits or has a step; so does what
  -- something is kept by, and nothing else
  pub record AreTold (id : ℕ) (waiting : List (ℕ × ℕ)) (steps : List WhyStep) : Type 0 where
    pub ordered : IsStrictlySortedBy key_cmp (all_keys waiting steps)
    pub keys : (k : ℕ × ℕ) → Contains (all_keys waiting steps) k → (k.1 < sys.n) × (k.0 < sys.n) × (k ≡ key k.1)
    pub by : All (λ (step : WhyStep). step.by ≡ by_of sys levels step.id) steps
    pub has : Contains (all_keys waiting steps) (key id)
    pub sources : All (λ (step : WhyStep). All (λ x. Contains (all_keys waiting steps) (key x)) (sources_of step.by)) steps
    pub only : (k : ℕ × ℕ) → Contains (all_keys waiting steps) k → (k.1 ≡ id) ⊎ IsSource steps k.1

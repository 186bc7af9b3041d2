-- The least closed set of a system (the project's own: what a shrinker keeps is such a set). A set is a test of items.
use Rattle.std.specs.Prelude.{◌≡◌, ℕ, Bool, false, IsTrue, List, [], slice_index_or, length}
use Rattle.std.specs.List.{All}
use Rattle.mark_core.specs.declared.system.System.{System}

-- what is marked where x is
abbrev pub needs_of : System → ℕ → List ℕ
needs_of sys x = slice_index_or sys.needs x []

-- the set holds the seeds, with each item its needs, and with both items of a pair its consequence
pub record Closed (sys : System) (set : ℕ → Bool) : Type 0 where
  pub seeds : All (λ x. IsTrue (set x)) sys.seeds
  pub needs : (x : ℕ) → IsTrue (set x) → All (λ y. IsTrue (set y)) (needs_of sys x)
  pub pairs : All (λ pair. IsTrue (set pair.one) → IsTrue (set pair.two) → IsTrue (set pair.derived)) sys.pairs

-- the item lies in each closed set
abbrev pub IsMarked : System → ℕ → Type 0
IsMarked sys x = (set : ℕ → Bool) → Closed sys set → IsTrue (set x)

-- the items at which the list has true
abbrev pub set_of : List Bool → ℕ → Bool
set_of marks x = slice_index_or marks x false

-- the list tells the least closed set: there is a value for each item, the set is closed, and it lies in each closed
-- set
pub record Marks (sys : System) (marks : List Bool) : Type 0 where
  pub count : length marks ≡ sys.n
  pub closed : Closed sys (set_of marks)
  pub least : (x : ℕ) → IsTrue (set_of marks x) → IsMarked sys x

-- The state of the worklist: which items are marked, and which of these wait (only the proof of plain_marks needs it).
use Rattle.std.specs.Prelude.{◌≡◌, ◌⊎◌, ℕ, ◌+◌, ◌<◌, cond, IsTrue, length}
use Rattle.std.specs.List.{All, Contains, sum_by}
use Rattle.mark_core.specs.declared.system.System.{System}
use Rattle.mark_core.specs.declared.system.Pair.{Pair}
use Rattle.mark_core.specs.declared.plain.Worklist.{Worklist}
use Rattle.mark_core.specs.Marks.{needs_of, IsMarked, set_of}

-- the item is marked
abbrev pub Has : Worklist → ℕ → Type 0
Has work x = IsTrue (set_of work.marks.items x)

-- the item is still to be taken
abbrev pub Waits : Worklist → ℕ → Type 0
Waits work x = Contains work.waiting.items x

-- how many items are still to be marked or taken
abbrev pub left : Worklist → ℕ
left work = sum_by (λ marked. cond marked 0 1) work.marks.items + length work.waiting.items

-- there is a mark for each item, what waits is a marked item, and what is marked lies in each closed set
pub record IsSound (sys : System) (work : Worklist) : Type 0 where
  pub count : length work.marks.items ≡ sys.n
  pub below : All (λ x. x < sys.n) work.waiting.items
  pub marked : All (Has work) work.waiting.items
  pub due : (x : ℕ) → Has work x → IsMarked sys x

-- no mark is taken back, what waits goes on waiting, what is newly marked waits, and as many items are left
pub record Grows (old new : Worklist) : Type 0 where
  pub keeps : (x : ℕ) → Has old x → Has new x
  pub waits : (x : ℕ) → Waits old x → Waits new x
  pub fresh : (x : ℕ) → Has new x → Has old x ⊎ Waits new x
  pub left : left new ≡ left old

-- where both items of the pair are marked, one of them waits or the consequence is marked
abbrev pub IsDone : Worklist → Pair → Type 0
IsDone work pair = Has work pair.one → Has work pair.two
    → Waits work pair.one ⊎ (Waits work pair.two ⊎ Has work pair.derived)

-- each pair that has the item is done
abbrev pub AllPairsDone : System → Worklist → ℕ → Type 0
AllPairsDone sys work x = All (λ pair. (pair.one ≡ x) ⊎ (pair.two ≡ x) → IsDone work pair) sys.pairs

-- the set of marks is closed but for what the waiting items require
pub record IsOpen (sys : System) (work : Worklist) : Type 0 where
  pub sound : IsSound sys work
  pub seeds : All (Has work) sys.seeds
  pub needs : (x : ℕ) → Has work x → Waits work x ⊎ All (Has work) (needs_of sys x)
  pub pairs : All (IsDone work) sys.pairs

-- What a change of one view and of the sets has to satisfy, so that Inv is kept.
use Rattle.std.specs.Prelude.{◌≡◌, ◌⊎◌, ℕ, ◌+◌, ◌<◌, Bool, IsTrue}
use Rattle.std.specs.List.{All, Contains}
use Rattle.mark_core.specs.declared.system.System.{System}
use Rattle.mark_machine.specs.declared.machine.View.{View}
use Rattle.mark_machine.specs.declared.machine.Look.{Look}
use Rattle.mark_core.specs.Marks.{needs_of, IsMarked, Closed}
use Rattle.mark_machine.specs.Counts.{bit, count}
use Rattle.mark_machine.specs.Machine.{Machine, look}
use Rattle.mark_machine.specs.Invariant.{notes, finishes, holds_of}

-- t has the sets and the number after the change, and w is the view
pub record Moves (sys : System) (s : Machine) (v w : View) (marked taken : ℕ → Bool) (pending : ℕ) : Type 0 where
  pub grows : (x : ℕ) → IsTrue (s.marked x) → IsTrue (marked x)
  pub due : (x : ℕ) → IsTrue (marked x) → IsTrue (s.marked x) ⊎ (IsMarked sys x × (x < sys.n) × Contains w.seen x)
  pub taken_marked : (x : ℕ) → IsTrue (taken x) → IsTrue (marked x)
  pub seen_keeps : (x : ℕ) → Contains v.seen x → Contains w.seen x
  pub seen_marked : (x : ℕ) → Contains w.seen x → IsTrue (marked x)
  pub held : (x : ℕ) → holds_of x w + bit (s.taken x) ≡ holds_of x v + bit (taken x)
  pub counted : pending + finishes w + notes v + count sys.n s.marked ≡ s.pending + finishes v + notes w + count
      sys.n marked
  pub standing : (bit w.standing ≡ bit v.standing) ⊎ ((bit w.standing ≡ 0) × All (λ x. IsTrue (marked x)) sys.seeds)
  pub looks_keep : (l : Look) → Contains v.looks l → Contains w.looks l
  pub looks_new : (l : Look) → Contains w.looks l → Contains v.looks l
      ⊎ (IsTrue (s.marked l.hand) × (IsTrue (s.marked l.at) → ⊥))
  pub finished : (x : ℕ) → Contains w.finished x
      → Contains v.finished x
      ⊎ (All (λ y. IsTrue (marked y)) (needs_of sys x)
      × All (λ q. (q.one ≡ x → IsTrue (marked q.derived) ⊎ Contains w.looks (look x q.two))
      × (q.two ≡ x → IsTrue (marked q.derived) ⊎ Contains w.looks (look x q.one))) sys.pairs)
  pub quiet_keeps : s.pending ≡ 0 → Closed sys s.marked → (pending ≡ 0) × Closed sys marked
  pub quiet_new : IsTrue w.quiet → IsTrue v.quiet ⊎ ((pending ≡ 0) × Closed sys marked)

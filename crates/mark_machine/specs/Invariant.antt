-- What every event keeps.
use Rattle.std.specs.Prelude.{◌≡◌, ◌⊎◌, ℕ, ◌+◌, ◌<◌, ◌≤◌, Bool, IsTrue, List, length}
use Rattle.std.specs.List.{All, Contains}
use Rattle.mark_core.specs.declared.system.System.{System}
use Rattle.mark_machine.specs.declared.machine.View.{View}
use Rattle.mark_core.specs.Marks.{needs_of, IsMarked, Closed}
use Rattle.mark_machine.specs.Counts.{bit, count, times, in_hand, total, SomeView, EachView}
use Rattle.mark_machine.specs.Machine.{Machine, look}

abbrev pub notes : View → ℕ
notes v = bit v.standing + bit v.reserved

abbrev pub finishes : View → ℕ
finishes v = length v.finished

-- how often x stands in the view's hand and finished list
abbrev pub holds_of : ℕ → View → ℕ
holds_of x v = in_hand x v.hand + times x v.finished

abbrev pub LookStands : List View → ℕ → ℕ → Type 0
LookStands views x y = SomeView (λ v. Contains v.looks (look x y)) views

-- the needs of x are marked, and for each of its pairs the consequence is, or the look at the partner stands
abbrev pub FinishedOk : System → (ℕ → Bool) → List View → ℕ → Type 0
FinishedOk sys marked views x =
    All (λ y. IsTrue (marked y)) (needs_of sys x)
    × All (λ q. (q.one ≡ x → IsTrue (marked q.derived) ⊎ LookStands views x q.two)
    × (q.two ≡ x → IsTrue (marked q.derived) ⊎ LookStands views x q.one)) sys.pairs

pub record Inv (sys : System) (s : Machine) : Type 0 where
  pub within : (x : ℕ) → IsTrue (s.marked x) → IsMarked sys x × (x < sys.n)
  pub taken_marked : (x : ℕ) → IsTrue (s.taken x) → IsTrue (s.marked x)
  pub seen_marked : EachView (λ v. (x : ℕ) → Contains v.seen x → IsTrue (s.marked x)) s.views
  pub marked_seen : (x : ℕ) → IsTrue (s.marked x) → SomeView (λ v. Contains v.seen x) s.views
  -- an item is in one hand or finished list where it is taken, and else in none
  pub held : (x : ℕ) → total (holds_of x) s.views ≡ bit (s.taken x)
  -- pending is the number of notes and of marked items that no view has finished
  pub pending : s.pending + total finishes s.views ≡ total notes s.views + count sys.n s.marked
  pub one_standing : total (λ v. bit v.standing) s.views ≤ 1
  pub seeds : total (λ v. bit v.standing) s.views ≡ 0 → All (λ x. IsTrue (s.marked x)) sys.seeds
  pub look_marked : (x y : ℕ) → LookStands s.views x y → IsTrue (s.marked x)
  pub look_once : (x y : ℕ) → LookStands s.views x y → LookStands s.views y x → ⊥
  pub finished : EachView (λ v. (x : ℕ) → Contains v.finished x → FinishedOk sys s.marked s.views x) s.views
  pub quiet : EachView (λ v. IsTrue v.quiet → (s.pending ≡ 0) × Closed sys s.marked) s.views

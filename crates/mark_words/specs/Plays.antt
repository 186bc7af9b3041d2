-- What each step tells its seat: which event it was, and what it found. A step is told by its word and its operands.
use Rattle.std.specs.Prelude.{◌≡◌, ℕ, Bool, false, None, IsTrue, ◌==◌}
use Rattle.std.specs.List.{All, Contains}
use Rattle.atomic_table.specs.Table.{Me, Step}
use Rattle.mark_machine.specs.declared.machine.View.{View}
use Rattle.mark_machine.specs.declared.machine.Event.{Event}
use Rattle.mark_machine.specs.declared.machine.Event.TheVariants.{Reserve, Claim, GiveBack, Take, LookAt, Finish}
use Rattle.mark_machine.specs.declared.machine.Event.TheVariants.{SeeIdle}
use Rattle.mark_machine.specs.Machine.{view_after}
use Rattle.mark_words.specs.Words.{mark_word, taken_word, mask, has_bit}

-- a view, beside the slots that the seat holds, which are none
abbrev pub Sat : Type 0
Sat = Me (Unit {0}) View

abbrev pub Told : Type 1
Told = Step (Unit {0}) → Sat → ℕ → Sat → Type 0

-- the view stands for all seats
abbrev pub IsFull : View → Type 0
IsFull v = v.seats ≡ v.all

-- the view has no hand and no note, and has finished each item that it has seen
abbrev pub IsDone : View → Type 0
IsDone v = (v.hand ≡ None) × (v.standing ≡ false) × (v.reserved ≡ false) × All (Contains v.finished) v.seen

-- the seat after the event
abbrev pub does : Event → Bool → Sat → Sat → Type 0
does e found m m' = m' ≡ (view_after m.0 e found, m.1)

abbrev pub reserving : Told
reserving st m r m' = does Reserve false m m'

abbrev pub claiming : Told
claiming st m r m' = (x : ℕ) → st.word ≡ mark_word x → st.first ≡ mask x → does (Claim x) (has_bit r x) m m'

abbrev pub giving_back : Told
giving_back st m r m' = does GiveBack false m m'

abbrev pub taking : Told
taking st m r m' =
    (x : ℕ) → st.word ≡ taken_word x → st.first ≡ mask x
    → does (Take x) (has_bit r x) m m' × (IsFull m.0 → IsTrue (has_bit r x) → Contains m.0.finished x)
    × (has_bit r x ≡ false → Contains m.0.finished x → ⊥)

abbrev pub looking_at : Told
looking_at st m r m' =
    (x : ℕ) → st.word ≡ mark_word x → st.first ≡ mask x
    → does (LookAt x) (has_bit r x) m m' × (has_bit r x ≡ false → Contains m.0.seen x → ⊥)
    × (IsFull m.0 → IsTrue (has_bit r x) → Contains m.0.seen x)

abbrev pub finishing : Told
finishing st m r m' = does Finish false m m'

abbrev pub seeing_idle : Told
seeing_idle st m r m' = does SeeIdle (r == 0) m m' × (IsFull m.0 → IsDone m.0 → r ≡ 0)

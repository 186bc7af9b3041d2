-- What a clause says of a table and its seats.
use Rattle.std.specs.Prelude.{◌≡◌, ℕ, ◌<◌, ◌+◌, length, List, [], ◌∷◌, true, false}
use Rattle.atomic_table.specs.declared.shared.Seat.{Seat}
use Rattle.mark_core.specs.declared.system.System.{System}
use Rattle.mark_machine.specs.declared.machine.View.{View}
use Rattle.mark_machine.specs.declared.machine.Event.TheVariants.{Reserve, Claim, GiveBack, Take}
use Rattle.mark_machine.specs.Machine.{view_after, first_of, nobody}
use Rattle.std.specs.List.{All}
use Rattle.mark_words.specs.declared.marking.Marking.{Marking}
use Rattle.mark_words.specs.declared.table.MarkTable.{MarkTable}
use Rattle.mark_words.specs.declared.table.Claimed.{Claimed}
use Rattle.mark_words.specs.declared.table.Claimed.TheVariants.{New, Already}
use Rattle.mark_words.specs.declared.table.Taken.{Taken}
use Rattle.mark_words.specs.declared.table.Taken.TheVariants.{Mine, Others}

abbrev pub MarkSeat : Type 0
MarkSeat = Seat (Unit {0}) View

abbrev pub view : MarkSeat → View
view seat = seat.me.0

abbrev pub system_of : MarkTable → System
system_of t = t.table.shared.key.system.value

-- it is a live seat of this table
abbrev pub IsSeatOf : MarkTable → MarkSeat → Type 0
IsSeatOf t seat = (seat.table_id ≡ t.table.shared.table_id) × (0 < (view seat).seats) × (seat.me.1 ≡ [])

-- the same seat, after its view became w
abbrev pub Becomes : MarkSeat → MarkSeat → View → Type 0
Becomes old new w = (new.table_id ≡ old.table_id) × (view new ≡ w) × (new.me.1 ≡ old.me.1)

-- the events of `claim`
abbrev pub after_claim : View → ℕ → Claimed → View
after_claim v x New = view_after (view_after v Reserve false) (Claim x) false
after_claim v x Already = view_after (view_after (view_after v Reserve false) (Claim x) true) GiveBack false

abbrev pub after_take : View → ℕ → Taken → View
after_take v x Mine = view_after v (Take x) false
after_take v x Others = view_after v (Take x) true

-- it is one of so many seats and knows nothing
abbrev pub IsNewcomer : MarkTable → ℕ → MarkSeat → Type 0
IsNewcomer t seats seat = IsSeatOf t seat × (view seat ≡ record nobody { seats = 1; all = seats })

-- the first seat holds the standing reservation, and the others know nothing
abbrev pub Starts : System → ℕ → Marking → Type 0
Starts sys seats made =
    (system_of made.table ≡ sys)
    × ((first : MarkSeat) × (others : List MarkSeat)
    × (made.seats ≡ first ∷ others) × (length others + 1 ≡ seats)
    × IsSeatOf made.table first × (view first ≡ record (first_of seats) { seats = 1 })
    × All (IsNewcomer made.table seats) others)

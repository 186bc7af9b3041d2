-- A worker between two items.
use Rattle.std.specs.Prelude.{◌≡◌, ℕ, false, true, None}
use Rattle.mark_machine.specs.declared.machine.View.{View}
use Rattle.mark_words.specs.Seats.{view, system_of, IsSeatOf}
use Rattle.mark_words.specs.declared.table.MarkTable.{MarkTable}
use Rattle.mark_workers.specs.Work.{Knows, SeenBelow}
use Rattle.mark_workers.specs.declared.crew.Member.{Member}

-- the view has no hand and no note, and what it has seen lies below n
abbrev pub IsFree : ℕ → View → Type 0
IsFree n v = (v.hand ≡ None) × (v.reserved ≡ false) × (v.standing ≡ false) × SeenBelow n v

-- the view holds the standing reservation, and has no hand and no other note
abbrev pub IsSeeding : ℕ → View → Type 0
IsSeeding n v = (v.hand ≡ None) × (v.reserved ≡ false) × (v.standing ≡ true) × SeenBelow n v

-- both stand for as many seats, of as many
abbrev pub SameSeats : View → View → Type 0
SameSeats v w = (w.seats ≡ v.seats) × (w.all ≡ v.all)

-- it may take an item, and what it has noted was seen
abbrev pub Ready : MarkTable → Member → Type 0
Ready table member =
    IsSeatOf table member.seat × IsFree (system_of table).n (view member.seat)
    × Knows (system_of table).n (view member.seat) member.tasks.known.items

-- and has one of so many seats
abbrev pub Hired : MarkTable → ℕ → Member → Type 0
Hired table seats member = Ready table member × ((view member.seat).seats ≡ 1) × ((view member.seat).all ≡ seats)

use Rattle.std.proofs.Common.{◌≡◌, ◌+◌, ◌-◌, length}
use Rattle.std.specs.List.{All}
use Rattle.mark_machine.specs.Machine.{first_of}
use Rattle.mark_words.specs.Seats.{view, IsNewcomer, IsSeatOf}
use Rattle.mark_words.proofs.table.MarkTable.new.Given as goal

abbrev pub invariant-loop : goal.invariant-loop
invariant-loop l =
    (length l.others.items + 1 ≡ l.counter) × IsSeatOf l.table l.first
    × (view l.first ≡ record (first_of l.seats) { seats = l.seats + 1 - l.counter })
    × All (IsNewcomer l.table l.seats) l.others.items

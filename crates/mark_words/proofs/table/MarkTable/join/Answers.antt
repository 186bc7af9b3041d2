-- Answers of `MarkTable::join`: what its calls ask for, and what it promises.
use Rattle.std.proofs.Common.{arith}
use Rattle.mark_words.proofs.Seating.{joins}
use Rattle.mark_words.proofs.table.MarkTable.join.Goals as goal

pub join_seat-requires : goal.join_seat-requires
join_seat-requires c = (
  c.requires.seat.0,
  c.requires.other.0,
  c.requires.other.2,
  (let d = c.args.self.now.counts.0 in
      omega (arith, d)),
  joins c.args.self.now.table.shared.key c.args.seat.now.id c.args.seat.now.me.0 c.args.other.id
      c.args.other.me.0 c.requires.seat.1 c.requires.hand c.requires.notes.0 c.requires.notes.1,
)

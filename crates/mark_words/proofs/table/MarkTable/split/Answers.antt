-- Answers of `MarkTable::split`: what its calls ask for, and what it promises.
use Rattle.std.proofs.Common.{arith}
use Rattle.mark_words.proofs.Seating.{splits}
use Rattle.mark_words.proofs.table.MarkTable.split.Goals as goal

pub split_seat-requires : goal.split_seat-requires
split_seat-requires c = (
  c.requires.seat.0,
  (let d = c.args.self.now.counts.0 in omega (arith, d)),
  splits
      c.args.self.now.table.shared.key c.args.seat.now.id c.args.seat.now.me.0 c.requires.more,
)

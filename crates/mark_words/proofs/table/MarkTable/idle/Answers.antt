-- Answers of `MarkTable::idle`: what its calls ask for, and what it promises.
use Rattle.std.proofs.Common.{rules}
use Rattle.mark_words.proofs.Steps.{sees_idle}
use Rattle.mark_words.proofs.table.MarkTable.idle.Goals as goal

pub load-requires : goal.load-requires
load-requires c = (
  c.requires.seat.0,
  search rules,
  sees_idle c.args.self.now.table.shared.key
      c.args.self.now.table.shared.table_id.slots c.args.seat.now.id c.args.seat.now.me c.requires.seat.1,
)

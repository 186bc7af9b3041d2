-- Answers of `MarkTable::finish`: what its calls ask for, and what it promises.
use Rattle.std.proofs.Common.{rules}
use Rattle.mark_words.proofs.Steps.{finishes_item}
use Rattle.mark_words.proofs.table.MarkTable.finish.Goals as goal

pub fetch_sub-requires : goal.fetch_sub-requires
fetch_sub-requires c = (
  c.requires.seat.0,
  search rules,
  finishes_item c.args.self.now.table.shared.key
      c.args.self.now.table.shared.table_id.slots c.args.seat.now.id c.args.seat.now.me c.requires.seat.1
      c.requires.allowed,
)

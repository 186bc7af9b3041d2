-- Answers of `MarkTable::reserve`: what its calls ask for, and what it promises.
use Rattle.std.proofs.Common.{rules}
use Rattle.mark_words.proofs.Steps.{reserves}
use Rattle.mark_words.proofs.table.MarkTable.reserve.Goals as goal

pub fetch_add-requires : goal.fetch_add-requires
fetch_add-requires c = (
  c.requires.seat.0,
  search rules,
  reserves c.args.self.now.table.shared.key
      c.args.self.now.table.shared.table_id.slots c.args.seat.now.id c.args.seat.now.me c.requires.seat.1
      c.requires.allowed,
)

-- Answers of `MarkTable::is_marked`: what its calls ask for, and what it promises.
use Rattle.std.proofs.Common.{◌<◌, ◌+◌, ◌*◌, ◌/◌, arith}
use Rattle.mark_words.specs.Words.{word_count}
use Rattle.mark_words.proofs.Bits.{word_within}
use Rattle.mark_words.proofs.Steps.{looks_at}
use Rattle.mark_words.specs.Seats.{system_of}
use Rattle.mark_words.proofs.table.MarkTable.is_marked.Goals as goal

pub compare_exchange-found-requires : goal.compare_exchange-found-requires
compare_exchange-found-requires c =
    let within : 2 * (c.args.id / 64) + 1 < c.args.self.now.table.shared.table_id.words =
    (let k : 2 * (c.args.id / 64) + 2 < word_count (system_of c.args.self.now).n = word_within
    (system_of c.args.self.now).n c.args.id c.requires.id in let d = c.args.self.now.counts.0 in
    omega (arith, k, d)) in (
      c.requires.seat.0,
      within,
      looks_at c.args.self.now.table.shared.key c.args.self.now.table.shared.table_id.slots c.args.seat.now.id
          c.args.seat.now.me c.requires.seat.1 c.args.id c.requires.id,
    )

-- Answers of `MarkTable::claim`: what its calls ask for, and what it promises.
use Rattle.std.proofs.Common.{◌<◌, ◌+◌, ◌*◌, ◌/◌, arith, subst, sym, refl, ◌∙◌}
use Rattle.mark_machine.specs.declared.machine.View.{View}
use Rattle.mark_machine.specs.declared.machine.Event.TheVariants.{Claim}
use Rattle.mark_machine.specs.Machine.{Allowed}
use Rattle.mark_words.specs.Words.{word_count}
use Rattle.mark_words.proofs.Bits.{word_within}
use Rattle.mark_words.proofs.Steps.{claims}
use Rattle.mark_words.specs.Seats.{system_of}
use Rattle.mark_words.proofs.table.MarkTable.claim.Goals as goal

pub fetch_or-found-requires : goal.fetch_or-found-requires
fetch_or-found-requires c =
    let e = c.reserve.ensures.1 in
    let within : 2 * (c.args.id / 64) + 1 < c.args.self.now.table.shared.table_id.words =
    (let k : 2 * (c.args.id / 64) + 2 < word_count (system_of c.args.self.now).n = word_within
    (system_of c.args.self.now).n c.args.id c.requires.id in let d = c.args.self.now.counts.0 in
    omega (arith, k, d)) in (
      c.reserve.ensures.0 ∙ c.requires.seat.0,
      within,
      claims c.args.self.now.table.shared.key c.args.self.now.table.shared.table_id.slots c.reserve.new.seat.id
          c.reserve.new.seat.me
          (subst (λ (u : View). 0 < u.seats) (sym e) c.requires.seat.1) c.args.id c.requires.id
          (subst (λ (u : View). Allowed (system_of c.args.self.now) u (Claim c.args.id)) (sym e) (refl, c.requires.due)),
    )

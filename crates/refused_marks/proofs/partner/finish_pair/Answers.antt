-- Answers of `finish_pair`: what its calls ask for, and what it promises.
use Rattle.std.proofs.Common.{subst, sym, ◌∙◌}
use Rattle.std.specs.List.{Contains}
use Rattle.std.proofs.lemmas.List.Elements.{Contains-push}
use Rattle.mark_words.specs.Seats.{view, system_of}
use Rattle.mark_workers.specs.Work.{Did}
use Rattle.mark_workers.proofs.Kept.{did_all}
use Rattle.refused_marks.proofs.Finishing.{nothing_needed, only_pair, only_seen}
use Rattle.refused_marks.proofs.partner.finish_pair.Goals as goal

pub see_partner-requires-clause-pair : goal.see_partner-requires-clause-pair
see_partner-requires-clause-pair c = only_pair (system_of c.args.table.now).pairs c.args.pair c.requires.pairs

pub finish-requires-clause-allowed : goal.finish-requires-clause-allowed
finish-requires-clause-allowed c =
    let w = view c.see_partner.new.seat in
    let k = c.see_partner.ensures.kept in (
      c.args.pair.one,
      (
        k.hand ∙ c.requires.busy.0,
        k.reserved ∙ c.requires.busy.1,
        nothing_needed (Contains w.seen) c.requires.needs,
        only_seen (system_of c.args.table.now).pairs c.args.pair w c.requires.pairs c.requires.apart
            c.see_partner.ensures.seen,
      ),
    )

pub returns : goal.returns
returns c =
    let n = (system_of c.args.table.now).n in
    let v = view c.args.seat.now in
    let w = view c.see_partner.new.seat in
    let k = c.see_partner.ensures.kept in
    let did = subst (Did n v c.args.pair.one) (sym c.finish.ensures.1)
    (did_all n v w c.args.pair.one (k.hand ∙ c.requires.busy.0) k c.requires.busy.1) in
    subst (λ xs. Contains xs c.args.pair.one) (sym did.finished) (Contains-push v.finished c.args.pair.one)

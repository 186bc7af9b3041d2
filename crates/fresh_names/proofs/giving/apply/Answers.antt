-- Answers of `apply`: what its calls ask for, and what it promises.
use Rattle.std.proofs.Common.{ap, sym, ◌∙◌}
use Rattle.std.specs.Map.{lookup}
use Rattle.fresh_names.specs.bodies.Giving.{first, stays_in, told_in, what_stays}
use Rattle.fresh_names.specs.declared.taken.Named.{Named}
use Rattle.fresh_names.proofs.Groups.{not_told, nothing_applied}
use Rattle.fresh_names.proofs.giving.apply.Goals as goal

pub returns-in-Some : goal.returns-in-Some
returns-in-Some g c = λ told done tells applied.
    c.apply_told.ensures told done (sym (tells c.args.key.now) ∙ sym (c.in_ok-new.ensures ∙ ap (λ (n : Named). told_in n (g.K.Grouped.pair n c.args.key.now).1
    (lookup (g.K.PartialEq.eq c.args.key.now) c.args.old.now)) c.named.ensures) ∙ c.in-Some.is) applied

pub returns-in-None : goal.returns-in-None
returns-in-None g c = λ told done tells applied.
    let pair = g.K.Grouped.pair (what_stays c.args.stays.now) in
    let x = c.args.key.now in
    nothing_applied g.K.PartialEq.eq g.met.K.Eq.laws pair (g.met.K.Grouped.told_apart (what_stays c.args.stays.now)) told
    (stays_in c.args.stays.now) done x c.args.table.now c.args.news.now
    (not_told (told (pair x).1) (stays_in c.args.stays.now (pair x).1)
    (first pair told (stays_in c.args.stays.now) (pair x).1 done) (pair x).0
    (sym (tells x) ∙ sym (c.in_ok-new.ensures ∙ ap (λ (n : Named). told_in n (g.K.Grouped.pair n c.args.key.now).1
    (lookup (g.K.PartialEq.eq c.args.key.now) c.args.old.now)) c.named.ensures) ∙ c.in-None.is)) applied

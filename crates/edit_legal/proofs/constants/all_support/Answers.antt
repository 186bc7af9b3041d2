-- Answers of `all_support`: what its calls ask for, and what it promises.
use Rattle.std.proofs.Common.{◌≡◌, ◌∙◌, false, rules, sym}
use Rattle.std.proofs.lemmas.List.Folds.{list_all_at}
use Rattle.edit_legal.specs.Decidable.{supports}
use Rattle.edit_legal.proofs.constants.all_support.Goals as goal

pub returns-then-not-supports : goal.returns-then-not-supports
returns-then-not-supports c =
    let known = c.args.known.now in
    let fact = c.args.fact.now in
    let refused : c.supports.result ≡ false = search rules in
    sym (list_all_at (supports known.code.now known.acts.now known.facts known.targets.items
    fact.slot fact.value) c.args.row.now c.loop-at.at-index _ c.loop-at-test.true
    (sym c.supports.ensures ∙ refused))

-- Answers of `push_key`: what its calls ask for, and what it promises.
use Rattle.std.proofs.Common.{List, sym, subst, ◌∙◌}
use Rattle.constant_table.specs.declared.key.Key.{Key}
use Rattle.constant_table.specs.bodies.Keys.{IsIndexed}
use Rattle.constant_table.specs.bodies.Indices.{index_at}
use Rattle.constant_table.proofs.Kept.{kept_again}
use Rattle.constant_table.proofs.keys.push_key.Goals as goal

pub returns-in_ok-push-in-Some-clause-indices : goal.returns-in_ok-push-in-Some-clause-indices
returns-in_ok-push-in-Some-clause-indices c =
    subst (λ (xs : List Key). IsIndexed xs (index_at c.args.indices.now)) (sym c.in_ok-push-in-Some.ensures.items)
    (kept_again c.args.keys.now.items (index_at c.args.indices.now) c.args.key c.requires c.in-Some.field-0
    (sym c.in-Some.is ∙ c.get.ensures))

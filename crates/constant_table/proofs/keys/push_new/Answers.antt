-- Answers of `push_new`: what its calls ask for, and what it promises.
use Rattle.std.proofs.Common.{rules, ◌≡◌, ◌+◌, List, length, sym, subst, ◌∙◌}
use Rattle.constant_table.specs.declared.key.Key.{Key}
use Rattle.constant_table.specs.bodies.Keys.{IsIndexed}
use Rattle.constant_table.specs.bodies.Indices.{index_at}
use Rattle.constant_table.proofs.Kept.{kept_new, from_ok}
use Rattle.constant_table.proofs.keys.push_new.Goals as goal

pub returns-clause-indices : goal.returns-clause-indices
returns-clause-indices c =
    let ks = c.args.keys.now.items in
    let new = c.put.new.self in
    let e : c.len-index.result ≡ 1 + length ks = search rules in
    subst (λ (xs : List Key). IsIndexed xs (index_at new)) (sym c.in_ok-push.ensures.items)
    (kept_new ks (index_at c.args.indices.now) c.args.key c.requires.indices
    (index_at new) c.len-index.result c.requires.missing e
    (from_ok c.put.result (sym c.is_err.ensures.value ∙ c.if-is_err.false) c.put.ensures.kept))

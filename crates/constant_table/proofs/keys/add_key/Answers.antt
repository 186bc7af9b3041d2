-- Answers of `add_key`: what its calls ask for, and what it promises.
use Rattle.std.proofs.Common.{List, cond, sym, ap, ◌∙◌}
use Rattle.std.specs.Prelude.{is_ok}
use Rattle.constant_table.specs.declared.key.Key.{Key}
use Rattle.constant_table.specs.bodies.Indices.{index_at}
use Rattle.constant_table.proofs.Kept.{put_again, put_new}
use Rattle.constant_table.proofs.keys.add_key.Goals as goal

pub returns-in-Some-clause-keys : goal.returns-in-Some-clause-keys
returns-in-Some-clause-keys c =
    put_again c.args.keys.now.items (index_at c.args.indices.now) c.args.key c.requires c.in-Some.field-0
    (sym c.in-Some.is ∙ c.get.ensures)

pub returns-in-None-clause-keys : goal.returns-in-None-clause-keys
returns-in-None-clause-keys c =
    let ks = c.args.keys.now.items in
    c.push_new.ensures.keys ∙ ap (λ (xs : List Key). cond (is_ok c.push_new.result) xs ks)
    (sym (put_new ks (index_at c.args.indices.now) c.args.key c.requires (sym c.get.ensures ∙ c.in-None.is)))

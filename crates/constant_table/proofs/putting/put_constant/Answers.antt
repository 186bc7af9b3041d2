-- Answers of `put_constant`: what its calls ask for, and what it promises.
use Rattle.std.proofs.Common.{◌∷◌, [], ◌++◌, cond, ◌∙◌}
use Rattle.std.specs.Prelude.{is_ok}
use Rattle.constant_table.proofs.Told.{told_grown, within_grown}
use Rattle.constant_table.proofs.putting.put_constant.Goals as goal

pub returns-in-Err-clause-put : goal.returns-in-Err-clause-put
returns-in-Err-clause-put c = told_grown c.args.texts.now c.keep_constant.new.texts c.args.keys.now
    c.keep_constant.ensures.grows c.requires

pub push_key-requires-clause-keys : goal.push_key-requires-clause-keys
push_key-requires-clause-keys c = within_grown c.args.texts.now c.keep_constant.new.texts c.args.keys.now
    c.keep_constant.ensures.grows c.requires

pub returns-in-Ok-clause-put : goal.returns-in-Ok-clause-put
returns-in-Ok-clause-put c =
    let e = told_grown c.args.texts.now c.keep_constant.new.texts c.args.keys.now c.keep_constant.ensures.grows
    c.requires in
    c.push_key.ensures.put ∙ (λ i. cond (is_ok c.push_key.result) (e i ++ c.in-Ok.ensures.key.is i ∷ []) (e i))

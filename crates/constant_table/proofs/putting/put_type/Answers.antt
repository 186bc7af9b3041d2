-- Answers of `put_type`: what its calls ask for, and what it promises.
use Rattle.std.proofs.Common.{[], ◌∷◌}
use Rattle.class_model.specs.declared.constant.PoolConstant.TheVariants as constant
use Rattle.constant_table.specs.declared.key.Key.TheVariants as key
use Rattle.constant_table.proofs.Wanted.{on_put}
use Rattle.constant_table.proofs.putting.put_type.Goals as goal

pub returns-clause-put : goal.returns-clause-put
returns-clause-put c =
    let h = c.in_ok-number.ensures.text in
    let n = c.in_ok-number.number in
    on_put c.args.texts.now c.keep_type.new.texts c.args.keys.now c.put_keys.new.keys c.put_keys.result
    (key.Utf8 n ∷ key.Class n ∷ []) _ c.keep_type.ensures.grows c.requires
    (λ i. constant.Utf8 (h.is i) ∷ constant.Class (h.is i) ∷ []) c.put_keys.ensures.put

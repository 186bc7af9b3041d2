-- Answers of `constants_in`: what its calls ask for, and what it promises.
use Rattle.std.proofs.Common.{◌≡◌, ◌++◌, ◌∷◌, [], ◌-◌, length, ap, ◌∙◌, arith}
use Rattle.class_model.specs.declared.constant.PoolConstant.{PoolConstant}
use Rattle.code_write.specs.Constants.{first_constants, said_at}
use Rattle.code_write.proofs.Saying.{constants_next}
use Rattle.code_write.proofs.constants.constants_in.Goals as goal

pub loop-index-preserved : goal.loop-index-preserved
loop-index-preserved c =
    let pool = c.args.pool.now.entries in
    let e : c.push.new.self ≡ c.loop-index.table ++ c.in_ok-constant.constant ∷ [] = c.in_ok-push.ensures in
    let f : c.push.new.self ≡ c.loop-index.table ++ said_at pool c.loop-index.index ∷ [] =
    e ∙ ap (λ (k : PoolConstant). c.loop-index.table ++ k ∷ []) c.in_ok-constant.ensures in (
      constants_next pool c.loop-index.index c.loop-index.table c.push.new.self c.loop-index.auto.index
          c.loop-index.invariant.0 f,
      omega (arith, c.loop-index-test.true, c.len-index-end.ensures),
    )

pub returns : goal.returns
returns c =
    let pool = c.args.pool.now.entries in
    let e : c.loop-index.index - 1
    ≡ length pool - 1 = omega (arith, c.loop-index.invariant.1, c.loop-index-test.false, c.len-index-end.ensures) in
    c.loop-index.invariant.0 ∙ ap (first_constants pool) e

-- Answers of `place_code`: what its calls ask for, and what it promises.
use Rattle.std.proofs.Common.{ℕ, List, [], ◌∷◌, ◌++◌, length, ap, ◌∙◌, arith}
use Rattle.std.proofs.lemmas.Result.{err_from_is_err_and}
use Rattle.code_write.specs.declared.encoding.Coded.{Coded}
use Rattle.class_write.proofs.PlacedCodes.{all_have_indices, coded_is, placed_is, fault_due}
use Rattle.class_write.proofs.placing.place_code.Goals as goal

pub encode_with-requires-clause-indices : goal.encode_with-requires-clause-indices
encode_with-requires-clause-indices c = all_have_indices c.args.pool.now c.requires.pool c.args.code.now.ins

pub returns-in_err-coded : goal.returns-in_err-coded
returns-in_err-coded c =
    let p = err_from_is_err_and c.from_residual.result c.from_residual.ensures.1 in
    rw (p.1, p.2) (fault_due c.args.pool.now c.args.code.now c.in_err-coded.field-0.0 c.in_err-coded.ensures.exact)

pub overflow_cast-len : goal.overflow_cast-len
overflow_cast-len c =
    let is = coded_is c.args.pool.now c.args.code.now c.in_ok-coded.coded c.in_ok-coded.ensures.exact in
    rw c.len.ensures (omega (arith, is.0, ap (λ (r : Coded). length r.bytes) is.2))

pub returns : goal.returns
returns c =
    placed_is c.args.pool.now c.args.code.now c.in_ok-coded.coded c.len.result c.from_vec.result
    c.in_ok-coded.ensures.exact c.len.ensures
    (c.from_vec.ensures ∙ (c.in_ok-push.ensures.items ∙ ap (λ
    (xs : List ℕ). xs ++ c.len.result ∷ []) c.into_vec-places.ensures))

-- Answers of `decoded`: what its calls ask for, and what it promises.
use Rattle.std.proofs.Common.{◌≡◌, Err, subst, arith}
use Rattle.jv_base.specs.Outcome.{FaultIs}
use Rattle.jv_base.specs.declared.outcome.Or.{Or}
use Rattle.code_read.specs.declared.decoding.Decoded.{Decoded}
use Rattle.code_read.specs.declared.fault.CodeFault.{CodeFault}
use Rattle.code_read.specs.Decoded.{code_decoded}
use Rattle.class_read.proofs.PartOfCode.{fault_within, count_within}
use Rattle.class_read.proofs.instructions.decoded.Goals as goal

pub or_left_out-requires : goal.or_left_out-requires
or_left_out-requires c =
    let pool = c.args.pool.now in
    let bytes = c.args.code.now in
    let due : code_decoded pool bytes
    ≡ Err c.in-Err-Fault.wrong = subst
    (λ (e : Or CodeFault). FaultIs {V = Decoded} e
    (code_decoded pool bytes)) c.in-Err-Fault.field-0-is c.in-Err-Fault.ensures.exact in
    let within = fault_within pool bytes c.in-Err-Fault.wrong (λ i. omega (arith, c.type_inv.code i)) due in
    omega (arith, within, c.requires.end)

pub returns-in-Ok-clause-count : goal.returns-in-Ok-clause-count
returns-in-Ok-clause-count c = count_within c.args.pool.now c.args.code.now c.in-Ok.decoded
    (λ i. omega (arith, c.type_inv.code i)) c.in-Ok.ensures.exact

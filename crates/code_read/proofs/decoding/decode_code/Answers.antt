-- Answers of `decode_code`: what its calls ask for, and what it promises.
use Rattle.std.proofs.Common.{Result, subst, arith}
use Rattle.jv_base.specs.Outcome.{IsDue}
use Rattle.jv_base.proofs.Due.{due_found, due_only, due_fault}
use Rattle.code_read.specs.declared.decoding.Decoded.{Decoded}
use Rattle.code_read.specs.declared.fault.CodeFault.{CodeFault}
use Rattle.code_read.specs.Decoded.{code_decoded, IsDecoded, ToldLeftOut}
use Rattle.code_read.proofs.ReadWhole.{decoded_is}
use Rattle.code_read.proofs.ReadGrammar.{decoded_found, decoded_only, decoded_left}
use Rattle.code_read.proofs.decoding.decode_code.Goals as goal

pub returns : goal.returns
returns c =
    let pool = c.args.pool.now in
    let bytes = c.args.bytes.now in
    let due : IsDue c.decoded_in_steps.result (code_decoded pool bytes) = subst
    (λ (due : Result Decoded CodeFault). IsDue c.decoded_in_steps.result due)
    (decoded_is pool bytes (λ i. omega (arith, c.type_inv.bytes i))) c.decoded_in_steps.ensures in
    record {
      found = λ units. due_found (IsDecoded pool bytes) c.decoded_in_steps.result (code_decoded pool bytes)
          (λ d h. decoded_found pool bytes d (λ i. omega (arith, c.type_inv.bytes i)) units h) due;
      only = λ d h. due_only c.decoded_in_steps.result (code_decoded pool bytes) d (decoded_only pool bytes d h) due;
      left_out = λ units. due_fault (ToldLeftOut pool bytes) c.decoded_in_steps.result (code_decoded pool bytes)
          (λ f h. decoded_left pool bytes f (λ i. omega (arith, c.type_inv.bytes i)) units h) due;
      exact = due;
    }

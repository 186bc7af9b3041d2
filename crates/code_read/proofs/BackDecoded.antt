-- The canonical bytes of the instructions of a well-formed code are decoded as them.
use Rattle.std.proofs.Common.{ℕ, List, map, Result, Ok, ap, ◌∙◌}
use Rattle.class_model.proofs.BackCode.{op_in, infos}
use Rattle.class_model.proofs.BackRead.{code_back, meant_back, starts_back}
use Rattle.code_read.specs.declared.decoding.Decoded.{Decoded}
use Rattle.code_read.specs.declared.fault.CodeFault.{CodeFault}
use Rattle.code_read.specs.Decoded.{with_starts, as_decoded, code_decoded}
use Rattle.code_read.specs.ReadBack.{CanonicalIsDecoded}

-- they are read as their structures, which mean them and begin at their places
pub decoded_back : CanonicalIsDecoded
unfolding code_decoded
decoded_back entries pool ins h =
    ap (as_decoded entries) (code_back entries pool ins h)
    ∙ ap (with_starts (infos pool ins)) (meant_back entries pool ins 0 h)
    ∙ ap (λ (s : List ℕ). let R : Result Decoded CodeFault = Ok (record { ops = map op_in ins; starts = s }) in R)
    (starts_back pool ins)

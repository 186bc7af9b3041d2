-- Answers of `canonical_is_decoded`: what its calls ask for, and what it promises.
use Rattle.code_read.proofs.decoding.canonical_is_decoded.Goals as goal
use Rattle.code_read.proofs.BackDecoded.{decoded_back}

pub returns : goal.returns
returns c = decoded_back

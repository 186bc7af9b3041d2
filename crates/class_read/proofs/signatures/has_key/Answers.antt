-- Answers of `has_key`: what its calls ask for, and what it promises.
use Rattle.std.proofs.Common.{Bool, ap, ◌∙◌}
use Rattle.std.specs.List.{list_any}
use Rattle.class_read.specs.bodies.Signatures.{SignatureKey}
use Rattle.class_read.proofs.SignatureKeys.{key_order_is_same}
use Rattle.class_read.proofs.signatures.has_key.Goals as goal

pub returns : goal.returns
returns c =
    c.contains.ensures
    ∙ ap (λ (f : SignatureKey → SignatureKey → Bool). list_any (f c.args.key.now) c.args.keys.now.keys)
    key_order_is_same

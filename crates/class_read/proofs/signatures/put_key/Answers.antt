-- Answers of `put_key`: what its calls ask for, and what it promises.
use Rattle.std.proofs.Common.{◌≡◌, Bool, true, cond, subst}
use Rattle.std.specs.List.{list_any}
use Rattle.class_read.specs.bodies.Signatures.{SignatureKey}
use Rattle.class_read.proofs.SignatureKeys.{key_order_is_same}
use Rattle.class_read.proofs.signatures.put_key.Goals as goal

pub returns-clause-kept : goal.returns-clause-kept
returns-clause-kept c =
    subst (λ (f : SignatureKey → SignatureKey → Bool). (q : SignatureKey)
    → list_any (f q) c.insert.new.self.keys ≡ cond (f c.args.key q) true (list_any (f q) c.args.keys.now.keys))
    key_order_is_same c.in_ok-insert.ensures.updates.0

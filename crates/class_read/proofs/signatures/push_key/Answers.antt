-- Answers of `push_key`: what its calls ask for, and what it promises.
use Rattle.std.proofs.Common.{◌≡◌, true, cond, List, sym, subst}
use Rattle.std.specs.List.{list_any}
use Rattle.class_model.specs.ReadingMembers.{Signature}
use Rattle.class_read.specs.bodies.Signatures.{SignatureKey, Knows, same_key}
use Rattle.class_read.proofs.SignatureKeys.{known_more}
use Rattle.class_read.proofs.signatures.push_key.Goals as goal

pub returns-in-Ok-clause-keys : goal.returns-in-Ok-clause-keys
returns-in-Ok-clause-keys c =
    let old = c.args.keys.now.keys in
    let new = c.put_key.new.keys.keys in
    subst (λ (ss : List Signature). Knows ss new) (sym c.in_ok-push.ensures.items)
    (known_more c.args.before.now.items old new c.args.signature c.requires.knows
    (subst (λ (key : SignatureKey). (k : SignatureKey)
    → list_any (same_key k) new ≡ cond (same_key key k) true (list_any (same_key k) old)) c.requires.key
    c.in-Ok.ensures.kept))

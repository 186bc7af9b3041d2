-- Answers of `Signatures::check_fresh`: what its calls ask for, and what it promises.
use Rattle.std.proofs.Common.{◌≡◌, Bool, not, List, sym, ap, ◌∙◌}
use Rattle.std.specs.List.{list_any}
use Rattle.format_reading.specs.declared.fault.FormatKind.TheVariants.{Repeated}
use Rattle.class_model.specs.Lookups.{test}
use Rattle.class_model.specs.ReadingMembers.{Signature, same_signature}
use Rattle.class_read.specs.bodies.Entries.{found_at}
use Rattle.class_read.specs.bodies.Signatures.{SignatureKey, key_of, same_key}
use Rattle.class_read.proofs.Newest.{any_newest}
use Rattle.class_read.proofs.signatures.Signatures.check_fresh.Goals as goal

pub returns : goal.returns
returns c =
    let s = c.args.signature.now in
    let before = c.self.inside.before.items in
    let keys = c.self.inside.keys.keys in
    let e : c.signature.inside.key ≡ key_of s = sym c.signature.invariant ∙ ap key_of c.signature.view_is in
    c.check_key.ensures
    ∙ ap (λ (b : Bool). found_at c.args.at (test Repeated (not b)))
    (ap (λ (k : SignatureKey). list_any (same_key k) keys) e ∙ c.self.invariant s
    ∙ sym (any_newest (same_signature s) before)
    ∙ ap (λ (l : List Signature). list_any (same_signature s) l) c.self.view_is)

-- Answers of `Alike::may_have`: what its calls ask for, and what it promises.
use Rattle.std.proofs.Common.{arith, refl}
use Rattle.method_places.proofs.Having.{none_has}
use Rattle.method_places.proofs.alike.Alike.may_have.Goals as goal

pub returns : goal.returns
returns c said =
    let self = c.args.self.now in
    none_has self.set.now self.marks self.keys.items self.groups.items c.requires.alike
    (c.if-not-has_places.ensures refl) c.args.id c.args.at c.requires.there.0 c.requires.method
    (λ g less. c.loop-group.invariant g
    (omega (arith, less, c.loop-group-test.false, c.as_slice-group-items.ensures.len)))

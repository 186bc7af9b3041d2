-- Answers of `satisfies_first`: what its calls ask for, and what it promises.
use Rattle.std.proofs.Common.{◌≡◌, ◌<◌, ◌+◌, ℕ, Option, Some, None, get_or, length, sym, ap, subst, ◌∙◌, arith}
use Rattle.type_verifier.specs.declared.chain.Chain.{Chain}
use Rattle.type_verifier.specs.bodies.Chained.{IsFirstFrom, IsSatisfiedBefore, from_of}
use Rattle.type_verifier.specs.bodies.Seen.{environment_of}
use Rattle.type_verifier.proofs.Chaining.{satisfied_all, satisfied_more}
use Rattle.type_verifier.proofs.handlers.satisfies_first.Goals as goal

pub loop-next-preserved : goal.loop-next-preserved
loop-next-preserved c =
    let env = environment_of c.args.env.now in
    let at = c.args.at in
    let f = c.args.frame.now in
    let handlers = c.args.env.now.code.now.handlers in
    let n = c.in-Some.number in
    let so_far : IsSatisfiedBefore env at f (Some n) =
    subst (λ (o : Option ℕ). IsSatisfiedBefore env at f o) c.in-Some.is c.loop-next.invariant in
    let same : from_of handlers n ≡ at = so_far.covering.1 in
    let next = λ (x : Chain). get_or x.next.items n None in
    let is : IsFirstFrom handlers (n + 1) (from_of handlers n) (next c.args.places.now.covered) =
    c.requires.places.covered.chained.next n (omega arith) so_far.covering.0
    (subst (λ (i : ℕ). i < length c.args.env.now.code.now.ins) (sym same) c.requires.instruction) in
    satisfied_more env at f n c.next_of-next.result so_far
    (sym c.in_ok-satisfies_if_first.ensures ∙ c.if-not-branch.false)
    (subst (IsFirstFrom handlers (n + 1) at) (sym (c.next_of-next.ensures ∙ ap next c.covered-chain.ensures))
    (subst (λ (i : ℕ). IsFirstFrom handlers (n + 1) i (next c.args.places.now.covered)) same is))

pub returns : goal.returns
returns c =
    satisfied_all (environment_of c.args.env.now) c.args.at c.args.frame.now
    (subst (λ (o : Option ℕ). IsSatisfiedBefore (environment_of c.args.env.now) c.args.at c.args.frame.now o)
    c.in_default.is
    c.loop-next.invariant)

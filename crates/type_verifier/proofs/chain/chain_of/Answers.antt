-- Answers of `chain_of`: what its calls ask for, and what it promises.
use Rattle.std.proofs.Common.{◌≡◌, ◌<◌, ◌≤◌, ◌-◌, ℕ, get_or, ap, subst, length, arith}
use Rattle.std.proofs.lemmas.List.{get_or_default}
use Rattle.class_model.specs.declared.code.Handler.{Handler}
use Rattle.type_verifier.specs.bodies.Asked.{no_handler}
use Rattle.type_verifier.specs.bodies.Chained.{IsChainFrom, from_of}
use Rattle.type_verifier.proofs.Chaining.{chained, chained_past, chained_put}
use Rattle.type_verifier.proofs.chain.chain_of.Goals as goal

pub loop-number-preserved-then-from-count : goal.loop-number-preserved-then-from-count
loop-number-preserved-then-from-count c =
    let handlers = c.args.handlers.now in
    let number = c.loop-number.number in
    let n = number - 1 in
    let most = c.loop-number.invariant.0 in
    let some = c.loop-number-test.true in
    let x = c.index-handlers-number.result in
    let less : n < length handlers = omega (arith, some, most) in
    let same : (get_or handlers n x).from ≡ from_of handlers n =
    ap (λ (h : Handler). h.from) (get_or_default handlers n x no_handler less) in (
      omega (arith, most),
      chained_put handlers number n c.args.count c.loop-number.first.items c.loop-number.next.items
          (omega (arith, some)) less c.loop-number.invariant.1 (get_or handlers n x).from c.index.result.now same
          c.if-from-count.true c.index.ensures,
    )

pub loop-number-preserved : goal.loop-number-preserved
loop-number-preserved c =
    let handlers = c.args.handlers.now in
    let number = c.loop-number.number in
    let n = number - 1 in
    let most = c.loop-number.invariant.0 in
    let some = c.loop-number-test.true in
    let x = c.index-handlers-number.result in
    let less : n < length handlers = omega (arith, some, most) in
    let same : (get_or handlers n x).from ≡ from_of handlers n =
    ap (λ (h : Handler). h.from) (get_or_default handlers n x no_handler less) in (
      omega (arith, most),
      chained_past handlers number n c.args.count c.loop-number.first.items c.loop-number.next.items
          (omega (arith, some)) less c.loop-number.invariant.1
          (subst (λ (from : ℕ). c.args.count ≤ from) same c.if-from-count.false),
    )

pub returns : goal.returns
returns c =
    let none = c.loop-number-test.false in
    let zero : c.loop-number.number ≡ 0 = omega (arith, none) in
    chained c.args.handlers.now c.args.count (record { first = c.loop-number.first; next = c.loop-number.next })
    (subst (λ (n : ℕ). IsChainFrom c.args.handlers.now n c.args.count c.loop-number.first.items
    c.loop-number.next.items) zero c.loop-number.invariant.1)

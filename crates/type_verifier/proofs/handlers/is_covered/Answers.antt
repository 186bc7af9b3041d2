-- Answers of `is_covered`: what its calls ask for, and what it promises.
use Rattle.std.proofs.Common.{◌≡◌, List, ℕ, length, get_or, false, ap, sym, ◌∙◌, arith, below_more}
use Rattle.std.proofs.lemmas.Option.{get_or_from_slice_get}
use Rattle.type_verifier.specs.bodies.Asked.{handler_at, no_handler}
use Rattle.type_verifier.specs.Walk.{covers}
use Rattle.type_verifier.proofs.Asking.{uncovered}
use Rattle.type_verifier.proofs.handlers.is_covered.Goals as goal

pub loop-number-preserved : goal.loop-number-preserved
loop-number-preserved c =
    let code = c.args.env.now.code.now in
    let index = c.loop-number.number-index in
    let test = λ (numbers : List ℕ) (i : ℕ). covers c.args.at (handler_at code (get_or numbers i 0)) in
    below_more (λ (i : ℕ). test c.args.places.now.asked.items i ≡ false) index c.loop-number.invariant
    (sym (ap (λ (numbers : List ℕ). test numbers index) c.asked-number-items.ensures)
    ∙ ap (covers c.args.at) (get_or_from_slice_get code.handlers (get_or c.asked-number-items.result.now index 0)
    c.index.result.now no_handler c.index.ensures)
    ∙ sym c.covers.ensures ∙ c.if-covers.false)

pub returns : goal.returns
returns c = λ is.
    uncovered c.args.env.now.code.now c.args.at c.args.places.now.asked.items c.requires.places.asked
    (λ i lt. c.loop-number.invariant i
    (let same = ap length c.asked-number-items.ensures in let test = c.loop-number-test.false in
    omega (arith, lt, same, test)))

-- Answers of `satisfies_behind`: what its calls ask for, and what it promises.
use Rattle.std.proofs.Common.{◌≡◌, List, ℕ, length, get_or, true, ap, sym, ◌∙◌, arith, below_more}
use Rattle.std.proofs.lemmas.Bool.{eqb-true}
use Rattle.type_verifier.specs.bodies.Asked.{handler_at, satisfies_if_behind}
use Rattle.type_verifier.specs.bodies.Seen.{environment_of}
use Rattle.type_verifier.proofs.Asking.{behind_holds, behind_still}
use Rattle.type_verifier.proofs.handlers.satisfies_behind.Goals as goal

pub returns-then-is_nothing : goal.returns-then-is_nothing
returns-then-is_nothing c =
    behind_still (environment_of c.args.env.now) c.args.at c.args.changed c.args.frame.now c.requires.since
    (eqb-true c.args.changed.from c.args.changed.to (sym c.is_nothing.ensures ∙ c.if-is_nothing.true))

pub returns : goal.returns
returns c =
    behind_holds (environment_of c.args.env.now) c.args.at c.args.changed c.args.frame.now c.requires.since
    c.args.places.now.asked.items c.requires.places.asked
    (λ i lt. c.loop-number.invariant i
    (let same = ap length c.asked-number-items.ensures in let test = c.loop-number-test.false in
    omega (arith, lt, same, test)))

pub loop-number-preserved : goal.loop-number-preserved
loop-number-preserved c =
    let index = c.loop-number.number-index in
    let holds = λ (numbers : List ℕ) (i : ℕ). satisfies_if_behind (environment_of c.args.env.now) c.args.at
    c.args.frame.now
    (handler_at c.args.env.now.code.now (get_or numbers i 0)) in
    below_more (λ (i : ℕ). holds c.args.places.now.asked.items i ≡ true) index c.loop-number.invariant
    (sym (ap (λ (numbers : List ℕ). holds numbers index) c.asked-number-items.ensures)
    ∙ sym c.in_ok-satisfies_if_behind.ensures ∙ c.if-not-branch.false)

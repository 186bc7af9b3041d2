-- Answers of `above`: what its calls ask for, and what it promises.
use Rattle.std.proofs.Common.{◌≡◌, ◌∙◌, ◌<◌, ◌++◌, ◌∷◌, [], List, ℕ, length, get_or, ap, arith}
use Rattle.class_pool.specs.bodies.Numbers.{numbers_named}
use Rattle.class_pool.proofs.Above.{above_more}
use Rattle.class_pool.proofs.hierarchy.cycles.above.Goals as goal

pub loop-name-preserved : goal.loop-name-preserved
loop-name-preserved c =
    let x : List ℕ = c.name-item.result in
    let names : List (List ℕ) = c.args.class.now.interfaces in
    let at : x ≡ get_or names c.loop-name.name-index x = c.name-item.is
    ∙ ap (λ (xs : List (List ℕ)). get_or xs c.loop-name.name-index x) c.as_slice-name-items.ensures in
    let within : c.loop-name.name-index < length names = omega
    (arith, c.loop-name-test.true, ap length c.as_slice-name-items.ensures) in
    c.in_ok-push_number-2.ensures
    ∙ ap (λ (ns : List ℕ). ns ++ numbers_named c.args.set.now (x ∷ [])) c.loop-name.invariant
    ∙ above_more c.args.set.now c.args.class.now.super_name x names c.loop-name.name-index within at

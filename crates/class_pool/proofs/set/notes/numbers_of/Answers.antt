-- Answers of `numbers_of`: what its calls ask for, and what it promises.
use Rattle.std.proofs.Common.{rules, ◌≡◌, ◌∙◌, ◌++◌, ◌∷◌, [], ℕ, List, ap, map}
use Rattle.jv_base.proofs.Lists.{mapped_more}
use Rattle.class_pool.specs.bodies.ByName.{Key}
use Rattle.class_pool.specs.bodies.Notes.{number_in, numbers_of}
use Rattle.class_pool.proofs.set.notes.numbers_of.Goals as goal

pub loop-index-preserved : goal.loop-index-preserved
loop-index-preserved c =
    let put : c.push.new.self ≡ c.loop-index.numbers ++ c.in_ok-own_numbers.field-0 ∷ [] = search rules in
    put
    ∙ ap (λ (t : List ℕ). c.loop-index.numbers ++ t ∷ [])
    (c.in_ok-own_numbers.ensures
    ∙ ap (map (λ (key : Key). number_in c.args.keys.now (key.0, key.1.0))) c.as_slice.ensures.value)
    ∙ ap (λ (ts : List (List ℕ)). ts ++ numbers_of c.args.keys.now c.index-item.result ∷ []) c.loop-index.invariant
    ∙ mapped_more (numbers_of c.args.keys.now) c.args.members.now c.loop-index.index-index c.index-item.result
    c.loop-index-test.true c.index-item.is

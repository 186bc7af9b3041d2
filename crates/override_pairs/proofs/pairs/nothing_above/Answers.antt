-- Answers of `nothing_above`: what its calls ask for, and what it promises.
use Rattle.std.proofs.Common.{◌≡◌, ◌<◌, ◌∙◌, ℕ, List, ap, arith, get_or, length, replicate}
use Rattle.std.proofs.lemmas.List.{get_or-replicate, length-replicate}
use Rattle.item_numbers.proofs.Looking.{own_above}
use Rattle.override_pairs.proofs.ChainSteps.{own_steps}
use Rattle.override_pairs.proofs.pairs.nothing_above.Goals as goal

zeroes : {count long : ℕ} {xs : List ℕ} → xs ≡ replicate count 0 → count ≡ long → (n : ℕ) → n < long
    → get_or xs n 0 ≡ 0
zeroes {count} are same n lt =
    ap (λ (t : List ℕ). get_or t n 0) are ∙ get_or-replicate count n 0 0 (omega (arith, lt, same))

pub returns : goal.returns
returns c = record {
  below = own_above c.args.set.now c.in_ok-below.below.items c.in_ok-below.ensures;
  steps = own_steps c.args.set.now c.in_ok-below.below.items c.in_ok-steps.steps.items c.in_ok-below.ensures
      (ap (λ (t : List ℕ). length t) (c.in_ok-steps.ensures.items_if_clones_equal (λ y same. same))
      ∙ length-replicate _ 0 ∙ c.len.ensures)
      (λ n lt. zeroes (c.in_ok-steps.ensures.items_if_clones_equal (λ y same. same)) c.len.ensures n lt);
  notes = c.in_ok-notes.ensures;
  placed = c.in_ok-placed.ensures;
  opening = c.in_ok-opening.ensures;
  freed = c.in_ok-freed.ensures;
}

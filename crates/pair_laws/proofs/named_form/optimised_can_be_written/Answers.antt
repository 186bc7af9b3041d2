-- Answers of `optimised_can_be_written`: what its calls ask for, and what it promises.
use Rattle.pair_laws.proofs.OptimisedPairs.OptimisedSet.{PassLaws}
use Rattle.pair_laws.proofs.OptimisedPairs.Kept.{keeps_writable}
use Rattle.pair_laws.proofs.named_form.optimised_can_be_written.Goals as goal

pub returns : goal.returns
returns c =
    let laws : PassLaws = record {
      legal = c.found_acts_are_legal.ensures;
      swapped = c.sets_by_rules_are_swapped.ensures.swapped;
      typed = c.sets_by_rules_are_swapped.ensures.typed;
    } in
    keeps_writable laws

-- Answers of `own_pairs_are_taken`: what its calls ask for, and what it promises.
use Rattle.pair_laws.proofs.OptimisedPairs.OptimisedSet.{PassLaws}
use Rattle.pair_laws.proofs.OwnPairs.Own.{own_accepted, own_pairs}
use Rattle.pair_laws.proofs.own_pairs.own_pairs_are_taken.Goals as goal

pub returns : goal.returns
returns c =
    let laws : PassLaws = record {
      legal = c.found_acts_are_legal.ensures;
      swapped = c.sets_by_rules_are_swapped.ensures.swapped;
      typed = c.sets_by_rules_are_swapped.ensures.typed;
    } in
    record { accepted = own_accepted laws; pair = own_pairs laws }

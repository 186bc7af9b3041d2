-- Answers of `own_files_are_found_again`: what its calls ask for, and what it promises.
use Rattle.pair_laws.proofs.OptimisedPairs.OptimisedSet.{PassLaws}
use Rattle.pair_laws.proofs.OwnChecked.Own.{files_found_again}
use Rattle.pair_laws.proofs.own_checked.own_files_are_found_again.Goals as goal

pub returns : goal.returns
returns c =
    let laws : PassLaws = record {
      legal = c.found_acts_are_legal.ensures;
      swapped = c.sets_by_rules_are_swapped.ensures.swapped;
      typed = c.sets_by_rules_are_swapped.ensures.typed;
    } in
    files_found_again laws

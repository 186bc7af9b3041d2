-- Answers of `own_texts_are_read`: what its calls ask for, and what it promises.
use Rattle.pair_laws.proofs.OptimisedPairs.OptimisedSet.{PassLaws}
use Rattle.pair_laws.proofs.OwnMapping.Own.{own_is_mapping, own_mapping_is_read, own_witness_is_read}
use Rattle.pair_laws.proofs.own_mapping.own_texts_are_read.Goals as goal

pub returns : goal.returns
returns c =
    let laws : PassLaws = record {
      legal = c.found_acts_are_legal.ensures;
      swapped = c.sets_by_rules_are_swapped.ensures.swapped;
      typed = c.sets_by_rules_are_swapped.ensures.typed;
    } in
    record { mapping = own_is_mapping laws; read = own_mapping_is_read laws; witness = own_witness_is_read laws }

-- The mapping of a set that was written has a text, which is read back, and so has its witness.
use Rattle.std.proofs.Common.{sym, subst}
use Rattle.mapping_file.specs.Mappings.{IsMapping}
use Rattle.mapping_file.proofs.MapLaw.{written_back}
use Rattle.attribute_filter.specs.KeptAttributes.{filter_of}
use Rattle.member_shrink.specs.Shrunk.{shrunk}
use Rattle.set_read.proofs.Writable.{accepted_are_writable}
use Rattle.set_shrink.proofs.Writable.{shrunk_writable}
use Rattle.pass_driver.specs.Optimised.{with_codes}
use Rattle.set_shrink.specs.ShrunkSet.{new_names}
use Rattle.swap_laws.proofs.Taken.{swap_keeps_taken}
use Rattle.witness_file.proofs.WitnessLaw.{written_back as witness_back}
use Rattle.removal_laws.proofs.AcceptedSets.Taken.{are_taken}
use Rattle.pair_laws.specs.NamedForm.Laws.{IsLinked}
use Rattle.pair_laws.proofs.NamedForm.Apart.{kept_apart}
use Rattle.pair_laws.proofs.NamedForm.Written.{apart_by, kept_writable, set_apart}
use Rattle.pair_laws.proofs.OptimisedPairs.OptimisedSet.{PassLaws, closed_too, edited_if, swapped_if}
use Rattle.pair_laws.proofs.OptimisedPairs.WitnessText.{witness_texts, is_witness}
use Rattle.pair_laws.proofs.OptimisedPairs.WritableCodes.{all_writable}
use Rattle.pair_laws.specs.OwnMapping.Laws.{OwnIsMapping, OwnMappingIsRead, OwnWitnessIsRead}
use Rattle.pair_laws.proofs.OwnMapping.Mapped.{is_mapping}

pub own_is_mapping : PassLaws → OwnIsMapping
own_is_mapping laws files classes marks rules old o set written h =
    let taken = are_taken files classes h.readable h.accepted in
    let new = with_codes o.codes classes in
    let swapped = swapped_if laws marks classes o taken h.accepted.typed rules.optimise h.optimised in
    let edited = edited_if laws marks classes o taken h.accepted.typed rules.optimise h.optimised in
    let then_taken = swap_keeps_taken classes new swapped taken in
    let linked : IsLinked new = record {
      files = then_taken.files;
      ascend = then_taken.ascend;
      built = then_taken.built;
      linked = then_taken.linked;
    } in
    let writable = all_writable marks classes o.codes o.witness.methods taken edited swapped
    (accepted_are_writable files classes h.accepted) in
    subst IsMapping (sym h.shrunk.mapping)
    (is_mapping (new_names new marks rules old) (filter_of rules).line_numbers (shrunk new marks)
    (shrunk_writable new marks writable)
    (kept_writable new rules old marks h.earlier linked (closed_too classes new swapped rules marks h.closed) writable)
    (kept_apart new marks (set_apart new linked)) (apart_by new rules old marks linked rules.obfuscate))

pub own_mapping_is_read : PassLaws → OwnMappingIsRead
own_mapping_is_read laws files classes marks rules old o set written h =
    written_back set.mapping (own_is_mapping laws files classes marks rules old o set written h)

pub own_witness_is_read : PassLaws → OwnWitnessIsRead
own_witness_is_read laws files classes marks rules old o set written h =
    let taken = are_taken files classes h.readable h.accepted in
    let edited = edited_if laws marks classes o taken h.accepted.typed rules.optimise h.optimised in
    let is = is_witness laws.legal files marks classes o.codes o.witness.methods taken h.accepted edited in (
      is,
      witness_back o.witness is
          (witness_texts files marks classes o.codes o.witness.methods taken h.accepted edited),
    )

use Rattle.std.proofs.Common.{◌≡◌, [], drop, map, take}
use Rattle.mapping_file.specs.declared.mapping.Mapping.{Mapping}
use Rattle.new_names.specs.NewNames.{names_given}
use Rattle.pair_edits.specs.Edits.{entries_fault}
use Rattle.pair_edits.specs.bodies.Tables.{HasEntries}
use Rattle.pair_edits.proofs.strays.stray_entry.Given as goal

abbrev pub invariant-loop-entry : goal.invariant-loop-entry
invariant-loop-entry l = record {
  seen : HasEntries l.seen (take l.entry-index l.witness.methods);
  fault : (mapping : Mapping) → l.given ≡ map (names_given mapping) l.input
      → entries_fault mapping l.input (take l.entry-index l.witness.methods)
      (drop l.entry-index l.witness.methods) ≡ entries_fault mapping l.input [] l.witness.methods;
}

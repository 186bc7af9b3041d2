-- Answers of `add_of`: what its calls ask for, and what it promises.
use Rattle.std.proofs.Common.{List, [], subst, sym, ◌∙◌}
use Rattle.std.specs.Prelude.{OnOk}
use Rattle.std.proofs.lemmas.Option.{get_or_from_slice_get}
use Rattle.mark_core.specs.declared.system.Pair.{Pair}
use Rattle.override_pairs.specs.bodies.Counting.{AddsPairs}
use Rattle.method_places.proofs.InstanceRows.{rows_paired}
use Rattle.override_pairs.proofs.pairs.add_of.Goals as goal

pub returns : goal.returns
returns c =
    subst (λ (t : List Pair). OnOk c.add_rows.result (AddsPairs c.args.pairs.now t c.add_rows.new.pairs))
    (rows_paired c.args.receiver.now.numbered.now.set.now c.args.receiver.now.table.now c.requires.receiver.rows
    c.args.number c.args.receiver.now.class c.args.above.now c.as_slice.result.now c.requires.above
    (c.as_slice.ensures ∙ sym (get_or_from_slice_get c.args.receiver.now.table.now c.args.above.now
    c.index-rows.result.now [] c.index-rows.ensures)))
    c.add_rows.ensures

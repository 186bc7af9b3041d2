-- Answers of `add_rows`: what its calls ask for, and what it promises.
use Rattle.std.proofs.Common.{List, arith, map, subst}
use Rattle.std.specs.List.{filter, filter_map}
use Rattle.std.proofs.lemmas.List.{get_or_default, take_all}
use Rattle.mark_core.specs.declared.system.Pair.{Pair}
use Rattle.require_sys.specs.Requires.{is_inheritable}
use Rattle.method_places.specs.bodies.Alike.{member_at}
use Rattle.override_pairs.specs.bodies.Counting.{AddsPairs}
use Rattle.item_numbers.specs.bodies.Selecting.{pair_with}
use Rattle.method_places.specs.declared.methods.InstanceMethod.{InstanceMethod}
use Rattle.override_pairs.proofs.CountedPairs.{both_pairs}
use Rattle.method_places.proofs.InstanceRows.{row_paired}
use Rattle.override_pairs.proofs.pairs.add_rows.Goals as goal

pub loop-row-preserved : goal.loop-row-preserved
loop-row-preserved c =
    subst (λ (t : List Pair). AddsPairs c.args.pairs.now t c.add_row.new.pairs)
    (row_paired c.args.receiver.now.numbered.now.set.now c.args.class.now.own c.args.receiver.now.class c.args.rows.now
    c.loop-row.row-index _ c.loop-row-test.true
    (get_or_default c.args.rows.now c.loop-row.row-index _ _ c.loop-row-test.true))
    (both_pairs c.args.pairs.now c.loop-row.pairs c.add_row.new.pairs _ _ c.loop-row.invariant c.in_ok-add_row.ensures)

pub returns : goal.returns
returns c =
    let set = c.args.receiver.now.numbered.now.set.now in
    subst (λ (rows : List InstanceMethod). AddsPairs c.args.pairs.now
    (filter_map (pair_with set c.args.class.now.own c.args.receiver.now.class)
    (filter (is_inheritable set) (map member_at rows))) c.loop-row.pairs)
    (take_all c.loop-row.row-index c.args.rows.now (omega (arith, c.loop-row-test.false))) c.loop-row.invariant

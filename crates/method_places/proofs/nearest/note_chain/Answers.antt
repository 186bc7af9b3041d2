-- Answers of `note_chain`: what its calls ask for, and what it promises.
use Rattle.std.proofs.Common.{◌++◌, ◌∙◌, [], List, subst, sym, take}
use Rattle.std.specs.List.{flat_map}
use Rattle.std.proofs.lemmas.Option.{get_or_from_slice_get}
use Rattle.method_places.specs.bodies.Nearest.{AreNoted, rows_by}
use Rattle.method_places.specs.declared.methods.InstanceMethod.{InstanceMethod}
use Rattle.method_places.proofs.Noting.{front_more, rows_of_more}
use Rattle.method_places.proofs.nearest.note_chain.Goals as goal

pub loop-class-preserved : goal.loop-class-preserved
loop-class-preserved c = record {
  noted = subst (λ (t : List InstanceMethod). AreNoted c.args.stamp t c.note_rows.new.notes.items)
      (rows_of_more c.args.table.now c.args.chain.now c.loop-class.class-index c.class-item.result c.in-Prog.number
      c.loop-class-test.true c.class-item.is c.in-Prog.is)
      (subst (λ (t : List InstanceMethod). AreNoted c.args.stamp
      (flat_map (rows_by c.args.table.now) (take c.loop-class.class-index c.args.chain.now) ++ t)
      c.note_rows.new.notes.items)
      (c.as_slice.ensures ∙ sym (get_or_from_slice_get c.args.table.now c.in-Prog.number c.index.result.now []
      c.index.ensures))
      (c.note_rows.ensures.noted (flat_map (rows_by c.args.table.now)
      (take c.loop-class.class-index c.args.chain.now)) c.loop-class.invariant.noted));
  front = front_more c.args.table.now c.args.chain.now c.loop-class.class-index c.class-item.result c.in-Prog.number
      c.loop-class-test.true c.class-item.is c.in-Prog.is c.loop-class.invariant.front;
  stamps = c.note_rows.ensures.stamps;
}

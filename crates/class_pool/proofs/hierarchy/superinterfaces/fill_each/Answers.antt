-- Answers of `fill_each`: what its calls ask for, and what it promises.
use Rattle.std.proofs.Common.{⊎_elim, get_or, arith}
use Rattle.class_pool.specs.bodies.Graph.{number}
use Rattle.class_pool.specs.Hierarchy.{interfaces}
use Rattle.std.proofs.lemmas.Bool.{cases_lt}
use Rattle.class_pool.proofs.FillingLaws.{filled_at}
use Rattle.class_pool.proofs.hierarchy.superinterfaces.fill_each.Goals as goal

pub id_at-requires-clause-there : goal.id_at-requires-clause-there
id_at-requires-clause-there c =
    omega (arith, c.len-place-end.ensures, c.requires.filling.few, c.requires.filling.lists, c.loop-place-test.true)

pub loop-place-preserved : goal.loop-place-preserved
loop-place-preserved c = record {
  filling = c.in_ok-fill.ensures.filling;
  keeps = λ a h. c.in_ok-fill.ensures.keeps a (c.loop-place.invariant.keeps a h);
  more = λ a a-in low all.
      ⊎_elim
      (λ before. c.in_ok-fill.ensures.keeps a (c.loop-place.invariant.more a a-in before all))
      (λ over.
      filled_at c.args.classes.now c.args.filling.now.filled.items c.loop-place.filling.filled.items
      c.fill.new.filling.filled.items c.loop-place.place c.id_at.result a c.id_at.ensures a-in
      (omega (arith, low, over)) c.in_ok-fill.ensures.more
      (λ k d within. c.loop-place.invariant.keeps (get_or (interfaces c.args.classes.now a) k d) (all k d within)))
      (cases_lt (number a) c.loop-place.place);
}

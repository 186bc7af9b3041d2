-- Answers of `Met::meet_all`: what its calls ask for, and what it promises.
use Rattle.std.proofs.Common.{◌∙◌, ◌++◌, [], ◌∷◌, List, refl, sym, ap}
use Rattle.std.proofs.lemmas.List.{append-nil}
use Rattle.class_pool.specs.declared.id.ClassId.{ClassId}
use Rattle.class_pool.specs.Walk.{each_once}
use Rattle.class_pool.proofs.EachOnce.{once_more, once_none}
use Rattle.class_pool.proofs.hierarchy.met.Met.meet_all.Goals as goal

pub loop-id-init : goal.loop-id-init
loop-id-init c = record {
  count = refl;
  ids = sym (ap (λ (t : List ClassId). c.args.self.now.ids ++ t) (once_none c.args.self.now.ids)
      ∙ append-nil c.args.self.now.ids);
}

pub loop-id-preserved : goal.loop-id-preserved
loop-id-preserved c = record {
  count = c.meet.ensures.count ∙ c.loop-id.invariant.count;
  ids =
      c.in_ok-meet.ensures.ids
      ∙ ap (λ (x : ClassId). c.loop-id.self.ids ++ each_once c.loop-id.self.ids (x ∷ [])) c.id-item.is
      ∙ once_more c.args.self.now.ids c.args.ids.now c.loop-id.id-index c.id-item.result c.loop-id.self.ids
      c.loop-id-test.true c.loop-id.invariant.ids;
}

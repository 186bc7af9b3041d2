-- Answers of `walk`: what its calls ask for, and what it promises.
use Rattle.std.proofs.Common.{◌≡◌, ◌∙◌, ◌++◌, [], ◌∷◌, List, get_or, refl, sym, ap}
use Rattle.std.proofs.lemmas.List.{append-nil}
use Rattle.class_pool.specs.declared.id.ClassId.{ClassId}
use Rattle.class_pool.specs.bodies.Lists.{list_at}
use Rattle.class_pool.specs.Walk.{each_once}
use Rattle.class_pool.proofs.EachOnce.{once_none}
use Rattle.class_pool.proofs.FillingLaws.{list_read, walk_more}
use Rattle.class_pool.proofs.hierarchy.superinterfaces.walk.Goals as goal

pub loop-id-init : goal.loop-id-init
loop-id-init c = record {
  count = refl;
  ids = sym (ap (λ (t : List ClassId). c.args.met.now.ids ++ t) (once_none c.args.met.now.ids)
      ∙ append-nil c.args.met.now.ids);
}

pub loop-id-preserved : goal.loop-id-preserved
loop-id-preserved c =
    let x : ClassId = c.id-item.result in
    let xs : List ClassId = c.args.interfaces.now in
    let one : c.meet.new.self.ids
    ≡ c.loop-id.met.ids ++ each_once c.loop-id.met.ids (get_or xs c.loop-id.id-index x ∷ []) =
    c.in_ok-meet.ensures.ids
    ∙ ap (λ (y : ClassId). c.loop-id.met.ids ++ each_once c.loop-id.met.ids (y ∷ [])) c.id-item.is in
    let list : c.at.result.now ≡ list_at c.args.lists.now (get_or xs c.loop-id.id-index x) =
    list_read c.args.lists.now x (get_or xs c.loop-id.id-index x) c.number.result c.at.result.now c.at.ensures
    c.number.ensures c.id-item.is in
    record {
      count = c.meet_all.ensures.count ∙ c.meet.ensures.count ∙ c.loop-id.invariant.count;
      ids =
          walk_more c.args.lists.now c.args.met.now.ids xs c.loop-id.id-index x c.loop-id.met.ids c.meet.new.self.ids
          c.meet_all.new.self.ids c.loop-id-test.true c.loop-id.invariant.ids one
          (c.in_ok-meet_all.ensures.ids
          ∙ ap (λ (t : List ClassId). c.meet.new.self.ids ++ each_once c.meet.new.self.ids t) list);
    }

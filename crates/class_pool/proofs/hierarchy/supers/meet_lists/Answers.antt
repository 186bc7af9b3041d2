-- Answers of `meet_lists`: what its calls ask for, and what it promises.
use Rattle.std.proofs.Common.{◌≡◌, ◌∙◌, ◌++◌, ◌<◌, ℕ, [], List, length, get_or, refl, sym, ap, subst, arith}
use Rattle.std.specs.List.{All}
use Rattle.std.proofs.lemmas.List.{append-nil}
use Rattle.std.proofs.lemmas.Option.{get_or_from_slice_get}
use Rattle.class_pool.specs.declared.id.ClassId.{ClassId}
use Rattle.class_pool.specs.bodies.Graph.{number}
use Rattle.class_pool.specs.bodies.Lists.{list_at}
use Rattle.class_pool.specs.bodies.Marked.{IsBelow}
use Rattle.class_pool.specs.Walk.{each_once}
use Rattle.class_pool.proofs.EachOnce.{once_none}
use Rattle.class_pool.proofs.FillingLaws.{list_read}
use Rattle.class_pool.proofs.SupersLaws.{lists_more}
use Rattle.class_pool.proofs.hierarchy.supers.meet_lists.Goals as goal

pub loop-id-init : goal.loop-id-init
loop-id-init c = record {
  count = refl;
  ids = sym (ap (λ (t : List ClassId). c.args.met.now.ids ++ t) (once_none c.args.met.now.ids)
      ∙ append-nil c.args.met.now.ids);
}

pub meet_all-requires-clause-below : goal.meet_all-requires-clause-below
meet_all-requires-clause-below c =
    let low = (c.requires.below c.loop-id.id-index c.id-item.result c.loop-id-test.true).1 in
    let at : c.number.result ≡ number (get_or c.args.ids.now c.loop-id.id-index c.id-item.result) = c.number.ensures
    ∙ ap number c.id-item.is in
    let within : c.number.result < length c.args.lists.now = omega (arith, low, at, c.requires.count) in
    subst (λ (n : ℕ). All (IsBelow n) c.at.result.now) (sym c.loop-id.invariant.count)
    (subst (All (IsBelow c.args.met.now.count))
    (get_or_from_slice_get c.args.lists.now c.number.result c.at.result.now [] c.at.ensures)
    (c.requires.lists c.number.result [] within))

pub loop-id-preserved : goal.loop-id-preserved
loop-id-preserved c =
    let x : ClassId = c.id-item.result in
    let xs : List ClassId = c.args.ids.now in
    let list : c.at.result.now ≡ list_at c.args.lists.now (get_or xs c.loop-id.id-index x) =
    list_read c.args.lists.now x (get_or xs c.loop-id.id-index x) c.number.result c.at.result.now c.at.ensures
    c.number.ensures c.id-item.is in
    record {
      count = c.meet_all.ensures.count ∙ c.loop-id.invariant.count;
      ids =
          lists_more c.args.lists.now c.args.met.now.ids xs c.loop-id.id-index x c.loop-id.met.ids
          c.meet_all.new.self.ids c.loop-id-test.true c.loop-id.invariant.ids
          (c.in_ok-meet_all.ensures.ids
          ∙ ap (λ (t : List ClassId). c.loop-id.met.ids ++ each_once c.loop-id.met.ids t) list);
    }

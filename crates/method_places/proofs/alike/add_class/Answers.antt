-- Answers of `add_class`: what its calls ask for, and what it promises.
use Rattle.std.proofs.Common.{◌+◌, ◌∙◌, ℕ, ap, get_or, subst, sym}
use Rattle.class_pool.specs.Found.{IsMethod, named_at}
use Rattle.class_pool.specs.declared.id.ClassId.TheVariants.{Prog}
use Rattle.method_places.specs.bodies.Alike.{Knows, KnowsEarlier, place_of}
use Rattle.method_places.specs.bodies.Marks.{mark_of}
use Rattle.method_places.specs.declared.alike.Group.TheVariants.{Mixed}
use Rattle.method_places.proofs.Grouping.{earlier_known, marked_at, method_is, method_named, one_grouped, still_then}
use Rattle.method_places.proofs.alike.add_class.Goals as goal

pub add_method-requires-clause-method : goal.add_method-requires-clause-method
add_method-requires-clause-method c =
    subst (λ (k : ℕ). IsMethod c.args.set.now (record { class = Prog c.args.number; index = k + c.loop-at.at }))
    (sym c.len-fields.ensures)
    (method_is c.args.set.now c.args.number c.loop-at.at c.args.class.now c.index-method.result.now
    c.requires.there c.index-method.ensures)

pub add_method-requires-clause-named : goal.add_method-requires-clause-named
add_method-requires-clause-named c =
    ap (λ (k : ℕ). named_at c.args.set.now (record { class = Prog c.args.number; index = k + c.loop-at.at }))
    c.len-fields.ensures
    ∙ method_named c.args.set.now c.args.number c.loop-at.at c.args.class.now c.index-method.result.now
    c.requires.there c.index-method.ensures

pub add_method-requires-clause-earlier : goal.add_method-requires-clause-earlier
add_method-requires-clause-earlier c =
    let set = c.args.set.now in
    let named = method_named set c.args.number c.loop-at.at c.args.class.now c.index-method.result.now
    c.requires.there c.index-method.ensures in
    subst (λ (k : ℕ). KnowsEarlier set (get_or c.loop-at.groups.items c.place_of-place.result Mixed) c.args.number
    (k + c.loop-at.at)) (sym c.len-fields.ensures)
    (earlier_known set c.args.keys.now c.loop-at.groups.items c.args.number c.loop-at.at c.place_of-place.result
    c.args.class.now c.requires.there c.loop-at.invariant.added
    (c.place_of-place.ensures ∙ ap (place_of c.args.keys.now) (marked_at c.args.class.now c.args.marks.now
    c.loop-at.at c.index-method.result.now c.requires.marks c.index-method.ensures ∙ ap mark_of (sym named))))

pub loop-at-preserved : goal.loop-at-preserved
loop-at-preserved c =
    let set = c.args.set.now in
    let new = c.add_method.new.groups.items in
    let named = method_named set c.args.number c.loop-at.at c.args.class.now c.index-method.result.now
    c.requires.there c.index-method.ensures in
    record {
      before = still_then set c.args.groups.now.items c.loop-at.groups.items new c.loop-at.invariant.before
          c.add_method.ensures.before;
      added = one_grouped set c.args.keys.now c.loop-at.groups.items new c.args.number _ c.loop-at.at
          c.place_of-place.result c.loop-at.invariant.added c.add_method.ensures.before
          (c.place_of-place.ensures ∙ ap (place_of c.args.keys.now) (marked_at c.args.class.now c.args.marks.now
          c.loop-at.at c.index-method.result.now c.requires.marks c.index-method.ensures ∙ ap mark_of (sym named)))
          (subst (λ (k : ℕ). Knows set (get_or new c.place_of-place.result Mixed)
          (record { class = Prog c.args.number; index = k + c.loop-at.at })) c.len-fields.ensures
          c.add_method.ensures.added);
    }

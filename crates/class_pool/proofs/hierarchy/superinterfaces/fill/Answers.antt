-- Answers of `fill`: what its calls ask for, and what it promises.
use Rattle.std.proofs.Common.{rules, ◌∙◌, [], ◌∷◌, List, Bool, length, ap}
use Rattle.std.specs.List.{flat_map}
use Rattle.class_pool.specs.declared.id.ClassId.{ClassId}
use Rattle.class_pool.specs.Hierarchy.{interfaces}
use Rattle.class_pool.specs.bodies.Lists.{list_at}
use Rattle.class_pool.specs.Walk.{each_once}
use Rattle.class_pool.proofs.FillingLaws.{all_filled, below_as, filling_put, lists_once, not_filled}
use Rattle.class_pool.proofs.FillingLaws.{steps_of}
use Rattle.class_pool.proofs.hierarchy.superinterfaces.fill.Goals as goal

pub are_filled-requires-clause-below : goal.are_filled-requires-clause-below
are_filled-requires-clause-below c =
    below_as c.args.classes.now c.args.id.now (length c.as_slice.result.now) c.as_slice-2.result.now
    (c.as_slice-2.ensures ∙ c.in_ok-interfaces.ensures)
    (ap (λ (t : List Bool). length t) c.as_slice.ensures.value ∙ c.requires.filling.filled)

pub returns-then-not-are_filled-clause-more : goal.returns-then-not-are_filled-clause-more
returns-then-not-are_filled-clause-more c all =
    absurd (not_filled c.as_slice.result.now c.args.filling.now.filled.items c.as_slice-2.result.now
    (interfaces c.args.classes.now c.args.id.now) c.are_filled.result c.as_slice.ensures.value
    (c.as_slice-2.ensures ∙ c.in_ok-interfaces.ensures) c.are_filled.ensures c.if-not-are_filled.true all)

pub put_list-requires-clause-below : goal.put_list-requires-clause-below
put_list-requires-clause-below c =
    below_as c.args.classes.now c.args.id.now c.args.filling.now.met.count c.as_slice-3.result.now
    (c.as_slice-3.ensures ∙ c.in_ok-interfaces.ensures) c.requires.filling.count

pub put_list-requires-clause-once : goal.put_list-requires-clause-once
put_list-requires-clause-once c =
    lists_once c.args.classes.now c.requires.ranks c.args.filling.now c.args.id.now c.as_slice-3.result.now
    c.requires.filling c.requires.there
    (all_filled c.as_slice.result.now c.args.filling.now.filled.items c.as_slice-2.result.now
    (interfaces c.args.classes.now c.args.id.now) c.are_filled.result c.as_slice.ensures.value
    (c.as_slice-2.ensures ∙ c.in_ok-interfaces.ensures) c.are_filled.ensures c.if-not-are_filled.false)
    (c.as_slice-3.ensures ∙ c.in_ok-interfaces.ensures)

pub returns-clause-filling : goal.returns-clause-filling
returns-clause-filling c =
    filling_put c.args.classes.now c.args.filling.now _ c.args.id.now c.number-place.result
    (each_once [] (flat_map (λ i. i ∷ list_at c.args.filling.now.lists i) c.as_slice-3.result.now))
    (steps_of c.args.classes.now c.requires.ranks c.requires.filling.few)
    c.requires.filling c.requires.there c.number-place.ensures
    (all_filled c.as_slice.result.now c.args.filling.now.filled.items c.as_slice-2.result.now
    (interfaces c.args.classes.now c.args.id.now) c.are_filled.result c.as_slice.ensures.value
    (c.as_slice-2.ensures ∙ c.in_ok-interfaces.ensures) c.are_filled.ensures c.if-not-are_filled.false)
    (ap (λ (t : List ClassId). each_once [] (flat_map (λ i. i ∷ list_at c.args.filling.now.lists i) t))
    (c.as_slice-3.ensures ∙ c.in_ok-interfaces.ensures))
    c.in_ok-put_list.ensures.list (search rules) c.put_list.ensures.count c.in_ok-put_list.ensures.none

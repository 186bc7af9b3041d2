-- Answers of `seeds_of`: what its calls ask for, and what it promises.
use Rattle.std.proofs.Common.{◌∙◌, List, Bool, ap, arith, length, subst}
use Rattle.std.specs.List.{flat_map}
use Rattle.keep_rules.specs.declared.rules.Keep.{Keep}
use Rattle.keep_match.specs.bodies.Marks.{HasRows}
use Rattle.keep_match.specs.Seeds.{places_of_true}
use Rattle.keep_match.proofs.PlaceLaw.{ok_further, rows_fit, seeds_are, seeds_below}
use Rattle.keep_match.proofs.seeds.seeds_of.Goals as goal

pub places_of-requires : goal.places_of-requires
places_of-requires c =
    let fit = rows_fit _ _ _ c.in_ok-rows.ensures in
    let same = ap (λ (rows : List (List Bool)). length (flat_map (λ (r : List Bool). r) rows))
    c.as_slice-2.ensures.value in
    omega (arith, fit, same, c.few_items.ensures)

pub returns-clause-is : goal.returns-clause-is
returns-clause-is c =
    let rows = subst (λ (ks : List Keep). HasRows c.args.set.now ks c.in_ok-rows.rows.items) c.as_slice.ensures
    c.in_ok-rows.ensures in
    ok_further _ _ _ c.places_of.ensures (λ items is. seeds_are _ _ _ items rows
    (is ∙ ap (λ (xs : List (List Bool)). places_of_true 0 (flat_map (λ (r : List Bool). r) xs))
    c.as_slice-2.ensures.value))

pub returns-clause-below : goal.returns-clause-below
returns-clause-below c =
    let rows = subst (λ (ks : List Keep). HasRows c.args.set.now ks c.in_ok-rows.rows.items) c.as_slice.ensures
    c.in_ok-rows.ensures in
    ok_further _ _ _ c.places_of.ensures (λ items is. seeds_below _ _ _ items rows
    (is ∙ ap (λ (xs : List (List Bool)). places_of_true 0 (flat_map (λ (r : List Bool). r) xs))
    c.as_slice-2.ensures.value))

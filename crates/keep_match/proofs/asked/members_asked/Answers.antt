-- Answers of `members_asked`: what its calls ask for, and what it promises.
use Rattle.std.proofs.Common.{◌∙◌, List, Bool, ap, arith, length, subst}
use Rattle.std.specs.List.{flat_map}
use Rattle.keep_rules.specs.declared.rules.Keep.{Keep}
use Rattle.keep_match.specs.bodies.Marks.{HasRows}
use Rattle.keep_match.specs.bodies.AsKeeps.{as_keeps}
use Rattle.keep_match.proofs.AskedLaw.{asked_further}
use Rattle.keep_match.proofs.PlaceLaw.{rows_fit}
use Rattle.keep_match.proofs.asked.members_asked.Goals as goal

pub members_of-requires : goal.members_of-requires
members_of-requires c =
    let fit = rows_fit _ _ _ c.in_ok-rows.ensures in
    let same = ap (λ (rows : List (List Bool)). length (flat_map (λ
    (r : List Bool). r) rows)) c.as_slice-3.ensures.value in
    omega (arith, fit, same, c.few_items.ensures)

pub returns : goal.returns
returns c =
    let rows = subst (λ (ks : List Keep). HasRows c.args.set.now ks c.in_ok-rows.rows.items)
    (c.as_slice-2.ensures ∙ c.in_ok-keeps.ensures ∙ ap as_keeps c.as_slice.ensures) c.in_ok-rows.ensures in
    asked_further c.members_of.result c.args.set.now c.args.rules.now.keeps c.in_ok-rows.rows.items
    c.as_slice-3.result.now
    c.as_slice-3.ensures.value rows c.members_of.ensures

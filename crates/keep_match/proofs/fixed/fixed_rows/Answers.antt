-- Answers of `fixed_rows`: what its calls ask for, and what it promises.
use Rattle.std.proofs.Common.{◌∙◌, List, Bool, ap, subst}
use Rattle.keep_rules.specs.declared.rules.Keep.{Keep}
use Rattle.keep_match.specs.bodies.Marks.{HasRows}
use Rattle.keep_match.specs.bodies.AsFixing.{as_fixings}
use Rattle.keep_match.proofs.FixedLaw.{rows_fixed}
use Rattle.keep_match.proofs.fixed.fixed_rows.Goals as goal

pub returns : goal.returns
returns c =
    let rows = subst (λ (ks : List Keep). HasRows c.args.set.now ks c.in_ok-rows.rows.items)
    (c.as_slice-2.ensures ∙ c.in_ok-keeps.ensures ∙ ap (as_fixings c.args.what) c.as_slice.ensures)
    c.in_ok-rows.ensures in
    c.from_vec.ensures ∙ rows_fixed c.args.what c.args.set.now c.args.rules.now.keeps c.in_ok-rows.rows.items rows

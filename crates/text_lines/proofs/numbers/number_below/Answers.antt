-- Answers of `number_below`: what its calls ask for, and what it promises.
use Rattle.std.proofs.Common.{◌≡◌, ◌<◌, ℕ, Bool, true, false, Option, Some, None, ltb, sym, ap, ◌∙◌, arith}
use Rattle.std.proofs.lemmas.Bool.{ltb-false}
use Rattle.text_lines.specs.Cut.{where_true}
use Rattle.text_lines.proofs.Numerals.{narrow_some}
use Rattle.text_lines.proofs.numbers.number_below.Goals as goal

pub returns-then-number-limit-clause-is : goal.returns-then-number-limit-clause-is
returns-then-number-limit-clause-is c =
    let n = c.in_ok-number.number in
    let below : ltb c.in_ok-number.number c.args.limit ≡ true = grind (arith, c.if-number-limit.true) in
    sym (narrow_some c.args.limit c.args.text.now n (omega (arith, c.ranges.limit.fits))
    (sym c.number.ensures ∙ c.in_ok-number.was)
    ∙ ap (λ (b : Bool). where_true b n) below)

pub returns-else-number-limit-clause-is : goal.returns-else-number-limit-clause-is
returns-else-number-limit-clause-is c =
    let n = c.in_ok-number.number in
    let above : ltb c.in_ok-number.number c.args.limit ≡ false = grind (arith, c.if-number-limit.false) in
    sym (narrow_some c.args.limit c.args.text.now n (omega (arith, c.ranges.limit.fits))
    (sym c.number.ensures ∙ c.in_ok-number.was)
    ∙ ap (λ (b : Bool). where_true b n) above)

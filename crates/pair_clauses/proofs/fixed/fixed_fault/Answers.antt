-- Answers of `fixed_fault`: what its calls ask for, and what it promises.
use Rattle.std.proofs.Common.{◌≡◌, ◌∙◌, subst}
use Rattle.std.specs.Prelude.{IfOk}
use Rattle.pair_clauses.specs.FixedNames.{Fixed, fixed_fault}
use Rattle.pair_clauses.proofs.Fixing.{same_fixed}
use Rattle.pair_clauses.proofs.fixed.fixed_fault.Goals as goal

pub returns : goal.returns
returns c = λ rules are. subst
    (λ (f : Fixed). IfOk c.fixed_among.result (λ found. found ≡ fixed_fault f c.args.input.now c.args.given.now))
    (c.kinds_of.ensures ∙ same_fixed rules c.args.input.now c.args.fixed.now are) c.fixed_among.ensures

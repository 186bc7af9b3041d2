-- Answers of `limited_pairs`: what its calls ask for, and what it promises.
use Rattle.std.proofs.Common.{rules, ◌≡◌, List, Result, Err, length, subst, sym}
use Rattle.jv_base.specs.Outcome.{IsDue}
use Rattle.jv_base.specs.declared.outcome.Or.{Or}
use Rattle.mark_core.specs.declared.system.Pair.{Pair}
use Rattle.require_sys.specs.Limits.{within_limit}
use Rattle.std.proofs.Common.{Ok}
use Rattle.item_numbers.specs.bodies.Selecting.{all_pairs}
use Rattle.require_sys.specs.declared.limits.Counted.TheVariants as counted
use Rattle.require_sys.specs.declared.limits.TooMany.{TooMany}
use Rattle.rule_system.proofs.Limiting.{past}
use Rattle.rule_system.proofs.Validity.{pairs_counted}
use Rattle.rule_system.proofs.system.limited_pairs.Goals as goal

pub returns-in_err-within : goal.returns-in_err-within
returns-in_err-within c =
    let set = c.args.numbered.now.set.now in
    let same : c.from_residual-in_err-within.result ≡ Err c.in_err-within.field-0.0 = search rules in
    subst (λ (r : Result (List Pair) (Or TooMany)). IsDue r
    (within_limit counted.Pairs (length (all_pairs set)) (Ok (all_pairs set)))) (sym same)
    (past counted.Pairs (length (all_pairs set)) c.in_ok-pairs.pairs.count
    (c.in_ok-pairs.ensures.count (pairs_counted set c.requires.few)) tt (all_pairs set) c.in_err-within.field-0.0
    c.in_err-within.ensures)

-- Answers of `limited_needs`: what its calls ask for, and what it promises.
use Rattle.std.proofs.Common.{rules, ◌≡◌, List, ℕ, Ok, Result, Err, subst, sym}
use Rattle.jv_base.specs.Outcome.{IsDue}
use Rattle.jv_base.specs.declared.outcome.Or.{Or}
use Rattle.require_sys.specs.Limits.{need_count, within_limit}
use Rattle.require_sys.specs.Requires.{requires}
use Rattle.require_sys.specs.declared.limits.Counted.TheVariants as counted
use Rattle.require_sys.specs.declared.limits.TooMany.{TooMany}
use Rattle.rule_system.proofs.Limiting.{past, within}
use Rattle.rule_system.proofs.Validity.{needs_counted}
use Rattle.rule_system.proofs.system.limited_needs.Goals as goal

pub needs_of-requires : goal.needs_of-requires
needs_of-requires c = c.requires.members

pub returns-in_err-within : goal.returns-in_err-within
returns-in_err-within c =
    let sys = requires c.args.numbered.now.set.now c.args.kept.now in
    let same : c.from_residual-in_err-within.result ≡ Err c.in_err-within.field-0.0 = search rules in
    subst (λ (r : Result (List (List ℕ)) (Or TooMany)). IsDue r
    (within_limit counted.Needs (need_count sys) (Ok sys.needs))) (sym same)
    (past counted.Needs (need_count sys) c.in_ok-needs.needs.count
    (c.in_ok-needs.ensures.count (needs_counted c.args.numbered.now.set.now c.args.kept.now c.requires.members
    c.requires.few)) tt sys.needs c.in_err-within.field-0.0 c.in_err-within.ensures)

pub returns : goal.returns
returns c =
    let sys = requires c.args.numbered.now.set.now c.args.kept.now in
    within counted.Needs (need_count sys) c.in_ok-needs.needs.count
    (c.in_ok-needs.ensures.count (needs_counted c.args.numbered.now.set.now c.args.kept.now c.requires.members
    c.requires.few)) tt c.in_ok-within.field-0 sys.needs c.in_ok-needs.needs.lists c.in_ok-needs.ensures.made
    c.in_ok-within.ensures

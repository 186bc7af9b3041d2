-- Answers of `put_spot`: what its calls ask for, and what it promises.
use Rattle.std.proofs.Common.{◌≡◌, ◌+◌, ◌++◌, List, subst}
use Rattle.class_model.specs.declared.class.Class.{Class}
use Rattle.pass_driver.specs.Optimised.{code_for, entry_for, fallback_for}
use Rattle.pass_driver.specs.Outcomes.{IsOutcome}
use Rattle.pass_driver.specs.bodies.Spotted.{IsSpotDone}
use Rattle.pass_driver.specs.declared.optimising.Optimised.{Optimised}
use Rattle.pass_driver.proofs.Spotting.{all_three, code_right}
use Rattle.pass_driver.proofs.optimising.put_spot.Goals as goal

pub outcome_of-requires-clause-right : goal.outcome_of-requires-clause-right
outcome_of-requires-clause-right c =
    code_right c.typed_codes_are_sound.ensures c.args.set.now c.requires.formed c.requires.typed c.args.spot.class
    c.args.spot.method c.class-class.result.now c.index-method.result.now c.in-Some.code c.class-class.ensures.is
    c.index-method.ensures c.in-Some.is

pub returns-in_ok-outcome-in-Some : goal.returns-in_ok-outcome-in-Some
returns-in_ok-outcome-in-Some c =
    let s = c.args.spot in
    let old = c.args.optimised in
    let class = c.class-class.result.now in
    let method = c.index-method.result.now in
    let outcome = c.in_ok-outcome-in-Some.outcome in
    all_three c.put_outcome.result (λ (more : Optimised). more.codes ≡ old.codes ++ code_for s outcome)
    (λ (more : Optimised). more.witness.methods ≡ old.witness.methods ++ entry_for class method outcome)
    (λ (more : Optimised). more.fallback ≡ old.fallback + fallback_for outcome)
    (IsSpotDone c.args.set.now s old)
    (λ more codes entries fallback. record {
      spot = record {
        of = class;
        method = method;
        code = c.in-Some.code;
        at = record {
          in_set = c.class-class.ensures.is;
          in_class = c.index-method.ensures;
          has = c.in-Some.is;
        };
      };
      outcome = outcome;
      is = subst (λ (cs : List Class). IsOutcome cs s.class s.method c.in-Some.code outcome) c.requires.same
          c.in_ok-outcome-in-Some.ensures;
      codes = codes;
      entries = entries;
      fallback = fallback;
    })
    c.put_outcome.ensures.codes c.put_outcome.ensures.entries c.put_outcome.ensures.fallback

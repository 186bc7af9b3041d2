-- Answers of `maximally_specific`: what its calls ask for, and what it promises.
use Rattle.std.proofs.Common.{◌∙◌, ap, sym, cond, Some, None}
use Rattle.class_pool.specs.Resolution.{superinterface_methods}
use Rattle.link_check.proofs.Choosing.{none_specific, some_specific}
use Rattle.link_check.proofs.references.superinterface_methods.maximally_specific.Goals as goal

pub returns-in_err-first-clause-is : goal.returns-in_err-first-clause-is
returns-in_err-first-clause-is c =
    c.from_residual.ensures
    ∙ none_specific c.args.set.now
    (superinterface_methods c.args.set.now c.args.class.now
    (c.args.name.now, c.args.ty.now)) c.first_candidate.result c.first_candidate.ensures.is
    c.in_err-first.was

pub returns-then-is_only_candidate-clause-is : goal.returns-then-is_only_candidate-clause-is
returns-then-is_only_candidate-clause-is c =
    sym (ap (λ b. cond b (Some c.in_ok-first.first) None) c.if-is_only_candidate.true)
    ∙ some_specific c.args.set.now
    (superinterface_methods c.args.set.now c.args.class.now
    (c.args.name.now, c.args.ty.now)) c.first_candidate.result c.in_ok-first.first
    c.is_only_candidate.result c.first_candidate.ensures.is c.in_ok-first.was c.is_only_candidate.ensures

pub returns-else-is_only_candidate-clause-is : goal.returns-else-is_only_candidate-clause-is
returns-else-is_only_candidate-clause-is c =
    sym (ap (λ b. cond b (Some c.in_ok-first.first) None) c.if-is_only_candidate.false)
    ∙ some_specific c.args.set.now
    (superinterface_methods c.args.set.now c.args.class.now
    (c.args.name.now, c.args.ty.now)) c.first_candidate.result c.in_ok-first.first
    c.is_only_candidate.result c.first_candidate.ensures.is c.in_ok-first.was c.is_only_candidate.ensures

-- Answers of `why`: what its calls ask for, and what it promises.
use Rattle.std.proofs.Common.{List, ℕ, sym, subst}
use Rattle.why_kept.specs.Levels.{AreLeast, IsCertified}
use Rattle.why_kept.specs.Steps.{AreSteps}
use Rattle.why_kept.proofs.Bounding.{least_of}
use Rattle.why_kept.proofs.Marking.{levels_marked}
use Rattle.why_kept.proofs.reasons.why.Goals as goal

pub steps_to-requires-clause-certified : goal.steps_to-requires-clause-certified
steps_to-requires-clause-certified c =
    subst (IsCertified c.args.sys.now) (sym c.as_slice-2.ensures) c.in_ok-levels.ensures.certified

pub steps_to-requires-clause-least : goal.steps_to-requires-clause-least
steps_to-requires-clause-least c =
    subst (AreLeast c.args.sys.now) (sym c.as_slice-2.ensures)
    (least_of c.args.sys.now c.in_ok-levels.levels c.requires.valid c.in_ok-levels.ensures.certified
    c.in_ok-levels.ensures.most c.in_ok-levels.ensures.reached)

pub returns-clause-certified : goal.returns-clause-certified
returns-clause-certified c = c.in_ok-levels.ensures.certified

pub returns-clause-least : goal.returns-clause-least
returns-clause-least c =
    least_of c.args.sys.now c.in_ok-levels.levels c.requires.valid c.in_ok-levels.ensures.certified
    c.in_ok-levels.ensures.most c.in_ok-levels.ensures.reached

pub returns-clause-marked : goal.returns-clause-marked
returns-clause-marked c =
    levels_marked c.args.sys.now c.in_ok-levels.levels c.args.id c.requires.valid
    (least_of c.args.sys.now c.in_ok-levels.levels c.requires.valid c.in_ok-levels.ensures.certified
    c.in_ok-levels.ensures.most c.in_ok-levels.ensures.reached)

pub returns-clause-steps : goal.returns-clause-steps
returns-clause-steps c =
    subst (λ (l : List ℕ). AreSteps c.args.sys.now l c.args.id c.in_ok-steps.steps) c.as_slice-2.ensures c.in_ok-steps.ensures

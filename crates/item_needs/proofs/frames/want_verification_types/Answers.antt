-- Answers of `want_verification_types`: what its calls ask for, and what it promises.
use Rattle.require_sys.specs.Requires.{verification_wants}
use Rattle.item_numbers.proofs.Gathering.{more_wanted}
use Rattle.item_needs.proofs.frames.want_verification_types.Goals as goal

pub loop-ty-preserved : goal.loop-ty-preserved
loop-ty-preserved c =
    more_wanted (λ cs. verification_wants cs) c.args.types.now c.loop-ty.ty-index c.ty-item.result _ c.loop-ty.wants _
    c.loop-ty-test.true c.ty-item.is c.loop-ty.invariant c.in_ok-want_verification_type.ensures

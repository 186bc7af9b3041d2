-- Answers of `ended_of`: what its calls ask for, and what it promises.
use Rattle.std.proofs.Common.{◌≡◌, ◌∙◌}
use Rattle.run_machine.specs.States.{state_of}
use Rattle.run_entry.proofs.ending.ended_of.Goals as goal

pub returns : goal.returns
returns c p =
    let printed : c.in_ok-printed.printed ≡ (state_of p c.args.state.now).world.printed =
    c.in_ok-printed.ensures ∙ c.printed.ensures p in
    λ i. record { printed = printed i; how = c.in_ok-how.ensures p i }

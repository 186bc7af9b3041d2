-- Answers of `set_slot`: what its calls ask for, and what it promises.
use Rattle.std.proofs.Common.{rules, ◌∙◌, ap, ℕ, Option, Some}
use Rattle.jvm_model.specs.Value.{Value, set_at}
use Rattle.run_values.specs.Slots.{slots_of}
use Rattle.run_values.proofs.Cells.{slots_push, slots_set}
use Rattle.run_values.proofs.locals.set_slot.Goals as goal

pub returns-then-slot-len : goal.returns-then-slot-len
returns-then-slot-len c = slots_set _ _ _ (search rules)

pub returns : goal.returns
returns c = rw c.in_ok-push.ensures.items (slots_push _ _
    ∙ ap (λ (n : ℕ). set_at (slots_of c.grow.new.slots.items) n (Some c.args.value)) c.in_ok-grow.ensures.len
    ∙ ap (λ (f : ℕ → Option Value). set_at f c.args.slot (Some c.args.value)) c.in_ok-grow.ensures.same)

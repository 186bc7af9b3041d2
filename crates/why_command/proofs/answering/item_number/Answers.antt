-- Answers of `item_number`: what its calls ask for, and what it promises.
use Rattle.std.proofs.Common.{List, ℕ, Err, ap, ◌∙◌, refl, Result}
use Rattle.command_frame.specs.declared.refusal.Refusal.{Refusal}
use Rattle.why_command.specs.Due.{no_item, or_no_item}
use Rattle.why_command.proofs.answering.item_number.Goals as goal

-- the refusal of a text
abbrev refused : List ℕ → Result ℕ Refusal
refused item = Err (no_item item)

pub returns-in-Some-clause-found : goal.returns-in-Some-clause-found
returns-in-Some-clause-found c = ap (or_no_item c.args.item.now) c.in-Some.ensures

pub returns-in_ok-clone-in-None-clause-found : goal.returns-in_ok-clone-in-None-clause-found
returns-in_ok-clone-in-None-clause-found c = (
  refl,
  ap refused c.in_ok-clone-in-None.ensures.cases ∙ ap (or_no_item c.args.item.now) c.in-None.ensures,
)

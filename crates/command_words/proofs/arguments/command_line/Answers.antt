-- Answers of `command_line`: what its calls ask for, and what it promises.
use Rattle.std.proofs.Common.{true, ap, ap₂, ◌∙◌}
use Rattle.clap.specs.Simple.{app_of_fields, on_top, with_rule}
use Rattle.command_words.proofs.arguments.command_line.Goals as goal

pub returns : goal.returns
returns c =
    c.in_ok-arg-3.ensures.shape c.workers_argument.ensures.local
    ∙ ap₂ with_rule (c.in_ok-arg-2.ensures.shape c.operands_argument.ensures.local
    ∙ ap₂ with_rule (c.in_ok-arg.ensures.shape c.command_argument.ensures.local
    ∙ ap₂ with_rule (ap app_of_fields c.no_binary_name-line.ensures
    ∙ ap (on_top (λ s. record s { no_binary_name = true })) c.new.ensures.app)
    c.command_argument.ensures.rule) c.operands_argument.ensures.rule) c.workers_argument.ensures.rule

-- Answers of `Stack::words`: what its calls ask for, and what it promises.
use Rattle.std.proofs.Common.{sym, ap, ◌∙◌}
use Rattle.class_model.specs.Frames.{words_of_type, words_of_types}
use Rattle.type_verifier.proofs.Lists.{sum_reversed}
use Rattle.type_verifier.proofs.stack.Stack.words.Goals as goal

pub returns : goal.returns
returns c = c.self.invariant ∙ sym (sum_reversed words_of_type c.self.inside.items.items)
    ∙ ap words_of_types c.self.view_is

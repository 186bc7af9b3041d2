-- Answers of `workers_in`: what its calls ask for, and what it promises.
use Rattle.std.proofs.Common.{codes, ◌∙◌}
use Rattle.std.specs.Str.Parse.{ExplainsUnsignedError, HasUnsignedDigitsIfOk, ParsesUnsigned}
use Rattle.clap.specs.Matches.{found_of}
use Rattle.command_words.proofs.ClapLaws.{number_read}
use Rattle.command_words.proofs.words.workers_in.Goals as goal

pub returns : goal.returns
returns c =
    c.from.ensures ∙ (c.unwrap_or.ensures ∙ number_read
    (λ text r. ParsesUnsigned 8 10 text r × ExplainsUnsignedError 10 text r × HasUnsignedDigitsIfOk text r)
    (found_of c.args.matches.now) (codes "workers") c.get_one.result (λ text r h. h.0) c.get_one.ensures.none
    c.get_one.ensures.value)

-- Answers of `read_command`: what its calls ask for, and what it promises.
use Rattle.std.proofs.Common.{map, ap, ◌∙◌}
use Rattle.command_words.proofs.ClapLaws.{answers, refused_said, taken_said}
use Rattle.command_words.proofs.words.read_command.Goals as goal

pub returns-in-Some : goal.returns-in-Some
returns-in-Some c =
    answers c.said_in.result _ _ c.said_in.ensures
    (taken_said c.args.words.now (map (λ t. t.now) c.as_slice-2.result.now) c.in_ok-matches.field-0 c.in-Some.matches
    c.in-Some.is
    (ap (map (λ t. t.now)) c.as_slice-2.ensures.value ∙ c.in_ok-texts.ensures ∙ c.as_slice.ensures)
    c.in_ok-matches.ensures)

pub returns : goal.returns
returns c =
    refused_said c.args.words.now (map (λ t. t.now) c.as_slice-2.result.now) c.in_ok-matches.field-0 c.in-None.is
    (ap (map (λ t. t.now)) c.as_slice-2.ensures.value ∙ c.in_ok-texts.ensures ∙ c.as_slice.ensures)
    c.in_ok-matches.ensures

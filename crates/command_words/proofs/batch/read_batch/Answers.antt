-- Answers of `read_batch`: what its calls ask for, and what it promises.
use Rattle.std.proofs.Common.{map, ap, ◌∙◌}
use Rattle.command_words.proofs.ClapLaws.{answers, refused_batch, taken_batch}
use Rattle.command_words.proofs.batch.read_batch.Goals as goal

pub returns-in-Some : goal.returns-in-Some
returns-in-Some c =
    answers c.batch_in.result _ _ c.batch_in.ensures
    (taken_batch c.args.words.now (map (λ t. t.now) c.as_slice-2.result.now) c.in_ok-matches.field-0 c.in-Some.matches
    c.in-Some.is
    (ap (map (λ t. t.now)) c.as_slice-2.ensures.value ∙ c.in_ok-texts.ensures ∙ c.as_slice.ensures)
    c.in_ok-matches.ensures)

pub returns : goal.returns
returns c =
    refused_batch c.args.words.now (map (λ t. t.now) c.as_slice-2.result.now) c.in_ok-matches.field-0 c.in-None.is
    (ap (map (λ t. t.now)) c.as_slice-2.ensures.value ∙ c.in_ok-texts.ensures ∙ c.as_slice.ensures)
    c.in_ok-matches.ensures

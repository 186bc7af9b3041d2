-- Answers of `first_character`: what its calls ask for, and what it promises.
use Rattle.std.proofs.Common.{◌++◌, List, ℕ, sym, ap, ◌∙◌}
use lib.Utf8.{encode}
use Rattle.std.proofs.lemmas.Str.{chars_past_char}
use Rattle.keep_match.proofs.piece.first_character.Goals as goal

pub returns-clause-found : goal.returns-clause-found
returns-clause-found c =
    chars_past_char _ _ c.in_ok-first.first c.utf8.text (sym c.chars-characters.ensures.rest
    ∙ c.in_ok-first.ensures.steps.0
    ∙ ap (λ (t : List ℕ). encode c.in_ok-first.first ++ t) (sym c.as_str.ensures))

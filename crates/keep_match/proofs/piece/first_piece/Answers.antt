-- Answers of `first_piece`: what its calls ask for, and what it promises.
use Rattle.std.proofs.Common.{◌∷◌, ◌∙◌, ap, rules, sym}
use Rattle.std.specs.Str.{chars}
use Rattle.keep_match.specs.declared.piece.Piece.{Piece}
use Rattle.keep_match.specs.Wildcards.{pieces}
use Rattle.keep_match.proofs.Reading.{pieces_none, pieces_one, pieces_star, pieces_stars}
use Rattle.keep_match.proofs.piece.first_piece.Goals as goal

pub returns-in_err-first-clause-found : goal.returns-in_err-first-clause-found
returns-in_err-first-clause-found c = let e = pieces_none _ c.in_err-first.ensures.found in search rules

pub returns-then-first-ne42-clause-found : goal.returns-then-first-ne42-clause-found
returns-then-first-ne42-clause-found c =
    pieces_one _ _ c.in_ok-first.first c.in_ok-first.ensures.found (λ star. absurd (c.if-first-ne42.true star))
    ∙ ap (λ (p : Piece). p ∷ pieces (chars c.in_ok-first.rest.now)) (sym c.piece_of.ensures)

pub returns-in-Some-clause-found : goal.returns-in-Some-clause-found
returns-in-Some-clause-found c =
    pieces_stars _ _ _ c.in_ok-first.first c.in_ok-first.ensures.found c.in-Some.ensures.found c.if-first-ne42.false

pub returns-in-None-clause-found : goal.returns-in-None-clause-found
returns-in-None-clause-found c =
    pieces_star _ _ c.in_ok-first.first c.in_ok-first.ensures.found c.if-first-ne42.false c.in-None.ensures.found

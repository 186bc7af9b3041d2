-- Answers of `behind_singles`: what its calls ask for, and what it promises.
use Rattle.std.proofs.Common.{arith, rules, sym}
use Rattle.keep_match.proofs.Scanning.{single_long, single_refused, single_short, single_step}
use Rattle.keep_match.proofs.scan.behind_singles.Goals as goal

pub returns-in_err-character-clause-found : goal.returns-in_err-character-clause-found
returns-in_err-character-clause-found c =
    let f = single_short _ _ _ _ _ c.in-Some.piece c.loop-piece.invariant.0 c.in-Some.ensures.found
    c.in_err-character.ensures.found (sym c.if-is_star.ensures) in
    search rules

pub returns-then-not-allows-clause-found : goal.returns-then-not-allows-clause-found
returns-then-not-allows-clause-found c =
    single_refused _ _ _ _ _ _ c.in-Some.piece c.in_ok-character.character c.loop-piece.invariant.0
    c.in-Some.ensures.found
    c.in_ok-character.ensures.found (sym c.if-is_star.ensures) (sym c.if-not-allows.ensures)

pub loop-piece-preserved : goal.loop-piece-preserved
loop-piece-preserved c = (
  single_step _ _ _ _ _ _ c.in-Some.piece c.in_ok-character.character c.loop-piece.invariant.0 c.in-Some.ensures.found
      c.in_ok-character.ensures.found (sym c.if-not-allows.ensures),
  omega (arith, c.in-Some.ensures.shorter),
)

pub returns-in-Some-first_shown-clause-found : goal.returns-in-Some-first_shown-clause-found
returns-in-Some-first_shown-clause-found c =
    single_long _ _ _ _ _ c.in-Some-first_shown.field-0.0 c.loop-piece.invariant.0 c.in_default.ensures.found
    c.in-Some-first_shown.ensures.found

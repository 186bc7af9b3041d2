-- Answers of `next_shown`: what its calls ask for, and what it promises.
use Rattle.std.proofs.Common.{ℕ, List, ◌++◌, sym, ap, ◌∙◌}
use Rattle.std.proofs.lemmas.List.{take_rest}
use Rattle.std.specs.Char.{encode_utf8}
use Rattle.run_command.proofs.Units.{alone_shown, pair_shown}
use Rattle.run_command.specs.Shown.{in_utf8}
use Rattle.run_command.proofs.shown.next_shown.Goals as goal

pub returns-in-Some-clause-shown : goal.returns-in-Some-clause-shown
returns-in-Some-clause-shown c =
    pair_shown c.args.unit c.args.behind.now c.in-Some.character (sym c.pair_in.ensures.is ∙ c.in-Some.is)
    ∙ ap (λ (l : List ℕ). encode_utf8 c.in-Some.character ++ in_utf8 l) (sym (take_rest c.args.behind.now 1))

pub returns-in-None-clause-shown : goal.returns-in-None-clause-shown
returns-in-None-clause-shown c =
    alone_shown c.args.unit c.args.behind.now (sym c.pair_in.ensures.is ∙ c.in-None.is)
    ∙ ap (λ (n : ℕ). encode_utf8 n ++ in_utf8 c.args.behind.now) (sym c.alone.ensures)

-- Answers of `next_line`: what its calls ask for, and what it promises.
use Rattle.std.proofs.Common.{◌≡◌, ℕ, ◌+◌, ◌-◌, ◌<◌, List, [], ◌∷◌, length, take, drop, refl, sym, ap, ◌∙◌, arith}
use Rattle.std.specs.Str.Lines.{lines, strip_carriage_return}
use Rattle.std.proofs.lemmas.List.{drop_all, take_rest}
use Rattle.text_lines.proofs.FirstLine.{first_line, last_line}
use Rattle.text_lines.proofs.lines.next_line.Goals as goal

pub returns-in-Some-clause-first : goal.returns-in-Some-clause-first
returns-in-Some-clause-first c =
    let text = c.args.text.now in
    first_line text c.in-Some.end (sym c.end_of_line.ensures ∙ c.in-Some.is)
    ∙ ap (λ (l : List ℕ). l ∷ lines (drop (c.in-Some.end + 1) text)) (sym c.without_return.ensures)
    ∙ ap (λ (r : List ℕ). c.without_return.result.now ∷ lines r) (sym (take_rest text (c.in-Some.end + 1)))

pub returns-in-None-clause-first : goal.returns-in-None-clause-first
returns-in-None-clause-first c =
    let text = c.args.text.now in
    last_line text (sym c.end_of_line.ensures ∙ c.in-None.is) (grind (arith, c.is_empty.ensures, c.if-is_empty.false))
    ∙ ap (λ (r : List ℕ). text ∷ lines r)
    (sym (take_rest text (length text) ∙ drop_all (length text) text (omega arith)))

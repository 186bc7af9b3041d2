-- Answers of `keep_new`: what its calls ask for, and what it promises.
use Rattle.std.proofs.Common.{ℕ, List, sym, subst}
use Rattle.jv_base.specs.Utf16.{units_of}
use Rattle.constant_table.specs.bodies.Texts.{HasNumber, AreNumbers}
use Rattle.constant_table.proofs.Numbering.{numbers_grown, number_put, text_there}
use Rattle.constant_table.proofs.texts.keep_new.Goals as goal

pub returns-in_err-number-clause-numbers : goal.returns-in_err-number-clause-numbers
returns-in_err-number-clause-numbers c =
    numbers_grown c.args.texts.now c.keep.new.texts c.args.numbers.now c.keep.ensures.grows c.requires

pub returns-in_err-put_number-clause-numbers : goal.returns-in_err-put_number-clause-numbers
returns-in_err-put_number-clause-numbers c =
    subst (λ (es : List (List ℕ × ℕ)). AreNumbers c.keep.new.texts es) (sym c.in_err-put_number.ensures.unchanged)
    (numbers_grown c.args.texts.now c.keep.new.texts c.args.numbers.now c.keep.ensures.grows c.requires)

pub returns-clause-text : goal.returns-clause-text
returns-clause-text c =
    let texts = c.keep.new.texts in
    text_there texts c.in_ok-number.number (units_of c.args.text.now)
    (subst (λ (u : List ℕ). HasNumber texts c.in_ok-number.number u) c.in_ok-units_of_text.ensures.written
    c.in_ok-number.ensures.number)

pub returns-clause-numbers : goal.returns-clause-numbers
returns-clause-numbers c =
    let old = c.args.numbers.now in
    let texts = c.keep.new.texts in
    number_put texts old c.put_number.new.numbers c.args.text.now c.in_ok-number.number
    (numbers_grown c.args.texts.now texts old c.keep.ensures.grows c.requires)
    (subst (λ (u : List ℕ). HasNumber texts c.in_ok-number.number u) c.in_ok-units_of_text.ensures.written
    c.in_ok-number.ensures.number)
    c.in_ok-put_number.ensures.kept

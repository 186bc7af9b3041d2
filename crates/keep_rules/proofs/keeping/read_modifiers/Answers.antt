-- Answers of `read_modifiers`: what its calls ask for, and what it promises.
use Rattle.std.proofs.Common.{sym, ◌∙◌}
use Rattle.std.proofs.lemmas.Result.{err_from_is_err_and}
use Rattle.keep_rules.specs.Specifications.{modifiers, unmodified}
use Rattle.keep_rules.proofs.Steps.{modifiers_end}
use Rattle.keep_rules.proofs.Loops.{modifiers_err, modifiers_more, modifier_less}
use Rattle.keep_rules.proofs.keeping.read_modifiers.Goals as goal

pub returns-in_err-modifiers : goal.returns-in_err-modifiers
returns-in_err-modifiers c =
    let p = err_from_is_err_and c.from_residual.result c.from_residual.ensures.1 in
    let yes = sym c.pass.ensures.test ∙ c.loop-words-test.true in
    rw (p.1, p.2)
    (modifiers_err c.args.option.now c.loop-words.modifiers c.in_err-modifiers.field-0.0 c.read_modifier.new.words
    c.read_modifier.new.words c.loop-words.words (modifiers c.args.option.now (unmodified c.args.shrinking)
    c.args.words.now) yes
    (rw (c.pass.ensures.passed, c.loop-words-test.true) at c.in_err-modifiers.ensures) c.loop-words.invariant)

pub loop-words-smaller : goal.loop-words-smaller
loop-words-smaller c = modifier_less c.args.option.now c.loop-words.modifiers c.in_ok-modifiers.modifiers
    c.loop-words.words
    c.read_modifier.new.words (rw (c.pass.ensures.passed, c.loop-words-test.true) at c.in_ok-modifiers.ensures)

pub loop-words-preserved : goal.loop-words-preserved
loop-words-preserved c =
    let yes = sym c.pass.ensures.test ∙ c.loop-words-test.true in
    modifiers_more c.args.option.now c.loop-words.modifiers c.in_ok-modifiers.modifiers c.loop-words.words
    c.read_modifier.new.words (modifiers c.args.option.now (unmodified c.args.shrinking) c.args.words.now) yes
    (rw (c.pass.ensures.passed, c.loop-words-test.true) at c.in_ok-modifiers.ensures) c.loop-words.invariant

pub returns : goal.returns
returns c =
    let no = sym c.pass.ensures.test ∙ c.loop-words-test.false in
    rw (c.pass.ensures.passed, c.loop-words-test.false)
    (sym c.loop-words.invariant ∙ modifiers_end c.args.option.now c.loop-words.modifiers c.loop-words.words no)

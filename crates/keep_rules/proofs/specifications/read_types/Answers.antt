-- Answers of `read_types`: what its calls ask for, and what it promises.
use Rattle.std.proofs.Common.{sym, ◌∙◌}
use Rattle.std.proofs.lemmas.Result.{err_from_is_err_and}
use Rattle.keep_rules.specs.declared.fault.RuleKind.TheVariants.{BadMemberSpec}
use Rattle.keep_rules.specs.Texts.{is_part, passing}
use Rattle.keep_rules.specs.Reader.{expected}
use Rattle.keep_rules.specs.Specifications.{types}
use Rattle.keep_rules.proofs.Loops.{list_err, list_done, list_more, item_less}
use Rattle.keep_rules.proofs.specifications.read_types.Goals as goal

pub returns-in_err-read_pattern : goal.returns-in_err-read_pattern
unfolding types expected
returns-in_err-read_pattern c =
    let p = err_from_is_err_and c.from_residual.result c.from_residual.ensures.1 in
    rw (p.1, p.2)
    (list_err BadMemberSpec (passing is_part BadMemberSpec) c.in_err-read_pattern.field-0.0 c.read_pattern.new.words
    c.read_pattern.new.words c.loop-types.types c.loop-types.words (types c.args.words.now)
    c.in_err-read_pattern.ensures
    c.loop-types.invariant)

pub returns-then-not-pass : goal.returns-then-not-pass
unfolding types expected
returns-then-not-pass c =
    let no = sym c.pass.ensures.test ∙ c.if-not-pass.true in
    rw (c.in_ok-push.ensures, c.pass.ensures.passed, c.if-not-pass.true)
    (list_done BadMemberSpec (passing is_part BadMemberSpec) c.loop-types.types c.loop-types.words
    c.in_ok-read_pattern.field-0
    c.read_pattern.new.words (types c.args.words.now) c.in_ok-read_pattern.ensures no c.loop-types.invariant)

pub loop-types-smaller : goal.loop-types-smaller
unfolding expected
loop-types-smaller c =
    rw (c.pass.ensures.passed, c.if-not-pass.false)
    (item_less BadMemberSpec (passing is_part BadMemberSpec) c.loop-types.words c.in_ok-read_pattern.field-0
    c.read_pattern.new.words c.in_ok-read_pattern.ensures)

pub loop-types-preserved : goal.loop-types-preserved
unfolding types expected
loop-types-preserved c =
    let yes = sym c.pass.ensures.test ∙ c.if-not-pass.false in
    rw (c.in_ok-push.ensures, c.pass.ensures.passed, c.if-not-pass.false)
    (list_more BadMemberSpec (passing is_part BadMemberSpec) c.loop-types.types c.loop-types.words
    c.in_ok-read_pattern.field-0
    c.read_pattern.new.words (types c.args.words.now) c.in_ok-read_pattern.ensures yes c.loop-types.invariant)

-- Answers of `read_filters`: what its calls ask for, and what it promises.
use Rattle.std.proofs.Common.{sym, ◌∙◌}
use Rattle.std.proofs.lemmas.Result.{err_from_is_err_and}
use Rattle.keep_rules.specs.declared.fault.RuleKind.TheVariants.{MissingName}
use Rattle.keep_rules.specs.Filtering.{filters, filter_in, filtered_by}
use Rattle.keep_rules.proofs.Loops.{list_err, list_done, list_more, item_less}
use Rattle.keep_rules.proofs.filtering.read_filters.Goals as goal

pub returns-in_err-read_filter : goal.returns-in_err-read_filter
unfolding filters
returns-in_err-read_filter c =
    let p = err_from_is_err_and c.from_residual.result c.from_residual.ensures.1 in
    rw (p.1, p.2)
    (list_err MissingName (filter_in (filtered_by c.args.filtered)) c.in_err-read_filter.field-0.0
    c.read_filter.new.words c.read_filter.new.words c.loop-filters.filters c.loop-filters.words
    (filters (filtered_by c.args.filtered) c.args.words.now) c.in_err-read_filter.ensures c.loop-filters.invariant)

pub returns-then-not-pass : goal.returns-then-not-pass
unfolding filters
returns-then-not-pass c =
    let no = sym c.pass.ensures.test ∙ c.if-not-pass.true in
    rw (c.in_ok-push.ensures, c.pass.ensures.passed, c.if-not-pass.true)
    (list_done MissingName (filter_in (filtered_by c.args.filtered)) c.loop-filters.filters c.loop-filters.words
    c.in_ok-read_filter.field-0 c.read_filter.new.words (filters (filtered_by c.args.filtered) c.args.words.now)
    c.in_ok-read_filter.ensures no c.loop-filters.invariant)

pub loop-filters-smaller : goal.loop-filters-smaller
loop-filters-smaller c =
    rw (c.pass.ensures.passed, c.if-not-pass.false)
    (item_less MissingName (filter_in (filtered_by c.args.filtered)) c.loop-filters.words c.in_ok-read_filter.field-0
    c.read_filter.new.words c.in_ok-read_filter.ensures)

pub loop-filters-preserved : goal.loop-filters-preserved
unfolding filters
loop-filters-preserved c =
    let yes = sym c.pass.ensures.test ∙ c.if-not-pass.false in
    rw (c.in_ok-push.ensures, c.pass.ensures.passed, c.if-not-pass.false)
    (list_more MissingName (filter_in (filtered_by c.args.filtered)) c.loop-filters.filters c.loop-filters.words
    c.in_ok-read_filter.field-0 c.read_filter.new.words (filters (filtered_by c.args.filtered) c.args.words.now)
    c.in_ok-read_filter.ensures yes c.loop-filters.invariant)

-- Answers of `read_flags`: what its calls ask for, and what it promises.
use Rattle.std.proofs.Common.{sym, ◌∙◌}
use Rattle.keep_rules.specs.declared.fault.RuleKind.TheVariants.{MissingName}
use Rattle.keep_rules.specs.Texts.{is_flag}
use Rattle.keep_rules.specs.Filtering.{flags}
use Rattle.keep_rules.proofs.Steps.{no_fault}
use Rattle.keep_rules.proofs.Loops.{flags_more, flags_done, word_less}
use Rattle.keep_rules.proofs.filtering.read_flags.Goals as goal

pub returns-in_err-word : goal.returns-in_err-word
returns-in_err-word c = absurd
    (no_fault (is_flag c.args.part) MissingName c.loop-alloc.words c.in_err-word.field-0.0
    (sym c.is_flag_next.ensures ∙ c.loop-alloc-test.true) c.in_err-word.ensures)

pub loop-alloc-smaller : goal.loop-alloc-smaller
loop-alloc-smaller c = word_less MissingName c.loop-alloc.words c.in_ok-word.word.now c.take.new.self
    c.in_ok-word.ensures

pub loop-alloc-preserved : goal.loop-alloc-preserved
loop-alloc-preserved c =
    rw (c.in_ok-push.ensures, c.in_ok-filter_of.ensures)
    (flags_more c.args.part MissingName c.loop-alloc.flags c.loop-alloc.words c.in_ok-word.word.now c.take.new.self
    (flags c.args.part c.args.words.now) (sym c.is_flag_next.ensures ∙ c.loop-alloc-test.true) c.in_ok-word.ensures
    c.loop-alloc.invariant)

pub returns : goal.returns
returns c = flags_done c.args.part c.loop-alloc.flags c.loop-alloc.words (flags c.args.part c.args.words.now)
    (sym c.is_flag_next.ensures ∙ c.loop-alloc-test.false) c.loop-alloc.invariant

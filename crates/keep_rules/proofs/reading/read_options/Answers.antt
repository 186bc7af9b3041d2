-- Answers of `read_options`: what its calls ask for, and what it promises.
use Rattle.std.proofs.Common.{sym, drop}
use Rattle.std.proofs.lemmas.Result.{err_from_is_err_and}
use Rattle.std.specs.List.{position_or_len}
use Rattle.keep_rules.specs.Reading.{options_read, blank, sections_of, word_is_option}
use Rattle.keep_rules.proofs.OptionSteps.{first_err, first_more, begins_on, option_done, none_is, rest_less}
use Rattle.keep_rules.proofs.reading.read_options.Goals as goal

pub returns-in_err-read : goal.returns-in_err-read
returns-in_err-read c =
    let p = err_from_is_err_and c.from_residual.result c.from_residual.ensures.1 in
    rw (p.1, p.2)
    (first_err c.in_err-read.field-0.0 c.loop-option.draft c.read.new.self c.loop-option.rest.now c.in-Some.option.now
    c.values_of.result.0.now (options_read blank (sections_of c.args.words.now).sections) (sym c.in-Some.ensures.value)
    c.loop-option.invariant.begins c.values_of.ensures.values c.in_err-read.ensures c.loop-option.invariant.read)

pub loop-option-smaller : goal.loop-option-smaller
loop-option-smaller c = rest_less c.loop-option.rest.now c.values_of.result.1.now c.in-Some.option.now
    (position_or_len word_is_option (drop 1 c.loop-option.rest.now)) (sym c.in-Some.ensures.value)
    c.values_of.ensures.others

pub loop-option-preserved : goal.loop-option-preserved
loop-option-preserved c = record {
  read = first_more c.loop-option.draft c.read.new.self c.loop-option.rest.now c.in-Some.option.now
      c.values_of.result.0.now
      c.values_of.result.1.now (options_read blank (sections_of c.args.words.now).sections)
      (sym c.in-Some.ensures.value)
      c.loop-option.invariant.begins c.values_of.ensures.values c.values_of.ensures.others c.in_ok-read.ensures
      c.loop-option.invariant.read;
  begins = begins_on (drop 1 c.loop-option.rest.now) c.values_of.result.1.now c.values_of.ensures.others;
}

pub returns : goal.returns
returns c = option_done c.loop-option.draft c.loop-option.rest.now
    (options_read blank (sections_of c.args.words.now).sections)
    (none_is c.loop-option.rest.now (sym c.in_default.ensures.value)) c.loop-option.invariant.read

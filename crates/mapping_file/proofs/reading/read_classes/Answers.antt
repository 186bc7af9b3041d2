-- Answers of `read_classes`: what its calls ask for, and what it promises.
use Rattle.std.proofs.Common.{◌≡◌, ℕ, List, Result, Ok, Err, sym, ap, ◌∙◌, arith}
use Rattle.std.specs.Str.Lines.{lines}
use Rattle.std.proofs.lemmas.Result.{err_from_is_err_and}
use Rattle.text_lines.proofs.Taking.{line_taken, lines_done, loop_stops}
use Rattle.mapping_file.specs.MapReading.{step}
use Rattle.mapping_file.proofs.reading.read_classes.Goals as goal

pub returns-in_err-read_line : goal.returns-in_err-read_line
returns-in_err-read_line c =
    let stops = loop_stops (Unit {0}) step c.loop-line.number (lines c.loop-line.rest.now)
    (lines c.in-Some.line.rest.now) c.in-Some.line.line.now c.loop-line.read
    c.read_line.new.read c.in_err-read_line.field-0.0 _ c.in-Some.ensures.first c.in_err-read_line.ensures.read
    c.loop-line.invariant.read in
    let p = err_from_is_err_and c.from_residual-in_err-read_line.result c.from_residual-in_err-read_line.ensures.1 in
    rw (p.1, p.2) stops

pub loop-line-preserved : goal.loop-line-preserved
loop-line-preserved c = record {
  read = line_taken step c.loop-line.number (lines c.loop-line.rest.now) (lines c.in-Some.line.rest.now)
      c.in-Some.line.line.now c.loop-line.read
      c.read_line.new.read _ c.in-Some.ensures.first c.in_ok-read_line.ensures.read c.loop-line.invariant.read;
  names = c.in_ok-read_line.ensures.names;
  counted = omega (arith, c.in-Some.ensures.shorter, c.loop-line.invariant.counted);
}

pub returns : goal.returns
returns c = lines_done step c.loop-line.number (lines c.loop-line.rest.now)
    c.loop-line.read _ (rw c.in_default.is at c.next_line.ensures.none) c.loop-line.invariant.read

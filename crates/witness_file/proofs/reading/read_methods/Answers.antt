-- Answers of `read_methods`: what its calls ask for, and what it promises.
use Rattle.std.proofs.Common.{◌≡◌, ℕ, ◌+◌, List, [], ◌∷◌, length, Result, Ok, Err, sym, ap, ◌∙◌, arith}
use Rattle.std.specs.Str.Lines.{lines}
use Rattle.std.proofs.lemmas.Result.{err_from_is_err_and}
use Rattle.text_lines.proofs.Taking.{line_taken, lines_done, loop_stops}
use Rattle.witness_file.specs.WitnessReading.{step}
use Rattle.witness_file.proofs.reading.read_methods.Goals as goal

pub returns-in_err-read_line-clause-read : goal.returns-in_err-read_line-clause-read
returns-in_err-read_line-clause-read c =
    let stops = loop_stops (Unit {0}) step c.loop-line.number (lines c.loop-line.rest.now)
    (lines c.in-Some.line.rest.now) c.in-Some.line.line.now c.loop-line.read
    c.read_line.new.read c.in_err-read_line.field-0.0 _ c.in-Some.ensures.first c.in_err-read_line.ensures.read
    c.loop-line.invariant.read in
    let p = err_from_is_err_and c.from_residual-in_err-read_line.result c.from_residual-in_err-read_line.ensures.1 in
    rw (p.1, p.2) stops

pub loop-line-preserved : goal.loop-line-preserved
loop-line-preserved c = record {
  read = line_taken step c.loop-line.number (lines c.loop-line.rest.now) (lines c.in-Some.line.rest.now)
      c.in-Some.line.line.now c.loop-line.read
      c.read_line.new.read _ c.in-Some.ensures.first c.in_ok-read_line.ensures.read c.loop-line.invariant.read;
  table = c.in_ok-read_line.ensures.table;
  numbered = (let e = ap length c.in-Some.ensures.first in omega (arith, e, c.loop-line.invariant.numbered));
  counted = omega (arith, c.in-Some.ensures.shorter, c.loop-line.invariant.counted);
}

pub returns-clause-read : goal.returns-clause-read
returns-clause-read c = lines_done step c.loop-line.number (lines c.loop-line.rest.now)
    c.loop-line.read _ (rw c.in_default.is at c.next_line.ensures.none) c.loop-line.invariant.read

pub returns-clause-count : goal.returns-clause-count
returns-clause-count c =
    let none : lines c.loop-line.rest.now ≡ [] = rw c.in_default.is at c.next_line.ensures.none in
    let e = ap length none in omega (arith, e, c.loop-line.invariant.numbered)

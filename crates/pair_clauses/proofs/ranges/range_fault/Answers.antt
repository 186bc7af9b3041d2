-- Answers of `range_fault`: what its calls ask for, and what it promises.
use Rattle.std.proofs.Common.{sym, ◌∙◌, arith}
use Rattle.class_model.specs.declared.class.Class.{Class}
use Rattle.new_names.specs.NewNames.{class_line}
use Rattle.new_names.specs.declared.class_names.ClassNames.{ClassNames}
use Rattle.pair_clauses.specs.LineRanges.{class_range_fault}
use Rattle.pair_clauses.specs.Members.{new_one}
use Rattle.pair_clauses.proofs.Zipped.{beyond, first_done, first_ends, first_found, first_unfound, got}
use Rattle.pair_clauses.proofs.ranges.range_fault.Goals as goal

pub returns-in_default : goal.returns-in_default
returns-in_default c =
    sym (first_ends (λ (p : Class × ClassNames). class_range_fault (class_line c.args.names.now p.0.name) p.0 p.1
    (new_one c.args.output.now p.1)) c.args.input.now c.args.given.now c.loop-number.number
    (beyond c.args.given.now c.loop-number.number c.in_default.ensures.lookup.3))
    ∙ c.loop-number.invariant

pub returns : goal.returns
returns c =
    sym (first_done (λ (p : Class × ClassNames). class_range_fault (class_line c.args.names.now p.0.name) p.0 p.1
    (new_one c.args.output.now p.1)) c.args.input.now c.args.given.now c.loop-number.number
    (beyond c.args.input.now _ (omega arith)))
    ∙ c.loop-number.invariant

pub returns-then-is_some : goal.returns-then-is_some
returns-then-is_some c =
    let names = c.in-Some.new.now in
    let read = got c.args.given.now c.loop-number.number names c.in-Some.ensures.lookup.3.0
    c.in-Some.ensures.lookup.1 in
    first_found (λ (p : Class × ClassNames). class_range_fault (class_line c.args.names.now p.0.name) p.0 p.1
    (new_one c.args.output.now p.1)) c.args.input.now c.args.given.now c.loop-number.number
    c.class.result.now names
    c.in_ok-found.found c.class.ensures.is read c.in_ok-found.ensures
    (sym c.is_some.ensures ∙ c.if-is_some.true) ∙ c.loop-number.invariant

pub loop-number-preserved : goal.loop-number-preserved
loop-number-preserved c =
    let names = c.in-Some.new.now in
    let read = got c.args.given.now c.loop-number.number names c.in-Some.ensures.lookup.3.0
    c.in-Some.ensures.lookup.1 in
    first_unfound (λ (p : Class × ClassNames). class_range_fault (class_line c.args.names.now p.0.name) p.0 p.1
    (new_one c.args.output.now p.1)) c.args.input.now c.args.given.now c.loop-number.number
    c.class.result.now names
    c.in_ok-found.found c.class.ensures.is read c.in_ok-found.ensures
    (sym c.is_some.ensures ∙ c.if-is_some.false) ∙ c.loop-number.invariant

-- Answers of `member_differs`: what its calls ask for, and what it promises.
use Rattle.std.proofs.Common.{sym, ◌∙◌, arith}
use Rattle.class_model.specs.declared.class.Class.{Class}
use Rattle.new_names.specs.declared.class_names.ClassNames.{ClassNames}
use Rattle.pair_clauses.specs.Members.{LinedDiffers, new_one}
use Rattle.pair_clauses.proofs.Searching.{from_done, from_here, from_on}
use Rattle.pair_clauses.proofs.Zipped.{beyond, got, zip_done, zip_ends}
use Rattle.pair_clauses.proofs.members.member_differs.Goals as goal

pub returns-in_default : goal.returns-in_default
returns-in_default c = from_done (λ (p : Class × ClassNames). LinedDiffers c.args.names.now c.args.filter.now p.0 p.1
    (new_one c.args.output.now p.1))
    c.args.input.now c.args.given.now c.loop-number.number c.loop-number.invariant
    (sym (zip_ends c.args.input.now c.args.given.now c.loop-number.number
    (beyond c.args.given.now c.loop-number.number c.in_default.ensures.lookup.3)))

pub returns : goal.returns
returns c = from_done (λ (p : Class × ClassNames). LinedDiffers c.args.names.now c.args.filter.now p.0 p.1
    (new_one c.args.output.now p.1))
    c.args.input.now c.args.given.now c.loop-number.number c.loop-number.invariant
    (sym (zip_done c.args.input.now c.args.given.now c.loop-number.number
    (beyond c.args.input.now c.loop-number.number (omega arith))))

pub returns-then-is_some : goal.returns-then-is_some
returns-then-is_some c =
    let new = c.in-Some.new.now in
    let read = got c.args.given.now c.loop-number.number new c.in-Some.ensures.lookup.3.0 c.in-Some.ensures.lookup.1 in
    from_here (λ (p : Class × ClassNames). LinedDiffers c.args.names.now c.args.filter.now p.0 p.1
    (new_one c.args.output.now p.1))
    c.args.input.now c.args.given.now c.loop-number.number c.loop-number.invariant c.class.result.now new
    c.class.ensures.is read c.in_ok-found.found
    (sym c.is_some.ensures ∙ c.if-is_some.true) c.in_ok-found.ensures

pub loop-number-preserved : goal.loop-number-preserved
loop-number-preserved c =
    let new = c.in-Some.new.now in
    let read = got c.args.given.now c.loop-number.number new c.in-Some.ensures.lookup.3.0 c.in-Some.ensures.lookup.1 in
    from_on (λ (p : Class × ClassNames). LinedDiffers c.args.names.now c.args.filter.now p.0 p.1
    (new_one c.args.output.now p.1))
    c.args.input.now c.args.given.now c.loop-number.number c.loop-number.invariant c.class.result.now new
    c.class.ensures.is read c.in_ok-found.found
    (sym c.is_some.ensures ∙ c.if-is_some.false) c.in_ok-found.ensures

-- Answers of `package_fault`: what its calls ask for, and what it promises.
use Rattle.std.proofs.Common.{Some, sym, ap, ◌∙◌, arith}
use Rattle.pair_clauses.specs.FixedNames.{is_moved, moved_in}
use Rattle.pair_clauses.specs.Places.{class_place}
use Rattle.pair_clauses.proofs.Zipped.{beyond, first_done, first_ends, first_here, first_on, got, placed, unplaced}
use Rattle.pair_clauses.proofs.fixed.package_fault.Goals as goal

pub returns-in_default : goal.returns-in_default
returns-in_default c =
    sym (first_ends moved_in c.args.input.now c.args.given.now c.loop-number.number
    (beyond c.args.given.now c.loop-number.number c.in_default.ensures.lookup.3))
    ∙ c.loop-number.invariant

pub returns : goal.returns
returns c =
    sym (first_done moved_in c.args.input.now c.args.given.now c.loop-number.number
    (beyond c.args.input.now _ (omega arith)))
    ∙ c.loop-number.invariant

pub returns-then-is_moved : goal.returns-then-is_moved
returns-then-is_moved c =
    let class = c.class-class.result.now in
    let names = c.in-Some.names.now in
    let read = got c.args.given.now c.loop-number.number names c.in-Some.ensures.lookup.3.0
    c.in-Some.ensures.lookup.1 in
    ap Some c.in_ok-class_place.ensures
    ∙ sym (first_here moved_in c.args.input.now c.args.given.now c.loop-number.number class names
    (class_place class.name) c.class-class.ensures.is read
    (placed (is_moved class.name names.class) (class_place class.name) (sym c.is_moved.ensures ∙ c.if-is_moved.true)))
    ∙ c.loop-number.invariant

pub loop-number-preserved : goal.loop-number-preserved
loop-number-preserved c =
    let class = c.class-class.result.now in
    let names = c.in-Some.names.now in
    let read = got c.args.given.now c.loop-number.number names c.in-Some.ensures.lookup.3.0
    c.in-Some.ensures.lookup.1 in
    first_on moved_in c.args.input.now c.args.given.now c.loop-number.number class names c.class-class.ensures.is read
    (unplaced (is_moved class.name names.class) (class_place class.name) (sym c.is_moved.ensures ∙ c.if-is_moved.false))
    ∙ c.loop-number.invariant

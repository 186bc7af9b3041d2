-- Answers of `fixed_field`: what its calls ask for, and what it promises.
use Rattle.std.proofs.Common.{Some, sym, ap, ◌∙◌}
use Rattle.std.specs.Option.{option_copied}
use Rattle.pair_clauses.specs.FixedNames.{field_fault, is_among, is_renamed}
use Rattle.pair_clauses.specs.Places.{place_of_field}
use Rattle.pair_clauses.proofs.Zipped.{beyond, first_ends, first_here, first_on, got, placed, unplaced}
use Rattle.pair_clauses.proofs.fixed.fixed_field.Goals as goal

pub returns-in_default : goal.returns-in_default
returns-in_default c =
    sym (first_ends (field_fault (is_among (option_copied c.args.fixed)) c.args.class.now) c.args.class.now.fields
    c.args.names.now c.loop-index.index (beyond c.args.names.now c.loop-index.index c.in_default.ensures.lookup.3))
    ∙ c.loop-index.invariant

pub returns-then-is_renamed : goal.returns-then-is_renamed
returns-then-is_renamed c =
    let field = c.index-field.result.now in
    let new = c.in-Some.new.now in
    let read = got c.args.names.now c.loop-index.index new c.in-Some.ensures.lookup.3.0 c.in-Some.ensures.lookup.1 in
    ap Some c.in_ok-field_place.ensures
    ∙ sym (first_here (field_fault (is_among (option_copied c.args.fixed)) c.args.class.now) c.args.class.now.fields
    c.args.names.now c.loop-index.index field new (place_of_field c.args.class.now field)
    c.index-field.ensures read
    (placed (is_renamed (is_among (option_copied c.args.fixed)) field.name new) (place_of_field c.args.class.now field)
    (sym c.is_renamed.ensures ∙ c.if-is_renamed.true)))
    ∙ c.loop-index.invariant

pub loop-index-preserved : goal.loop-index-preserved
loop-index-preserved c =
    let field = c.index-field.result.now in
    let new = c.in-Some.new.now in
    let read = got c.args.names.now c.loop-index.index new c.in-Some.ensures.lookup.3.0 c.in-Some.ensures.lookup.1 in
    first_on (field_fault (is_among (option_copied c.args.fixed)) c.args.class.now) c.args.class.now.fields
    c.args.names.now c.loop-index.index field new c.index-field.ensures read
    (unplaced (is_renamed (is_among (option_copied c.args.fixed)) field.name new)
    (place_of_field c.args.class.now field) (sym c.is_renamed.ensures ∙ c.if-is_renamed.false))
    ∙ c.loop-index.invariant

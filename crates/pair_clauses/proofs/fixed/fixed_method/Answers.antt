-- Answers of `fixed_method`: what its calls ask for, and what it promises.
use Rattle.std.proofs.Common.{Some, sym, ap, ◌∙◌}
use Rattle.std.specs.Option.{option_copied}
use Rattle.jv_base.specs.Types.{method_text}
use Rattle.pair_clauses.specs.FixedNames.{is_among_methods, is_renamed, method_fault}
use Rattle.pair_clauses.specs.Places.{place_of_method}
use Rattle.pair_clauses.proofs.Zipped.{beyond, first_ends, first_here, first_on, got, placed, unplaced}
use Rattle.pair_clauses.proofs.fixed.fixed_method.Goals as goal

pub returns-in_default : goal.returns-in_default
returns-in_default c =
    sym (first_ends (method_fault (is_among_methods (option_copied c.args.fixed)) c.args.class.now) c.args.class.now.methods
    c.args.names.now c.loop-index.index (beyond c.args.names.now c.loop-index.index c.in_default.ensures.lookup.3))
    ∙ c.loop-index.invariant

pub returns-then-is_wrong : goal.returns-then-is_wrong
returns-then-is_wrong c =
    let method = c.index-method.result.now in
    let new = c.in-Some.new.now in
    let read = got c.args.names.now c.loop-index.index new c.in-Some.ensures.lookup.3.0 c.in-Some.ensures.lookup.1 in
    ap Some c.in_ok-method_place.ensures
    ∙ sym (first_here (method_fault (is_among_methods (option_copied c.args.fixed)) c.args.class.now) c.args.class.now.methods
    c.args.names.now c.loop-index.index method new (place_of_method c.args.class.now method)
    c.index-method.ensures read
    (placed (is_renamed (is_among_methods (option_copied c.args.fixed) (method_text method.ty)) method.name new)
    (place_of_method c.args.class.now method) (sym c.in_ok-is_wrong.ensures ∙ c.if-is_wrong.true)))
    ∙ c.loop-index.invariant

pub loop-index-preserved : goal.loop-index-preserved
loop-index-preserved c =
    let method = c.index-method.result.now in
    let new = c.in-Some.new.now in
    let read = got c.args.names.now c.loop-index.index new c.in-Some.ensures.lookup.3.0 c.in-Some.ensures.lookup.1 in
    first_on (method_fault (is_among_methods (option_copied c.args.fixed)) c.args.class.now) c.args.class.now.methods
    c.args.names.now c.loop-index.index method new c.index-method.ensures read
    (unplaced (is_renamed (is_among_methods (option_copied c.args.fixed) (method_text method.ty)) method.name new)
    (place_of_method c.args.class.now method) (sym c.in_ok-is_wrong.ensures ∙ c.if-is_wrong.false))
    ∙ c.loop-index.invariant

-- Answers of `class_differs`: what its calls ask for, and what it promises.
use Rattle.std.proofs.Common.{sym, subst, ◌∙◌}
use Rattle.pair_clauses.specs.Finding.{FindsUnless, FirstUnlike, Then}
use Rattle.pair_clauses.specs.Members.{IsSameClass, IsSameField, MethodsDiffer, NewField, expected_fields}
use Rattle.pair_clauses.specs.Members.{expected_methods}
use Rattle.pair_clauses.specs.Places.{class_place, place_of_field}
use Rattle.pair_clauses.proofs.Bodies.{ok_on}
use Rattle.pair_clauses.proofs.Searching.{then_found, then_on}
use Rattle.pair_clauses.proofs.Unlike.{none_there}
use Rattle.pair_clauses.proofs.members.class_differs.Goals as goal

pub returns-then-is_some : goal.returns-then-is_some
returns-then-is_some c =
    let found = c.in_ok-fields.fields.found in
    then_on (FindsUnless (IsSameClass c.args.names.now c.args.class.now c.args.out.now)
    (class_place c.args.class.now.name))
    (Then (FirstUnlike (IsSameField c.args.names.now) (λ (e : NewField). place_of_field c.args.class.now e.0)
    (expected_fields c.args.class.now c.args.given.now) c.args.out.now.fields)
    (MethodsDiffer c.args.names.now c.args.filter.now c.args.class.now
    (expected_fields c.args.class.now c.args.given.now) (expected_methods c.args.class.now c.args.given.now)
    c.args.out.now))
    (c.is_same_class.ensures.0 c.if-not-is_same_class.false) found
    (then_found (FirstUnlike (IsSameField c.args.names.now) (λ (e : NewField). place_of_field c.args.class.now e.0)
    (expected_fields c.args.class.now c.args.given.now) c.args.out.now.fields)
    (MethodsDiffer c.args.names.now c.args.filter.now c.args.class.now
    (expected_fields c.args.class.now c.args.given.now) (expected_methods c.args.class.now c.args.given.now)
    c.args.out.now) found (sym c.is_some.ensures ∙ c.if-is_some.true) c.in_ok-fields.ensures.found)

pub returns : goal.returns
returns c =
    let none = none_there c.in_ok-fields.fields.found (sym c.is_some.ensures ∙ c.if-is_some.false) in
    ok_on c.methods_differ.result
    (λ found next. then_on (FindsUnless (IsSameClass c.args.names.now c.args.class.now c.args.out.now)
    (class_place c.args.class.now.name))
    (Then (FirstUnlike (IsSameField c.args.names.now) (λ (e : NewField). place_of_field c.args.class.now e.0)
    (expected_fields c.args.class.now c.args.given.now) c.args.out.now.fields)
    (MethodsDiffer c.args.names.now c.args.filter.now c.args.class.now
    (expected_fields c.args.class.now c.args.given.now) (expected_methods c.args.class.now c.args.given.now)
    c.args.out.now))
    (c.is_same_class.ensures.0 c.if-not-is_same_class.false) found
    (then_on (FirstUnlike (IsSameField c.args.names.now) (λ (e : NewField). place_of_field c.args.class.now e.0)
    (expected_fields c.args.class.now c.args.given.now) c.args.out.now.fields)
    (MethodsDiffer c.args.names.now c.args.filter.now c.args.class.now
    (expected_fields c.args.class.now c.args.given.now) (expected_methods c.args.class.now c.args.given.now)
    c.args.out.now)
    (subst (FirstUnlike (IsSameField c.args.names.now) (λ (e : NewField). place_of_field c.args.class.now e.0)
    (expected_fields c.args.class.now c.args.given.now) c.args.out.now.fields) none c.in_ok-fields.ensures.found)
    found next))
    c.methods_differ.ensures

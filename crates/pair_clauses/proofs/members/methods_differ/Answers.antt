-- Answers of `methods_differ`: what its calls ask for, and what it promises.
use Rattle.std.proofs.Common.{◌≡◌, ◌<◌, Bool, true, nat_lt, Option, Some, length, inr, sym, ap, subst, ◌∙◌, arith}
use Rattle.std.specs.Prelude.{◌||◌}
use Rattle.std.proofs.lemmas.Bool.{lt-ltb, or_right}
use Rattle.pair_clauses.specs.Finding.{FirstUnlike}
use Rattle.pair_clauses.specs.Members.{IsSameMethod, NewMethod, expected_fields, expected_methods, further_fault}
use Rattle.pair_clauses.specs.Places.{class_place, place_of_method}
use Rattle.pair_clauses.specs.declared.place.Place.{Place}
use Rattle.pair_clauses.proofs.Searching.{then_found}
use Rattle.pair_clauses.proofs.Unlike.{none_there}
use Rattle.pair_clauses.proofs.Zipped.{placed}
use Rattle.pair_clauses.proofs.members.methods_differ.Goals as goal
use Rattle.pair_clauses.proofs.members.methods_differ.Goals.{then-fields-len-via-then-fields-len}
use Rattle.pair_clauses.proofs.members.methods_differ.Goals.{then-fields-len-via-else-fields-len+then-methods-len}

pub returns-then-is_some : goal.returns-then-is_some
returns-then-is_some c = then_found (FirstUnlike (IsSameMethod c.args.names.now c.args.filter.now)
    (λ (e : NewMethod). place_of_method c.args.class.now e.0) (expected_methods c.args.class.now c.args.given.now)
    c.args.out.now.methods)
    (λ (found : Option Place). found ≡ further_fault c.args.class.now
    (expected_fields c.args.class.now c.args.given.now)
    (expected_methods c.args.class.now c.args.given.now) c.args.out.now)
    c.in_ok-methods.methods.found (sym c.is_some.ensures ∙ c.if-is_some.true) c.in_ok-methods.ensures.found

pub returns-then-fields-len : goal.returns-then-fields-len
returns-then-fields-len c =
    let fields = length (expected_fields c.args.class.now c.args.given.now) in
    let methods = length (expected_methods c.args.class.now c.args.given.now) in
    let out = c.args.out.now in
    let none = none_there c.in_ok-methods.methods.found (sym c.is_some.ensures ∙ c.if-is_some.false) in
    let count = c.in_ok-methods.ensures.count none in
    let more : (nat_lt fields (length out.fields) || nat_lt methods (length out.methods)) ≡ true =
    elim c.then-fields-len.branch [
      | then-fields-len-via-then-fields-len w ↦
          let low : fields < length out.fields = omega (arith, c.requires, c.len.ensures, w.if-fields-len.true) in
          ap (λ (b : Bool). b || nat_lt methods (length out.methods)) (lt-ltb fields (length out.fields) low)
      | then-fields-len-via-else-fields-len+then-methods-len w ↦
          let low : methods < length out.methods =
          omega (arith, count, w.len-else-fields-len.ensures, w.if-methods-len.true) in
          or_right (nat_lt fields (length out.fields)) (nat_lt methods (length out.methods))
          (lt-ltb methods (length out.methods) low)
    ] in
    inr (
      subst (FirstUnlike (IsSameMethod c.args.names.now c.args.filter.now)
          (λ (e : NewMethod). place_of_method c.args.class.now e.0) (expected_methods c.args.class.now c.args.given.now)
          c.args.out.now.methods) none c.in_ok-methods.ensures.found,
      ap Some c.in_ok-class_place.ensures
          ∙ sym (placed (nat_lt fields (length out.fields) || nat_lt methods (length out.methods))
          (class_place c.args.class.now.name) more),
    )

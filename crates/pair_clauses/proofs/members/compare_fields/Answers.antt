-- Answers of `compare_fields`: what its calls ask for, and what it promises.
use Rattle.std.proofs.Common.{◌≡◌, ◌+◌, ℕ, true, false, Some, length, sym, ap, subst, ◌∙◌, arith}
use Rattle.std.specs.List.{filter_map, zip}
use Rattle.pair_clauses.specs.Finding.{FirstUnlike}
use Rattle.pair_clauses.specs.Members.{IsSameField, NewField, with_name}
use Rattle.pair_clauses.specs.Places.{place_of_field}
use Rattle.pair_clauses.specs.declared.place.Place.{Place}
use Rattle.pair_clauses.proofs.Unlike.{FoundBehind, counted_all, counted_here, counted_on, found_alike, found_none}
use Rattle.pair_clauses.proofs.Unlike.{found_unlike, found_unnamed, named_done, named_ends, named_from}
use Rattle.pair_clauses.proofs.members.compare_fields.Goals as goal
use Rattle.pair_clauses.proofs.members.compare_fields.Goals.{in-Some-given+else-not-is_same_field, in_default-given}

pub returns-in_default : goal.returns-in_default
returns-in_default c =
    let ends = named_ends c.args.class.now.fields c.args.new.now c.loop-index.index (sym c.in_default.ensures) in
    record {
      found = found_none (IsSameField c.args.names.now) (λ (e : NewField). place_of_field c.args.class.now e.0)
          c.args.class.now.fields c.args.new.now c.args.outs.now c.loop-index.index c.loop-index.count
          c.loop-index.invariant.left ends;
      count = λ e. counted_all c.args.class.now.fields c.args.new.now c.loop-index.index c.loop-index.count _ ends
          c.loop-index.invariant.counted;
    }

pub returns : goal.returns
returns c =
    let done = named_done c.args.class.now.fields c.args.new.now c.loop-index.index (omega arith) in
    record {
      found = found_none (IsSameField c.args.names.now) (λ (e : NewField). place_of_field c.args.class.now e.0)
          c.args.class.now.fields c.args.new.now c.args.outs.now c.loop-index.index c.loop-index.count
          c.loop-index.invariant.left done;
      count = λ e. counted_all c.args.class.now.fields c.args.new.now c.loop-index.index c.loop-index.count _ done
          c.loop-index.invariant.counted;
    }

pub returns-then-not-is_same_field-clause-found : goal.returns-then-not-is_same_field-clause-found
returns-then-not-is_same_field-clause-found c =
    let field = c.index-field.result.now in
    let named = sym c.in-Some.ensures ∙ ap Some c.in-Some-given.is in
    subst (λ (place : Place). FirstUnlike (IsSameField c.args.names.now)
    (λ (e : NewField). place_of_field c.args.class.now e.0)
    (filter_map with_name (zip c.args.class.now.fields c.args.new.now)) c.args.outs.now (Some place))
    (sym c.in_ok-field_place.ensures)
    (found_unlike (IsSameField c.args.names.now) (λ (e : NewField). place_of_field c.args.class.now e.0)
    c.args.class.now.fields c.args.new.now c.args.outs.now c.loop-index.index c.loop-index.count
    c.loop-index.invariant.left field c.in-Some-given.name c.index-field.ensures named
    (λ out there same. let yes : c.is_same_field.result ≡ true =
    c.is_same_field.ensures.1 (out, c.get-in-Some-given.ensures ∙ there, same) in
    let clash : true ≡ false = sym yes ∙ c.if-not-is_same_field.true in cc))

pub loop-index-preserved : goal.loop-index-preserved
loop-index-preserved c =
    let field = c.index-field.result.now in
    elim c.match-given.branch [
      | in-Some-given+else-not-is_same_field w ↦
          let named = sym c.in-Some.ensures ∙ ap Some w.in-Some-given.is in
          let same = w.is_same_field.ensures.0 w.if-not-is_same_field.false in
          record {
            left = subst (λ (k : ℕ). FoundBehind (IsSameField c.args.names.now)
                (λ (e : NewField). place_of_field c.args.class.now e.0) c.args.class.now.fields c.args.new.now
                c.args.outs.now (c.loop-index.index + 1) k) (sym w.count-is)
                (found_alike (IsSameField c.args.names.now) (λ (e : NewField). place_of_field c.args.class.now e.0)
                c.args.class.now.fields c.args.new.now c.args.outs.now c.loop-index.index c.loop-index.count
                c.loop-index.invariant.left
                field w.in-Some-given.name same.0 c.index-field.ensures named (sym w.get-in-Some-given.ensures ∙ same.1)
                same.2);
            counted = subst (λ (k : ℕ). k + length (named_from c.args.class.now.fields c.args.new.now
                (c.loop-index.index + 1))
                ≡ length (filter_map with_name (zip c.args.class.now.fields c.args.new.now))) (sym w.count-is)
                (counted_here c.args.class.now.fields c.args.new.now c.loop-index.index c.loop-index.count _ field
                w.in-Some-given.name c.index-field.ensures named c.loop-index.invariant.counted);
            few = omega (arith, w.count-is, c.loop-index.invariant.few);
          }
      | in_default-given w ↦
          let unnamed = sym c.in-Some.ensures ∙ ap Some w.in_default-given.is in
          record {
            left = subst (λ (k : ℕ). FoundBehind (IsSameField c.args.names.now)
                (λ (e : NewField). place_of_field c.args.class.now e.0) c.args.class.now.fields c.args.new.now
                c.args.outs.now (c.loop-index.index + 1) k) (sym w.count-is)
                (found_unnamed (IsSameField c.args.names.now) (λ (e : NewField). place_of_field c.args.class.now e.0)
                c.args.class.now.fields c.args.new.now c.args.outs.now c.loop-index.index c.loop-index.count
                c.loop-index.invariant.left field c.index-field.ensures unnamed);
            counted = subst (λ (k : ℕ). k + length (named_from c.args.class.now.fields c.args.new.now
                (c.loop-index.index + 1))
                ≡ length (filter_map with_name (zip c.args.class.now.fields c.args.new.now))) (sym w.count-is)
                (counted_on c.args.class.now.fields c.args.new.now c.loop-index.index c.loop-index.count _ field
                c.index-field.ensures unnamed c.loop-index.invariant.counted);
            few = omega (arith, w.count-is, c.loop-index.invariant.few);
          }
    ]

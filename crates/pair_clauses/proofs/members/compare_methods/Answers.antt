-- Answers of `compare_methods`: what its calls ask for, and what it promises.
use Rattle.std.proofs.Common.{◌≡◌, ◌+◌, ℕ, true, false, Some, length, sym, ap, subst, ◌∙◌, arith}
use Rattle.std.specs.List.{filter_map, zip}
use Rattle.pair_clauses.specs.Finding.{FirstUnlike}
use Rattle.pair_clauses.specs.Members.{IsSameMethod, NewMethod, with_name}
use Rattle.pair_clauses.specs.Places.{place_of_method}
use Rattle.pair_clauses.specs.declared.place.Place.{Place}
use Rattle.pair_clauses.proofs.Unlike.{FoundBehind, counted_all, counted_here, counted_on, found_alike, found_none}
use Rattle.pair_clauses.proofs.Unlike.{found_unlike, found_unnamed, named_done, named_ends, named_from}
use Rattle.pair_clauses.proofs.members.compare_methods.Goals as goal
use Rattle.pair_clauses.proofs.members.compare_methods.Goals.{in-Some-given+else-not-is_same_method, in_default-given}

pub returns-in_default : goal.returns-in_default
returns-in_default c =
    let ends = named_ends c.args.class.now.methods c.args.new.now c.loop-index.index (sym c.in_default.ensures) in
    record {
      found = found_none (IsSameMethod c.args.names.now c.args.filter.now)
          (λ (e : NewMethod). place_of_method c.args.class.now e.0) c.args.class.now.methods c.args.new.now
          c.args.outs.now c.loop-index.index c.loop-index.count c.loop-index.invariant.left ends;
      count = λ e. counted_all c.args.class.now.methods c.args.new.now c.loop-index.index c.loop-index.count _ ends
          c.loop-index.invariant.counted;
    }

pub returns : goal.returns
returns c =
    let done = named_done c.args.class.now.methods c.args.new.now c.loop-index.index (omega arith) in
    record {
      found = found_none (IsSameMethod c.args.names.now c.args.filter.now)
          (λ (e : NewMethod). place_of_method c.args.class.now e.0) c.args.class.now.methods c.args.new.now
          c.args.outs.now c.loop-index.index c.loop-index.count c.loop-index.invariant.left done;
      count = λ e. counted_all c.args.class.now.methods c.args.new.now c.loop-index.index c.loop-index.count _ done
          c.loop-index.invariant.counted;
    }

pub returns-then-not-is_same_method-clause-found : goal.returns-then-not-is_same_method-clause-found
returns-then-not-is_same_method-clause-found c =
    let method = c.index-method.result.now in
    let named = sym c.in-Some.ensures ∙ ap Some c.in-Some-given.is in
    subst (λ (place : Place). FirstUnlike (IsSameMethod c.args.names.now c.args.filter.now)
    (λ (e : NewMethod). place_of_method c.args.class.now e.0)
    (filter_map with_name (zip c.args.class.now.methods c.args.new.now)) c.args.outs.now (Some place))
    (sym c.in_ok-method_place.ensures)
    (found_unlike (IsSameMethod c.args.names.now c.args.filter.now) (λ (e : NewMethod). place_of_method c.args.class.now
    e.0) c.args.class.now.methods c.args.new.now c.args.outs.now c.loop-index.index c.loop-index.count
    c.loop-index.invariant.left method c.in-Some-given.name c.index-method.ensures named
    (λ out there same. let yes : c.is_same_method.result ≡ true =
    c.is_same_method.ensures.1 (out, c.get-in-Some-given.ensures ∙ there, same) in
    let clash : true ≡ false = sym yes ∙ c.if-not-is_same_method.true in cc))

pub loop-index-preserved : goal.loop-index-preserved
loop-index-preserved c =
    let method = c.index-method.result.now in
    elim c.match-given.branch [
      | in-Some-given+else-not-is_same_method w ↦
          let named = sym c.in-Some.ensures ∙ ap Some w.in-Some-given.is in
          let same = w.is_same_method.ensures.0 w.if-not-is_same_method.false in
          record {
            left = subst (λ (k : ℕ). FoundBehind (IsSameMethod c.args.names.now c.args.filter.now)
                (λ (e : NewMethod). place_of_method c.args.class.now e.0) c.args.class.now.methods c.args.new.now
                c.args.outs.now (c.loop-index.index + 1) k) (sym w.count-is)
                (found_alike (IsSameMethod c.args.names.now c.args.filter.now)
                (λ (e : NewMethod). place_of_method c.args.class.now e.0) c.args.class.now.methods c.args.new.now
                c.args.outs.now c.loop-index.index c.loop-index.count c.loop-index.invariant.left
                method w.in-Some-given.name same.0 c.index-method.ensures named
                (sym w.get-in-Some-given.ensures ∙ same.1) same.2);
            counted = subst (λ (k : ℕ). k + length (named_from c.args.class.now.methods c.args.new.now
                (c.loop-index.index + 1))
                ≡ length (filter_map with_name (zip c.args.class.now.methods c.args.new.now))) (sym w.count-is)
                (counted_here c.args.class.now.methods c.args.new.now c.loop-index.index c.loop-index.count _ method
                w.in-Some-given.name c.index-method.ensures named c.loop-index.invariant.counted);
            few = omega (arith, w.count-is, c.loop-index.invariant.few);
          }
      | in_default-given w ↦
          let unnamed = sym c.in-Some.ensures ∙ ap Some w.in_default-given.is in
          record {
            left = subst (λ (k : ℕ). FoundBehind (IsSameMethod c.args.names.now c.args.filter.now)
                (λ (e : NewMethod). place_of_method c.args.class.now e.0) c.args.class.now.methods c.args.new.now
                c.args.outs.now (c.loop-index.index + 1) k) (sym w.count-is)
                (found_unnamed (IsSameMethod c.args.names.now c.args.filter.now)
                (λ (e : NewMethod). place_of_method c.args.class.now e.0) c.args.class.now.methods c.args.new.now
                c.args.outs.now c.loop-index.index c.loop-index.count c.loop-index.invariant.left
                method c.index-method.ensures unnamed);
            counted = subst (λ (k : ℕ). k + length (named_from c.args.class.now.methods c.args.new.now
                (c.loop-index.index + 1))
                ≡ length (filter_map with_name (zip c.args.class.now.methods c.args.new.now))) (sym w.count-is)
                (counted_on c.args.class.now.methods c.args.new.now c.loop-index.index c.loop-index.count _ method
                c.index-method.ensures unnamed c.loop-index.invariant.counted);
            few = omega (arith, w.count-is, c.loop-index.invariant.few);
          }
    ]

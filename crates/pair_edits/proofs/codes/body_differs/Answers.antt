-- Answers of `body_differs`: what its calls ask for, and what it promises.
use Rattle.std.proofs.Common.{◌≡◌, ◌+◌, ℕ, true, false, Some, map, sym, ap, subst, ◌∙◌, arith}
use Rattle.std.proofs.lemmas.List.{length-map}
use Rattle.std.specs.List.{filter_map, zip}
use Rattle.jv_base.proofs.Lists.{all_at, got_mapped}
use Rattle.jv_base.proofs.Options.{some_there}
use Rattle.pair_edits.specs.Entries.{edited_method}
use Rattle.pair_edits.specs.Sound.{HasSoundCode}
use Rattle.pair_clauses.specs.Codes.{IsSameBody}
use Rattle.pair_clauses.specs.Finding.{FirstUnlike}
use Rattle.pair_clauses.specs.Members.{NewMethod, with_name}
use Rattle.pair_clauses.specs.Places.{place_of_method}
use Rattle.pair_clauses.specs.declared.place.Place.{Place}
use Rattle.pair_clauses.proofs.Unlike.{FoundBehind, found_alike, found_none, found_unlike, found_unnamed, named_done}
use Rattle.pair_clauses.proofs.Unlike.{named_ends, none_there}
use Rattle.pair_edits.proofs.codes.body_differs.Goals as goal
use Rattle.pair_edits.proofs.codes.body_differs.Goals.{then-is_some+in_ok-same+else-not-same, else-is_some}

pub returns-in_default : goal.returns-in_default
returns-in_default c =
    let edit = edited_method c.args.entries.now c.args.class.now in
    found_none (IsSameBody c.args.names.now c.args.filter.now)
    (λ (e : NewMethod). place_of_method c.args.class.now e.0) (map edit c.args.class.now.methods) c.args.new.now c.args.outs.now
    c.loop-index.index c.loop-index.count c.loop-index.invariant.left
    (named_ends (map edit c.args.class.now.methods) c.args.new.now c.loop-index.index (sym c.in_default.ensures))

pub returns : goal.returns
returns c =
    let edit = edited_method c.args.entries.now c.args.class.now in
    found_none (IsSameBody c.args.names.now c.args.filter.now)
    (λ (e : NewMethod). place_of_method c.args.class.now e.0) (map edit c.args.class.now.methods) c.args.new.now c.args.outs.now
    c.loop-index.index c.loop-index.count c.loop-index.invariant.left
    (named_done (map edit c.args.class.now.methods) c.args.new.now c.loop-index.index
    (let long = length-map c.args.class.now.methods edit in omega (arith, long)))

pub returns-then-not-same : goal.returns-then-not-same
returns-then-not-same c =
    let edit = edited_method c.args.entries.now c.args.class.now in
    let method = c.index-method.result.now in
    let there = got_mapped edit c.args.class.now.methods c.loop-index.index method c.index-method.ensures in
    let some = some_there c.in-Some.given.now (sym c.is_some.ensures ∙ c.if-is_some.true) in
    let named = sym c.in-Some.ensures ∙ ap Some some.1 in
    subst (λ (place : Place). FirstUnlike (IsSameBody c.args.names.now c.args.filter.now)
    (λ (e : NewMethod). place_of_method c.args.class.now e.0)
    (filter_map with_name (zip (map edit c.args.class.now.methods) c.args.new.now)) c.args.outs.now (Some place))
    (sym c.in_ok-place.ensures)
    (found_unlike (IsSameBody c.args.names.now c.args.filter.now) (λ (e : NewMethod). place_of_method c.args.class.now
    e.0) (map edit c.args.class.now.methods) c.args.new.now c.args.outs.now c.loop-index.index c.loop-index.count
    c.loop-index.invariant.left (edit method) some.0 there named
    (λ out is same. let yes : c.in_ok-same.same ≡ true =
    c.in_ok-same.ensures.1 (out, c.get-then-is_some.ensures ∙ is, same) in
    let clash : true ≡ false = sym yes ∙ c.if-not-same.true in cc))

pub loop-index-preserved : goal.loop-index-preserved
loop-index-preserved c =
    let edit = edited_method c.args.entries.now c.args.class.now in
    let method = c.index-method.result.now in
    let there = got_mapped edit c.args.class.now.methods c.loop-index.index method c.index-method.ensures in
    elim c.if-is_some.branch [
      | then-is_some+in_ok-same+else-not-same w ↦
          let some = some_there c.in-Some.given.now (sym c.is_some.ensures ∙ w.if-is_some.true) in
          let named = sym c.in-Some.ensures ∙ ap Some some.1 in
          let same = w.in_ok-same.ensures.0 w.if-not-same.false in
          record {
            left = subst (λ (k : ℕ). FoundBehind (IsSameBody c.args.names.now c.args.filter.now)
                (λ (e : NewMethod). place_of_method c.args.class.now e.0) (map edit c.args.class.now.methods) c.args.new.now
                c.args.outs.now (c.loop-index.index + 1) k) (sym w.count-is)
                (found_alike (IsSameBody c.args.names.now c.args.filter.now)
                (λ (e : NewMethod). place_of_method c.args.class.now e.0) (map edit c.args.class.now.methods) c.args.new.now
                c.args.outs.now c.loop-index.index c.loop-index.count c.loop-index.invariant.left
                (edit method) some.0 same.0 there named (sym w.get-then-is_some.ensures ∙ same.1) same.2);
            few = omega (arith, w.count-is, c.loop-index.invariant.few);
          }
      | else-is_some w ↦
          let unnamed = sym c.in-Some.ensures
          ∙ ap Some (none_there c.in-Some.given.now (sym c.is_some.ensures ∙ w.if-is_some.false)) in
          record {
            left = subst (λ (k : ℕ). FoundBehind (IsSameBody c.args.names.now c.args.filter.now)
                (λ (e : NewMethod). place_of_method c.args.class.now e.0) (map edit c.args.class.now.methods) c.args.new.now
                c.args.outs.now (c.loop-index.index + 1) k) (sym w.count-is)
                (found_unnamed (IsSameBody c.args.names.now c.args.filter.now)
                (λ (e : NewMethod). place_of_method c.args.class.now e.0) (map edit c.args.class.now.methods) c.args.new.now
                c.args.outs.now c.loop-index.index c.loop-index.count c.loop-index.invariant.left
                (edit method) there unnamed);
            few = omega (arith, w.count-is, c.loop-index.invariant.few);
          }
    ]

pub is_same_body-requires : goal.is_same_body-requires
is_same_body-requires c = record {
  sound = all_at HasSoundCode c.args.class.now.methods c.loop-index.index c.index-method.result.now
      c.requires.sound c.index-method.ensures;
}

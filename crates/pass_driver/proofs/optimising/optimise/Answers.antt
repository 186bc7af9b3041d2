-- Answers of `optimise`: what its calls ask for, and what it promises.
use Rattle.std.proofs.Common.{rules, ◌≡◌, [], List, ap, length, refl, subst, sym, ◌∙◌, arith}
use Rattle.std.specs.List.{AllByRecursion}
use Rattle.std.specs.Vec.Iter.{into_iter_items}
use Rattle.std.proofs.lemmas.List.{nil_from_length}
use Rattle.pass_driver.specs.Optimised.{as_it_is, spots}
use Rattle.pass_driver.specs.bodies.Parts.{ArePartsDone}
use Rattle.pass_driver.specs.bodies.Spotted.{IsSpot}
use Rattle.pass_driver.specs.declared.optimising.Optimised.{Optimised}
use Rattle.pass_driver.specs.declared.spots.Spot.{Spot}
use Rattle.pass_driver.proofs.Parting.{IsJoining, joins_all, joins_few, joins_more, joins_none}
use Rattle.pass_driver.proofs.Spotting.{all_spotted}
use Rattle.pass_driver.proofs.optimising.optimise.Goals as goal

pub optimise_parts-requires-clause-there : goal.optimise_parts-requires-clause-there
optimise_parts-requires-clause-there g c κs within =
    subst (λ (l : List Spot). AllByRecursion (IsSpot c.args.set.now) l)
    (sym (c.as_slice-2.ensures ∙ c.in_ok-spots.ensures)) (all_spotted c.as_slice.result.now c.args.set.now)

pub loop-part-init : goal.loop-part-init
loop-part-init g c =
    let set = c.args.set.now in
    let all = spots c.args.marked.now set in
    let are = c.as_slice-2.ensures ∙ c.in_ok-spots.ensures
    ∙ ap (λ marks. spots marks set) (c.as_slice.ensures ∙ c.marks.ensures) in
    let parts = c.in_ok-parts.parts.items in
    let given : into_iter_items c.into_iter-part-iterator.result ≡ parts = c.into_iter-part-iterator.ensures.into_iter_gives.0 in
    record {
      joining =
          subst (λ (o : Optimised). IsJoining set all o (into_iter_items c.into_iter-part-iterator.result))
          (sym c.new-optimised.ensures)
          (subst (λ (l : List Optimised). IsJoining set all as_it_is l) (sym given)
          (joins_none set all as_it_is parts (refl, refl, refl)
          (subst (λ (l : List Spot). ArePartsDone set l parts) are c.in_ok-parts.ensures)));
      counted = search rules;
    }

pub put_part-requires : goal.put_part-requires
put_part-requires g c =
    let o = c.loop-part.optimised in
    let all = spots c.args.marked.now c.args.set.now in
    let rest : List Optimised = into_iter_items c.next.new.self in
    let before = subst (λ (l : List Optimised). IsJoining c.args.set.now all o l) c.in-Some.ensures.steps.0
    c.loop-part.invariant.joining in
    let few = joins_few c.args.set.now all o c.in-Some.part rest before in
    let same = ap (λ (l : List Spot). length l)
    (c.in_ok-spots.ensures ∙ ap (λ marks. spots marks c.args.set.now) (c.as_slice.ensures ∙ c.marks.ensures)) in
    omega (arith, few, same, c.len.ensures)

pub loop-part-preserved : goal.loop-part-preserved
loop-part-preserved g c =
    let o = c.loop-part.optimised in
    let all = spots c.args.marked.now c.args.set.now in
    let rest : List Optimised = into_iter_items c.next.new.self in
    let before = subst (λ (l : List Optimised). IsJoining c.args.set.now all o l) c.in-Some.ensures.steps.0
    c.loop-part.invariant.joining in
    let h = c.in_ok-optimised.ensures in
    record {
      joining =
          joins_more c.args.set.now all o c.in-Some.part rest before c.in_ok-optimised.optimised h.codes h.entries
          h.fallback;
      counted = omega (
        arith,
        c.in-Some.ensures.steps.1,
        c.loop-part.invariant.counted,
        ap length c.in-Some.ensures.steps.0,
      );
    }

pub returns : goal.returns
returns g c =
    let set = c.args.set.now in
    let all = spots c.args.marked.now set in
    let o = c.loop-part.optimised in
    let left : List Optimised = into_iter_items c.loop-part.part-iterator in
    let none : left ≡ [] = nil_from_length left (sym c.loop-part.invariant.counted ∙ c.in-None.ensures.steps.0) in
    joins_all set all o (subst (λ (l : List Optimised). IsJoining set all o l) none c.loop-part.invariant.joining)

-- Answers of `Wants::keep`: what its calls ask for, and what it promises.
use Rattle.std.proofs.Common.{rules, ◌≡◌, ap, drop, subst, sym, ◌∙◌}
use Rattle.require_sys.specs.Requires.{numbers}
use Rattle.item_needs.specs.bodies.Known.{IsBehind, ref_wants}
use Rattle.item_numbers.specs.bodies.Wanting.{Wanted}
use Rattle.item_needs.proofs.Remembering.{row_put}
use Rattle.item_needs.proofs.Stamping.{rows_put}
use Rattle.item_needs.proofs.wants.Wants.keep.Goals as goal

pub invariant_of-self : goal.invariant_of-self
invariant_of-self c =
    let inside = c.self.inside in
    let same : c.in_ok-reference.reference ≡ c.args.r.now = search rules in
    rows_put inside.numbered.now.set.now inside.texts.items inside.rows.items inside.stamps.items inside.stamp
    inside.numbers.items c.self.invariant c.ref_place-place.result c.args.start _
    (c.in_ok-numbers.ensures ∙ ap (drop c.args.start) c.as_slice.ensures.value)
    (row_put inside.numbered.now.set.now inside.rows.items c.ref_place-place.result c.args.start
    c.args.from c.args.kind c.args.r.now c.in_ok-reference.reference
    inside.numbers.items c.as_slice.result.now c.in_ok-numbers.numbers c.self.invariant.of_rows
    (subst (λ (w : Wanted). IsBehind c.args.start w.numbers
    (numbers w.classes (ref_wants w.classes c.args.from c.args.kind c.args.r.now)))
    (sym c.self.view_is) c.requires)
    c.as_slice.ensures.value c.in_ok-numbers.ensures same)

pub invariant_of-self-then-place-len-2 : goal.invariant_of-self-then-place-len-2
invariant_of-self-then-place-len-2 c =
    let inside = c.self.inside in
    let same : c.in_ok-reference.reference ≡ c.args.r.now = search rules in
    rows_put inside.numbered.now.set.now inside.texts.items inside.rows.items inside.stamps.items inside.stamp
    inside.numbers.items c.self.invariant c.ref_place-place.result c.args.start _
    (c.in_ok-numbers.ensures ∙ ap (drop c.args.start) c.as_slice.ensures.value)
    (row_put inside.numbered.now.set.now inside.rows.items c.ref_place-place.result c.args.start
    c.args.from c.args.kind c.args.r.now c.in_ok-reference.reference
    inside.numbers.items c.as_slice.result.now c.in_ok-numbers.numbers c.self.invariant.of_rows
    (subst (λ (w : Wanted). IsBehind c.args.start w.numbers
    (numbers w.classes (ref_wants w.classes c.args.from c.args.kind c.args.r.now)))
    (sym c.self.view_is) c.requires)
    c.as_slice.ensures.value c.in_ok-numbers.ensures same)

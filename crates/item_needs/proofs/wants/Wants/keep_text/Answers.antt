-- Answers of `Wants::keep_text`: what its calls ask for, and what it promises.
use Rattle.std.proofs.Common.{rules, ◌≡◌, subst, sym}
use Rattle.require_sys.specs.Requires.{numbers}
use Rattle.item_needs.specs.bodies.Known.{IsBehind, text_wants}
use Rattle.item_numbers.specs.bodies.Wanting.{Wanted}
use Rattle.item_needs.proofs.Remembering.{text_put}
use Rattle.item_needs.proofs.Stamping.{texts_put}
use Rattle.item_needs.proofs.wants.Wants.keep_text.Goals as goal

pub invariant_of-self : goal.invariant_of-self
invariant_of-self c =
    let inside = c.self.inside in
    let same : c.in_ok-text.text ≡ c.args.text.now = search rules in
    texts_put inside.numbered.now.set.now inside.texts.items inside.rows.items inside.stamps.items inside.stamp
    inside.numbers.items c.self.invariant _
    (text_put inside.numbered.now.set.now inside.texts.items c.text_place-place.result c.args.start
    c.args.kind c.args.text.now c.in_ok-text.text
    inside.numbers.items c.as_slice.result.now c.in_ok-numbers.numbers c.self.invariant.of_texts
    (subst (λ (w : Wanted). IsBehind c.args.start w.numbers
    (numbers w.classes (text_wants w.classes c.args.kind c.args.text.now)))
    (sym c.self.view_is) c.requires)
    c.as_slice.ensures.value c.in_ok-numbers.ensures same)

pub invariant_of-self-then-place-len-2 : goal.invariant_of-self-then-place-len-2
invariant_of-self-then-place-len-2 c =
    let inside = c.self.inside in
    let same : c.in_ok-text.text ≡ c.args.text.now = search rules in
    texts_put inside.numbered.now.set.now inside.texts.items inside.rows.items inside.stamps.items inside.stamp
    inside.numbers.items c.self.invariant _
    (text_put inside.numbered.now.set.now inside.texts.items c.text_place-place.result c.args.start
    c.args.kind c.args.text.now c.in_ok-text.text
    inside.numbers.items c.as_slice.result.now c.in_ok-numbers.numbers c.self.invariant.of_texts
    (subst (λ (w : Wanted). IsBehind c.args.start w.numbers
    (numbers w.classes (text_wants w.classes c.args.kind c.args.text.now)))
    (sym c.self.view_is) c.requires)
    c.as_slice.ensures.value c.in_ok-numbers.ensures same)

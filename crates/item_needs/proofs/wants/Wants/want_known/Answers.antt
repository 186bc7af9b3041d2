-- Answers of `Wants::want_known`: what its calls ask for, and what it promises.
use Rattle.std.proofs.Common.{List, ℕ, Option, Some, ap, slice_get, subst, sym, ◌∙◌, ◌++◌}
use Rattle.std.specs.Prelude.{◌≡◌}
use Rattle.require_sys.specs.Requires.{numbers}
use Rattle.item_needs.specs.bodies.Known.{Remembers, ref_wants}
use Rattle.item_numbers.specs.bodies.Wanting.{HasSame, Wanted, has, wanting}
use Rattle.item_needs.specs.declared.known.Row.{Row}
use Rattle.item_needs.proofs.Remembering.{found_row}
use Rattle.item_needs.proofs.SharedFrames.{same_is}
use Rattle.item_needs.proofs.Stamping.{already_wanted, stamp_put}
use Rattle.item_needs.proofs.wants.Wants.want_known.Goals as goal

pub returns-then-is_stamped-clause-known : goal.returns-then-is_stamped-clause-known
returns-then-is_stamped-clause-known c said =
    let inside = c.self.inside in
    let set = inside.numbered.now.set.now in
    let place = c.ref_place-place.result in
    let known = subst (λ (rows : List (Option Row)). slice_get rows place ≡ Some (Some c.in-Some.row.now))
    c.as_slice.ensures.value c.in-Some.ensures.at in
    let stamped = subst (λ (stamps : List ℕ). slice_get stamps place ≡ Some inside.stamp)
    c.as_slice-in-Some.ensures.value (c.is_stamped.ensures c.if-is_stamped.true) in
    let row = found_row set inside.rows.items place c.args.from c.args.kind c.args.r.now c.in-Some.row.now
    c.self.invariant.of_rows known c.in-Some.ensures.is in
    subst (λ (w : Wanted). HasSame w (wanting w (ref_wants w.classes c.args.from c.args.kind c.args.r.now)))
    c.self.view_is
    (already_wanted (record { classes = set; numbers = inside.numbers.items })
    (ref_wants set c.args.from c.args.kind c.args.r.now)
    (λ x h. c.self.invariant.there place c.in-Some.row.now stamped known x (ap (has x) row ∙ h)))

pub invariant_of-self-in-Some : goal.invariant_of-self-in-Some
invariant_of-self-in-Some c =
    let inside = c.self.inside in
    let place = c.ref_place-place.result in
    subst (λ (stamps : List ℕ). Remembers inside.numbered.now.set.now inside.texts.items inside.rows.items stamps
    inside.stamp c.extend_from_slice.new.self.items) (sym c.put_stamp.ensures)
    (stamp_put inside.numbered.now.set.now inside.texts.items inside.rows.items inside.stamps.items inside.stamp
    inside.numbers.items c.self.invariant place c.in-Some.row.now c.extend_from_slice.new.self.items
    (subst (λ (rows : List (Option Row)). slice_get rows place ≡ Some (Some c.in-Some.row.now))
    c.as_slice.ensures.value c.in-Some.ensures.at)
    (c.in_ok-extend_from_slice-in-Some.ensures.items
    ∙ ap (λ (t : List ℕ). inside.numbers.items ++ t) c.as_slice-in-Some-2.ensures))

pub returns-in_ok-extend_from_slice-in-Some-clause-known :
    goal.returns-in_ok-extend_from_slice-in-Some-clause-known
returns-in_ok-extend_from_slice-in-Some-clause-known c said =
    let inside = c.self.inside in
    let set = inside.numbered.now.set.now in
    let place = c.ref_place-place.result in
    let row = found_row set inside.rows.items place c.args.from c.args.kind c.args.r.now c.in-Some.row.now
    c.self.invariant.of_rows
    (subst (λ (rows : List (Option Row)). slice_get rows place ≡ Some (Some c.in-Some.row.now))
    c.as_slice.ensures.value c.in-Some.ensures.at) c.in-Some.ensures.is in
    let more : c.extend_from_slice.new.self.items
    ≡ inside.numbers.items ++ numbers set (ref_wants set c.args.from c.args.kind c.args.r.now) =
    c.in_ok-extend_from_slice-in-Some.ensures.items
    ∙ ap (λ (t : List ℕ). inside.numbers.items ++ t) (c.as_slice-in-Some-2.ensures ∙ row) in
    same_is _ _ ((λ i. record { classes = set; numbers = more i })
    ∙ ap (λ (w : Wanted). wanting w (ref_wants w.classes c.args.from c.args.kind c.args.r.now)) c.self.view_is)

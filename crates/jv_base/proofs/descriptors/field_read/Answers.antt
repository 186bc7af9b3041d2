-- Answers of `field_read`: what its calls ask for, and what it promises.
use Rattle.std.proofs.Common.{◌≡◌, ℕ, ◌+◌, ◌<◌, ◌≤◌, List, length, get_or, Some, None, ap, sym, ◌∙◌, arith}
use Rattle.jv_base.specs.bodies.DescriptorPlaces.{field_at, field_read_at}
use Rattle.jv_base.specs.Descriptors.{bad_descriptor, field_byte, field_end, read_field}
use Rattle.jv_base.specs.Walk.{or_fault}
use Rattle.jv_base.proofs.Walking.{goes_on, stops, is_done}
use Rattle.jv_base.proofs.descriptors.field_read.Goals as goal

pub returns-in_default : goal.returns-in_default
unfolding read_field
returns-in_default c =
    let text = c.args.text.now in
    let at = c.loop-at.at in
    let size = c.as_bytes-byte-items.ensures.len in
    let test = c.loop-at-test.true in
    let within : at < length text = omega arith in
    let same : get_or text at 0
    ≡ get_or c.as_bytes-byte-items.result.now at 0 = ap (λ (xs : List ℕ). get_or xs at 0)
    (sym c.as_bytes-byte-items.ensures.value) in
    let s = field_at text at c.loop-at.read in
    let none : field_byte s (get_or text at 0) ≡ None = ap (field_byte s) same ∙ sym c.in_ok-next.ensures.read
    ∙ ap (field_read_at text (at + 1)) c.in_default.is in
    rw c.bad_descriptor.ensures
    (ap bad_descriptor (stops field_byte field_end text at s _ within none c.loop-at.invariant.same))

pub loop-at-preserved : goal.loop-at-preserved
loop-at-preserved c =
    let text = c.args.text.now in
    let at = c.loop-at.at in
    let size = c.as_bytes-byte-items.ensures.len in
    let test = c.loop-at-test.true in
    let within : at < length text = omega arith in
    let same : get_or text at 0
    ≡ get_or c.as_bytes-byte-items.result.now at 0 = ap (λ (xs : List ℕ). get_or xs at 0)
    (sym c.as_bytes-byte-items.ensures.value) in
    let s = field_at text at c.loop-at.read in
    let t = field_at text (at + 1) c.in-Some.next in
    let some : field_byte s (get_or text at 0) ≡ Some t = ap (field_byte s) same ∙ sym c.in_ok-next.ensures.read
    ∙ ap (field_read_at text (at + 1)) c.in-Some.is in
    let placed = rw c.in-Some.is at c.in_ok-next.ensures.placed in
    record { placed = placed; same = goes_on field_byte field_end text at s t _ within some c.loop-at.invariant.same }

pub returns-in-Whole : goal.returns-in-Whole
unfolding read_field
returns-in-Whole c =
    let text = c.args.text.now in
    let at = c.loop-at.at in
    let size = c.as_bytes-byte-items.ensures.len in
    let test = c.loop-at-test.false in
    let least : length text ≤ at = omega arith in
    let counted = c.loop-at.auto.at-end in
    let most : at ≤ length text = omega arith in
    let s = field_at text at c.loop-at.read in
    let end : field_end s ≡ Some c.in-Whole.ty = ap (λ r. field_end (field_at text at r)) c.in-Whole.is in
    ap bad_descriptor (is_done field_byte field_end text at s _ most least c.loop-at.invariant.same
    ∙ ap (or_fault (length text)) end)

pub returns-in-Begun : goal.returns-in-Begun
unfolding read_field
returns-in-Begun c =
    let text = c.args.text.now in
    let at = c.loop-at.at in
    let size = c.as_bytes-byte-items.ensures.len in
    let test = c.loop-at-test.false in
    let least : length text ≤ at = omega arith in
    let counted = c.loop-at.auto.at-end in
    let most : at ≤ length text = omega arith in
    let s = field_at text at c.loop-at.read in
    let end : field_end s ≡ None = ap (λ r. field_end (field_at text at r)) c.in-Begun.is in
    rw c.bad_descriptor-in-Begun.ensures
    (ap bad_descriptor (is_done field_byte field_end text at s _ most least c.loop-at.invariant.same
    ∙ ap (or_fault (length text)) end))

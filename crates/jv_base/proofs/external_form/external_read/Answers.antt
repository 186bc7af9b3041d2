-- Answers of `external_read`: what its calls ask for, and what it promises.
use Rattle.std.proofs.Common.{◌≡◌, ℕ, ◌+◌, ◌<◌, ◌≤◌, List, length, get_or, Some, None, ap, sym, ◌∙◌, arith}
use Rattle.jv_base.specs.Descriptors.{bad_descriptor}
use Rattle.jv_base.specs.External.{external_byte, external_end, read_external}
use Rattle.jv_base.specs.bodies.External.{external_at, external_next_at}
use Rattle.jv_base.specs.Walk.{or_fault}
use Rattle.jv_base.proofs.Walking.{goes_on, stops, is_done}
use Rattle.jv_base.proofs.external_form.external_read.Goals as goal

pub returns-in_default : goal.returns-in_default
unfolding read_external
returns-in_default c =
    let text = c.args.text.now in
    let at = c.loop-at.at in
    let size = c.as_bytes-byte-items.ensures.len in
    let test = c.loop-at-test.true in
    let within : at < length text = omega arith in
    let same : get_or text at 0
    ≡ get_or c.as_bytes-byte-items.result.now at 0 = ap (λ (xs : List ℕ). get_or xs at 0)
    (sym c.as_bytes-byte-items.ensures.value) in
    let s = external_at text at c.loop-at.read in
    let none : external_byte s (get_or text at 0) ≡ None = ap (external_byte s) same ∙ sym c.in_ok-next.ensures.read
    ∙ ap (external_next_at text (at + 1)) c.in_default.is in
    rw c.bad_descriptor.ensures
    (ap bad_descriptor (stops external_byte external_end text at s _ within none c.loop-at.invariant.same))

pub loop-at-preserved : goal.loop-at-preserved
loop-at-preserved c =
    let text = c.args.text.now in
    let at = c.loop-at.at in
    let size = c.as_bytes-byte-items.ensures.len in
    let test = c.loop-at-test.true in
    let within : at < length text = omega arith in
    let same : get_or text at 0
    ≡ get_or c.as_bytes-byte-items.result.now at 0 = ap (λ (xs : List ℕ). get_or xs at 0)
    (sym c.as_bytes-byte-items.ensures.value) in
    let s = external_at text at c.loop-at.read in
    let t = external_at text (at + 1) c.in-Some.next in
    let some : external_byte s (get_or text at 0) ≡ Some t = ap (external_byte s) same ∙ sym c.in_ok-next.ensures.read
    ∙ ap (external_next_at text (at + 1)) c.in-Some.is in
    let room = rw c.in-Some.is at c.in_ok-next.ensures.room in
    record { room = room; same = goes_on external_byte external_end text at s t _ within some c.loop-at.invariant.same }

pub returns-in_default-2 : goal.returns-in_default-2
unfolding read_external
returns-in_default-2 c =
    let text = c.args.text.now in
    let at = c.loop-at.at in
    let size = c.as_bytes-byte-items.ensures.len in
    let test = c.loop-at-test.false in
    let least : length text ≤ at = omega arith in
    let counted = c.loop-at.auto.at-end in
    let most : at ≤ length text = omega arith in
    let here : at ≡ length text = omega arith in
    let s = external_at text at c.loop-at.read in
    let end : external_end s ≡ None = ap (λ (n : ℕ). external_end (external_at text n c.loop-at.read)) here
    ∙ sym c.in_ok-ty.ensures ∙ c.in_default-2.is in
    rw c.bad_descriptor-in_default-2.ensures
    (ap bad_descriptor (is_done external_byte external_end text at s _ most least c.loop-at.invariant.same
    ∙ ap (or_fault (length text)) end))

pub returns : goal.returns
unfolding read_external
returns c =
    let text = c.args.text.now in
    let at = c.loop-at.at in
    let size = c.as_bytes-byte-items.ensures.len in
    let test = c.loop-at-test.false in
    let least : length text ≤ at = omega arith in
    let counted = c.loop-at.auto.at-end in
    let most : at ≤ length text = omega arith in
    let here : at ≡ length text = omega arith in
    let s = external_at text at c.loop-at.read in
    let end : external_end s
    ≡ Some c.in-Some-2.ty = ap (λ (n : ℕ). external_end (external_at text n c.loop-at.read)) here
    ∙ sym c.in_ok-ty.ensures ∙ c.in-Some-2.is in
    ap bad_descriptor (is_done external_byte external_end text at s _ most least c.loop-at.invariant.same
    ∙ ap (or_fault (length text)) end)

-- Answers of `method_read`: what its calls ask for, and what it promises.
use Rattle.std.proofs.Common.{◌≡◌, Option, refl, ℕ, ◌+◌, ◌<◌, ◌≤◌, List, length, get_or, Some, None, ap, sym, ◌∙◌}
use Rattle.std.proofs.Common.{arith}
use Rattle.jv_base.specs.bodies.DescriptorPlaces.{method_next_at, method_read_at, part_at}
use Rattle.jv_base.specs.declared.types.FieldType.{FieldType}
use Rattle.jv_base.specs.declared.descriptors.MethodPart.{MethodPart}
use Rattle.jv_base.specs.declared.descriptors.MethodPart.TheVariants.{Before, Parameter, Returned, Behind}
use Rattle.jv_base.specs.Descriptors.{bad_descriptor, method_byte, method_end, part_end, MethodRead, read_method}
use Rattle.jv_base.specs.Walk.{or_fault, walk}
use Rattle.jv_base.proofs.Walking.{goes_on, stops, is_done}
use Rattle.jv_base.proofs.descriptors.method_read.Goals as goal

-- only behind the result there is an end
not_behind : (text : List ℕ) (at : ℕ) (args : List FieldType) (part : MethodPart)
    → ((ret : Option FieldType) → part ≡ Behind ret → ⊥) → part_end args (part_at text at part) ≡ None
not_behind text at args Before other = refl
not_behind text at args (Parameter begun) other = refl
not_behind text at args (Returned begun) other = refl
not_behind text at args (Behind ret) other = absurd (other ret refl)

pub loop-at-init : goal.loop-at-init
loop-at-init c = let text = c.args.text.now in record {
  placed = c.nothing_read-read.ensures.placed text 0;
  same = ap (λ (s : MethodRead). walk method_byte method_end s 0 text) (c.nothing_read-read.ensures.read text 0);
}

pub returns-in_default : goal.returns-in_default
unfolding read_method
returns-in_default c =
    let text = c.args.text.now in
    let at = c.loop-at.at in
    let size = c.as_bytes-byte-items.ensures.len in
    let test = c.loop-at-test.true in
    let within : at < length text = omega arith in
    let same : get_or text at 0
    ≡ get_or c.as_bytes-byte-items.result.now at 0 = ap (λ (xs : List ℕ). get_or xs at 0)
    (sym c.as_bytes-byte-items.ensures.value) in
    let s = method_read_at text at c.loop-at.read in
    let none : method_byte s (get_or text at 0) ≡ None = ap (method_byte s) same ∙ sym c.in_ok-next.ensures.read
    ∙ ap (method_next_at text (at + 1)) c.in_default.is in
    rw c.bad_descriptor.ensures
    (ap bad_descriptor (stops method_byte method_end text at s _ within none c.loop-at.invariant.same))

pub loop-at-preserved : goal.loop-at-preserved
loop-at-preserved c =
    let text = c.args.text.now in
    let at = c.loop-at.at in
    let size = c.as_bytes-byte-items.ensures.len in
    let test = c.loop-at-test.true in
    let within : at < length text = omega arith in
    let same : get_or text at 0
    ≡ get_or c.as_bytes-byte-items.result.now at 0 = ap (λ (xs : List ℕ). get_or xs at 0)
    (sym c.as_bytes-byte-items.ensures.value) in
    let s = method_read_at text at c.loop-at.read in
    let t = method_read_at text (at + 1) c.in-Some.next in
    let some : method_byte s (get_or text at 0) ≡ Some t = ap (method_byte s) same ∙ sym c.in_ok-next.ensures.read
    ∙ ap (method_next_at text (at + 1)) c.in-Some.is in
    let placed = rw c.in-Some.is at c.in_ok-next.ensures.placed in
    record { placed = placed; same = goes_on method_byte method_end text at s t _ within some c.loop-at.invariant.same }

pub returns-in-Behind : goal.returns-in-Behind
unfolding read_method
returns-in-Behind c =
    let text = c.args.text.now in
    let at = c.loop-at.at in
    let size = c.as_bytes-byte-items.ensures.len in
    let test = c.loop-at-test.false in
    let least : length text ≤ at = omega arith in
    let counted = c.loop-at.auto.at-end in
    let most : at ≤ length text = omega arith in
    let s = method_read_at text at c.loop-at.read in
    let end : method_end s ≡ Some _ = ap (λ p. part_end c.loop-at.read.parameters.types
    (part_at text at p)) c.in-Behind.is in
    ap bad_descriptor (is_done method_byte method_end text at s _ most least c.loop-at.invariant.same
    ∙ ap (or_fault (length text)) end)

pub returns-in_default-part : goal.returns-in_default-part
unfolding read_method
returns-in_default-part c =
    let text = c.args.text.now in
    let at = c.loop-at.at in
    let size = c.as_bytes-byte-items.ensures.len in
    let test = c.loop-at-test.false in
    let least : length text ≤ at = omega arith in
    let counted = c.loop-at.auto.at-end in
    let most : at ≤ length text = omega arith in
    let s = method_read_at text at c.loop-at.read in
    let end : method_end s
    ≡ None = not_behind text at c.loop-at.read.parameters.types c.loop-at.read.part c.in_default-part.not-Behind in
    rw c.bad_descriptor-in_default-part.ensures
    (ap bad_descriptor (is_done method_byte method_end text at s _ most least c.loop-at.invariant.same
    ∙ ap (or_fault (length text)) end))

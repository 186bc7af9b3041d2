-- Answers of `decoded`: what its calls ask for, and what it promises.
use Rattle.std.proofs.Common.{◌≡◌, ℕ, List, ap, sym, ◌∙◌, refl, Some, None}
use Rattle.jv_base.specs.Decoding.{Decoded, decode_byte, decode_end, decoded_on, whole_units, bad_utf8, read_mutf8}
use Rattle.jv_base.specs.Walk.{or_fault}
use Rattle.jv_base.specs.declared.mutf8.Awaited.{Awaited}
use Rattle.jv_base.specs.declared.mutf8.Awaited.TheVariants.{Lead, Zero, Middle, Last}
use Rattle.jv_base.proofs.Walking.{goes_on, stops, is_done}
use Rattle.jv_base.proofs.mutf8.decoded.Goals as goal

-- inside a unit there is no end
inside : (units : List ℕ) (awaited : Awaited) → (awaited ≡ Lead → ⊥) → whole_units units awaited ≡ None
inside units Lead h = absurd (h refl)
inside units Zero h = refl
inside units (Middle bits) h = refl
inside units (Last bits) h = refl

pub returns-in_default : goal.returns-in_default
unfolding read_mutf8
returns-in_default c =
    let d : Decoded = record { units = c.loop-at.units; awaited = c.loop-at.awaited } in
    let none : decode_byte d _ ≡ None = ap (decoded_on c.loop-at.units) (sym c.take.ensures.taken ∙ c.in_default.is) in
    ap bad_utf8
    (stops decode_byte decode_end c.args.bytes.now c.loop-at.at d _ c.loop-at-test.true none c.loop-at.invariant.same)

pub loop-at-preserved : goal.loop-at-preserved
loop-at-preserved c =
    let d : Decoded = record { units = c.loop-at.units; awaited = c.loop-at.awaited } in
    let e : Decoded = record { units = c.keep.new.units; awaited = c.in_ok-awaited.awaited } in
    let some : decode_byte d _ ≡ Some e = ap (decoded_on c.loop-at.units) (sym c.take.ensures.taken ∙ c.in-Some.is)
    ∙ c.in_ok-awaited.ensures.kept in
    record {
      bits = c.in_ok-awaited.ensures.bits;
      same = goes_on decode_byte decode_end c.args.bytes.now c.loop-at.at d
          e _ c.loop-at-test.true some c.loop-at.invariant.same;
    }

pub returns-in-Lead : goal.returns-in-Lead
unfolding read_mutf8
returns-in-Lead c =
    let d : Decoded = record { units = c.loop-at.units; awaited = c.loop-at.awaited } in
    let end : decode_end d ≡ Some c.loop-at.units = ap (whole_units c.loop-at.units) c.in-Lead.is in
    ap bad_utf8
    (is_done decode_byte decode_end c.args.bytes.now c.loop-at.at d _ c.loop-at.auto.at-end c.loop-at-test.false
    c.loop-at.invariant.same ∙ ap (or_fault _) end)

pub returns-in_default-awaited : goal.returns-in_default-awaited
unfolding read_mutf8
returns-in_default-awaited c =
    let d : Decoded = record { units = c.loop-at.units; awaited = c.loop-at.awaited } in
    let end : decode_end d ≡ None = inside c.loop-at.units c.loop-at.awaited c.in_default-awaited.not-Lead in
    ap bad_utf8
    (is_done decode_byte decode_end c.args.bytes.now c.loop-at.at d _ c.loop-at.auto.at-end c.loop-at-test.false
    c.loop-at.invariant.same ∙ ap (or_fault _) end)

-- Attributes are passed over one behind the other, as a loop over their count does.
use Rattle.std.proofs.Common.{◌≡◌, ℕ, suc, ◌-◌, ◌+◌, ◌≤◌, ◌<◌, Result, Ok, Err, refl, sym, ◌∙◌, arith}
use Rattle.jv_base.specs.Place.{Place}
use Rattle.format_reading.specs.declared.fault.FormatFault.{FormatFault}
use Rattle.format_reading.specs.Reader.{bind, give}
use Rattle.class_model.specs.ReadingCodeAttribute.{skipped_attribute}
use Rattle.class_read.specs.bodies.PassedOver.{attributes_passed}

-- what is left behind an attribute
pub goes_on : (count i : ℕ) (p after : Place) (total : Result (Unit {0} × Place) FormatFault) → i < count
    → skipped_attribute p ≡ Ok (tt, after) → attributes_passed (count - i) p ≡ total
    → attributes_passed (count - (i + 1)) after ≡ total
unfolding attributes_passed bind
goes_on count i p after total lt h so_far =
    let k : count - i ≡ suc (count - (i + 1)) = omega arith in
    let one : attributes_passed (count - i) p ≡ attributes_passed (count - (i + 1)) after = rw (k, h) refl in
    sym one ∙ so_far

-- at a fault the whole is that fault
pub ends : (count i : ℕ) (p : Place) (f : FormatFault) (total : Result (Unit {0} × Place) FormatFault) → i < count
    → skipped_attribute p ≡ Err f → attributes_passed (count - i) p ≡ total → total ≡ Err f
unfolding attributes_passed bind
ends count i p f total lt h so_far =
    let k : count - i ≡ suc (count - (i + 1)) = omega arith in
    let one : attributes_passed (count - i) p ≡ Err f = rw (k, h) refl in
    sym so_far ∙ one

-- behind the last one
pub is_done : (count i : ℕ) (p : Place) (total : Result (Unit {0} × Place) FormatFault) → count ≤ i
    → attributes_passed (count - i) p ≡ total → total ≡ Ok (tt, p)
unfolding attributes_passed give
is_done count i p total le so_far =
    let k : count - i ≡ 0 = omega arith in
    let one : attributes_passed (count - i) p ≡ Ok (tt, p) = rw k refl in
    sym so_far ∙ one

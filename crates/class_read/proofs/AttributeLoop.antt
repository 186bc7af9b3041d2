-- Reading attributes one behind the other, as a loop over their count does.
use Rattle.std.proofs.Common.{◌≡◌, ℕ, suc, ◌-◌, ◌+◌, ◌≤◌, ◌<◌, List, Option, Result, Ok, Err, refl, sym, ap, ◌∙◌, arith}
use Rattle.jv_base.specs.Place.{Place}
use Rattle.jv_base.specs.declared.outcome.Or.{Or}
use Rattle.jv_base.specs.declared.outcome.Or.TheVariants.{Fault, OutOfMemory}
use Rattle.format_reading.specs.declared.fault.FormatFault.{FormatFault}
use Rattle.format_reading.specs.Reader.{FormatReader, ReadsOr, bind, give}
use Rattle.class_model.specs.declared.pool.Entry.{Entry}
use Rattle.class_model.specs.ReadingAttributes.{attribute, attributes}

-- which attributes are read, and how
abbrev Known : Type 0 → Type 0
Known S = ℕ → List ℕ → ℕ → S → Option (FormatReader S)

next_is : {S : Type 0} (k : ℕ) (pool : List Entry) (known : Known S) (seen now : S) (p after : Place)
    → attribute pool known seen p ≡ Ok (now, after)
    → attributes (suc k) pool known seen p ≡ attributes k pool known now after
unfolding attributes bind
next_is k pool known seen now p after h = rw h refl

-- what is left behind an attribute that was read
pub goes_on : {S : Type 0} (pool : List Entry) (known : Known S) (count i : ℕ) (seen now : S) (p after : Place)
    (total : Result (S × Place) FormatFault) → i < count → attribute pool known seen p ≡ Ok (now, after)
    → attributes (count - i) pool known seen p ≡ total → attributes (count - (i + 1)) pool known now after ≡ total
goes_on pool known count i seen now p after total lt h so_far =
    let k : count - i ≡ suc (count - (i + 1)) = omega arith in
    sym (ap (λ j. attributes j pool known seen p) k ∙ next_is (count - (i + 1)) pool known seen now p after h) ∙ so_far

-- at a fault the whole is that fault
pub ends : {S : Type 0} (pool : List Entry) (known : Known S) (e : Or FormatFault) (new q : Place) (count i : ℕ)
    (seen : S) (p : Place) (total : Result (S × Place) FormatFault) → i < count
    → ReadsOr {T = S} (Err e) new (attribute pool known seen p) → attributes (count - i) pool known seen p ≡ total
    → ReadsOr {T = S} (Err e) q total
unfolding attributes bind
ends pool known OutOfMemory new q count i seen p total lt h so_far = tt
ends pool known (Fault f) new q count i seen p total lt h so_far =
    let k : count - i ≡ suc (count - (i + 1)) = omega arith in
    let one : attributes (count - i) pool known seen p ≡ Err f = rw (k, h) refl in
    sym so_far ∙ one

-- after the last attribute the whole is what was seen
pub is_done : {S : Type 0} (pool : List Entry) (known : Known S) (count i : ℕ) (seen : S) (p : Place)
    (total : Result (S × Place) FormatFault) → count ≤ i → attributes (count - i) pool known seen p ≡ total
    → total ≡ Ok (seen, p)
unfolding attributes give
is_done pool known count i seen p total le so_far =
    let k : count - i ≡ 0 = omega arith in
    let one : attributes (count - i) pool known seen p ≡ Ok (seen, p) = rw k refl in
    sym so_far ∙ one

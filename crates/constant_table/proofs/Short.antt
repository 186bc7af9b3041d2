-- A text of few units takes few bytes.
use Rattle.std.proofs.Common.{◌≡◌, ℕ, ◌+◌, ◌*◌, ◌/◌, ◌%◌, ◌≤◌, Bool, true, false, cond, List, [], ◌∷◌, length, nat_lt}
use Rattle.std.proofs.Common.{Ok, refl, arith, ◌==◌}
use Rattle.std.proofs.lemmas.Bool.Decides.{nat_tests}
use Rattle.std.proofs.lemmas.List.{length-append}
use Rattle.jv_base.specs.Mutf8.{mutf8, unit_bytes}
use Rattle.class_model.specs.declared.limit.WriteLimit.{WriteLimit}
use Rattle.class_model.specs.WriteLimits.{fits_u2}

by_tests : (zero one two : Bool) (a b c d e f g h i : ℕ)
    → length (cond zero (a ∷ b ∷ []) (cond one (c ∷ []) (cond two (d ∷ e ∷ []) (f ∷ g ∷ h ∷ [])))) ≤ 3
by_tests true one two a b c d e f g h i = omega arith
by_tests false true two a b c d e f g h i = omega arith
by_tests false false true a b c d e f g h i = omega arith
by_tests false false false a b c d e f g h i = omega arith

at_most_three : (unit : ℕ) → length (unit_bytes unit) ≤ 3
unfolding unit_bytes
at_most_three unit = by_tests (unit == 0) (nat_lt unit 0x80) (nat_lt unit 0x800) 0xC0 0x80 unit (0xC0 + unit / 0x40)
    (0x80 + unit % 0x40) (0xE0 + unit / 0x1000) (0x80 + unit / 0x40 % 0x40) (0x80 + unit % 0x40) 0

bytes_at_most : (units : List ℕ) → length (mutf8 units) ≤ 3 * length units
unfolding mutf8
bytes_at_most [] = omega arith
bytes_at_most (u ∷ us) =
    let one = at_most_three u in
    let rest = bytes_at_most us in
    let all = length-append (unit_bytes u) (mutf8 us) in
    omega (arith, one, rest, all)

-- so that they fit
pub short_fits : (limit : ℕ → WriteLimit) (units : List ℕ) → length units ≤ 21845
    → fits_u2 limit (length (mutf8 units)) ≡ Ok tt
short_fits limit units h = by (nat_lt (length (mutf8 units)) 65536) refl
  where
    by : (b : Bool) → nat_lt (length (mutf8 units)) 65536 ≡ b → fits_u2 limit (length (mutf8 units)) ≡ Ok tt
    by true e = rw e refl
    by false e = let most = bytes_at_most units in absurd (grind (arith, nat_tests, e, most, h))

-- Modified UTF-8: what is written is read, and what is read was written so.
use Rattle.std.proofs.Common.{◌≡◌, ℕ, zero, suc, ◌+◌, ◌-◌, ◌/◌, ◌%◌, ◌<◌, ◌≤◌, Bool, true, false, cond, List, [], ◌∷◌}
use Rattle.std.proofs.Common.{◌++◌, length, get_or, take, Option, Some, None, Result, Ok, Err, ◌⊎◌, inl, inr, refl, sym}
use Rattle.std.proofs.Common.{ap, subst, ◌∙◌, append_assoc, arith}
use Rattle.std.proofs.lemmas.List.{take_more, append-nil}
use Rattle.std.proofs.lemmas.List.Concat.{flat_map-append}
use Rattle.std.proofs.lemmas.Bool.Decides.{nat_tests}
use Rattle.std.proofs.lemmas.Bool.{cases_lt, eqb-true}
use Rattle.std.specs.Prelude.{nat_lt, nat_eq}
use Rattle.jv_base.specs.Decoding.{Decoded, SpellsUnits, byte_taken, lead_byte, with_six, is_from_to, decoded_on}
use Rattle.jv_base.specs.Decoding.{decode_byte, decode_end, decode_from, whole_units, bad_utf8, read_mutf8}
use Rattle.jv_base.specs.Longest.{GoesOn, IsLongest}
use Rattle.jv_base.specs.Mutf8.{mutf8, unit_bytes, IsUnits}
use Rattle.jv_base.specs.Walk.{walk, walk_from}
use Rattle.jv_base.specs.declared.mutf8.Awaited.{Awaited}
use Rattle.jv_base.specs.declared.mutf8.Awaited.TheVariants.{Lead, Zero, Middle, Last}
use Rattle.jv_base.specs.declared.mutf8.Taken.{Taken}
use Rattle.jv_base.specs.declared.mutf8.Taken.TheVariants.{Whole, Part}
use Rattle.jv_base.specs.declared.mutf8.BadUtf8.{BadUtf8}
use Rattle.jv_base.proofs.WalkLaw.{goes_on_before, nothing_more, walk_found, walk_longest}

pub mutf8-append : (xs ys : List ℕ) → mutf8 (xs ++ ys) ≡ mutf8 xs ++ mutf8 ys
unfolding mutf8
mutf8-append xs ys = flat_map-append unit_bytes xs ys

pub mutf8_push : (xs : List ℕ) (x : ℕ) → mutf8 (xs ++ x ∷ []) ≡ mutf8 xs ++ unit_bytes x
unfolding mutf8
mutf8_push xs x = mutf8-append xs (x ∷ []) ∙ ap (λ (t : List ℕ). mutf8 xs ++ t) (append-nil (unit_bytes x))

pub mutf8_more : (xs : List ℕ) (i : ℕ) → i < length xs
    → mutf8 (take (i + 1) xs) ≡ mutf8 (take i xs) ++ unit_bytes (get_or xs i 0)
mutf8_more xs i lt = ap mutf8 (take_more xs i 0 lt) ∙ mutf8_push (take i xs) (get_or xs i 0)

-- ---- the bytes of a unit

unit_zero : unit_bytes 0 ≡ 0xC0 ∷ 0x80 ∷ []
unfolding unit_bytes
unit_zero = refl

unit_one : (u : ℕ) → 0 < u → u < 128 → unit_bytes u ≡ u ∷ []
unfolding unit_bytes
unit_one u low high = grind (arith, nat_tests)

unit_two : (u : ℕ) → 128 ≤ u → u < 2048 → unit_bytes u ≡ (0xC0 + u / 64) ∷ (0x80 + u % 64) ∷ []
unfolding unit_bytes
unit_two u low high = grind (arith, nat_tests)

unit_three : (u : ℕ) → 2048 ≤ u → unit_bytes u ≡ (0xE0 + u / 4096) ∷ (0x80 + u / 64 % 64) ∷ (0x80 + u % 64) ∷ []
unfolding unit_bytes
unit_three u low = grind (arith, nat_tests)

-- ---- what each byte is

take_one : (b : ℕ) → 1 ≤ b → b ≤ 127 → byte_taken Lead b ≡ Some (Whole b)
unfolding byte_taken
take_one b low high = grind (arith, nat_tests)

take_lead_zero : byte_taken Lead 0xC0 ≡ Some (Part Zero)
unfolding byte_taken
take_lead_zero = refl

take_zero : byte_taken Zero 128 ≡ Some (Whole 0)
unfolding byte_taken
take_zero = refl

take_two : (b : ℕ) → 194 ≤ b → b ≤ 223 → byte_taken Lead b ≡ Some (Part (Last (b - 192)))
unfolding byte_taken
take_two b low high = grind (arith, nat_tests)

take_three : (b : ℕ) → 224 ≤ b → b ≤ 239 → byte_taken Lead b ≡ Some (Part (Middle (b - 224)))
unfolding byte_taken
take_three b low high = grind (arith, nat_tests)

take_middle : (bits b : ℕ) → 128 ≤ b → b ≤ 191 → (bits ≡ 0 → 160 ≤ b)
    → byte_taken (Middle bits) b ≡ Some (Part (Last (with_six bits b)))
unfolding byte_taken
take_middle bits b low high lowest = grind (arith, nat_tests)

take_last : (bits b : ℕ) → 128 ≤ b → b ≤ 191 → byte_taken (Last bits) b ≡ Some (Whole (with_six bits b))
unfolding byte_taken
take_last bits b low high = grind (arith, nat_tests)

-- ---- what the bytes so far are

-- the bytes of the unit that isn't whole
abbrev part : Awaited → List ℕ
part Lead = []
part Zero = 0xC0 ∷ []
part (Middle bits) = (0xE0 + bits) ∷ []
part (Last bits) = cond (nat_lt bits 32) ((0xC0 + bits) ∷ []) ((0xE0 + bits / 64) ∷ (0x80 + bits % 64) ∷ [])

-- the bits that can stand before the awaited byte
abbrev CanStand : Awaited → Type 0
CanStand Lead = Unit {0}
CanStand Zero = Unit {0}
CanStand (Middle bits) = bits < 16
CanStand (Last bits) = (2 ≤ bits) × (bits < 1024)

-- what a byte was fits behind what stands before it
abbrev FitsBehind : Awaited → ℕ → Taken → Type 0
FitsBehind a b (Whole unit) = (unit < 65536) × (unit_bytes unit ≡ part a ++ b ∷ [])
FitsBehind a b (Part next) = CanStand next × (part next ≡ part a ++ b ∷ [])

pub passed : {A : Type 0} (b : Bool) (x y : A) (o : Option A) → cond b (Some x) o ≡ Some y
    → ((b ≡ true) × (x ≡ y)) ⊎ ((b ≡ false) × (o ≡ Some y))
passed true x y o h = inl (refl, cc)
passed false x y o h = inr (refl, h)

from_to : (low high b : ℕ) → is_from_to low high b ≡ true → (low ≤ b) × (b ≤ high)
from_to low high b h = (grind (arith, nat_tests), grind (arith, nat_tests))

part_two : (bits : ℕ) → bits < 32 → part (Last bits) ≡ (0xC0 + bits) ∷ []
part_two bits lt = grind (arith, nat_tests)

part_three : (bits : ℕ) → 32 ≤ bits → part (Last bits) ≡ (0xE0 + bits / 64) ∷ (0x80 + bits % 64) ∷ []
part_three bits le = grind (arith, nat_tests)

two_same : (a b c d : ℕ) → a ≡ c → b ≡ d → a ∷ b ∷ [] ≡ c ∷ d ∷ []
two_same a b c d p q = cc

three_same : (a b c d e f : ℕ) → a ≡ d → b ≡ e → c ≡ f → a ∷ b ∷ c ∷ [] ≡ d ∷ e ∷ f ∷ []
three_same a b c d e f p q r = cc

-- what is left of the table behind its first rows
abbrev after_two : ℕ → Option Taken
after_two b = cond (is_from_to 0xE0 0xEF b) (Some (Part (Middle (b - 0xE0)))) None

abbrev after_zero : ℕ → Option Taken
after_zero b = cond (is_from_to 0xC2 0xDF b) (Some (Part (Last (b - 0xC0)))) (after_two b)

abbrev after_one : ℕ → Option Taken
after_one b = cond (nat_eq b 0xC0) (Some (Part Zero)) (after_zero b)

lead_fits : (b : ℕ) (o : Taken) → lead_byte b ≡ Some o → FitsBehind Lead b o
lead_fits b o h = elim (passed (is_from_to 0x01 0x7F b) (Whole b) o (after_one b) h) [
  | inl p ↦ let r = from_to 1 127 b p.0 in subst (FitsBehind Lead b) p.1
      (omega arith, unit_one b (omega arith) (omega arith))
  | inr p ↦ elim (passed (nat_eq b 0xC0) (Part Zero) o (after_zero b) p.1) [
    | inl q ↦ subst (FitsBehind Lead b) q.1 (tt, let e : b ≡ 192 = eqb-true b 192 q.0 in ap (λ (n : ℕ). n ∷ []) (sym e))
    | inr q ↦ elim (passed (is_from_to 0xC2 0xDF b) (Part (Last (b - 0xC0))) o (after_two b) q.1) [
      | inl r ↦ let s = from_to 194 223 b r.0 in subst (FitsBehind Lead b) r.1
          ((omega arith, omega arith), part_two (b - 192) (omega arith) ∙ ap (λ (n : ℕ). n ∷ []) (omega arith))
      | inr r ↦ elim (passed (is_from_to 0xE0 0xEF b) (Part (Middle (b - 0xE0))) o None r.1) [
        | inl s ↦ let t = from_to 224 239 b s.0 in subst (FitsBehind Lead b) s.1
            (omega arith, ap (λ (n : ℕ). n ∷ []) (omega arith))
        | inr s ↦ absurd cc
      ]
    ]
  ]
]

abbrev lowest : ℕ → ℕ
lowest bits = cond (nat_eq bits 0) 0xA0 0x80

lowest_least : (bits : ℕ) → 128 ≤ lowest bits
lowest_least bits = grind (arith, nat_tests)

lowest_at_zero : (bits : ℕ) → bits ≡ 0 → lowest bits ≡ 160
lowest_at_zero bits e = rw e refl

middle_fits : (bits b : ℕ) → bits < 16 → 128 ≤ b → b ≤ 191 → (bits ≡ 0 → 160 ≤ b)
    → FitsBehind (Middle bits) b (Part (Last (with_six bits b)))
middle_fits bits b lt low high least = (
  (
    elim (cases_lt 0 bits) [
      | inl k ↦ omega arith
      | inr k ↦ let z : 160 ≤ b = least
          (omega arith) in omega arith
    ],
    omega arith,
  ),
  part_three (with_six bits b)
      (elim (cases_lt 0 bits) [ inl k ↦ omega arith | inr k ↦ let z : 160 ≤ b = least (omega arith) in omega arith ])
      ∙ two_same _ _ _ _ (omega arith) (omega arith),
)

last_fits : (bits b : ℕ) → 2 ≤ bits → bits < 1024 → 128 ≤ b → b ≤ 191
    → FitsBehind (Last bits) b (Whole (with_six bits b))
last_fits bits b two lt low high = (
  omega arith,
  elim (cases_lt bits 32) [
    | inl k ↦ unit_two (with_six bits b) (omega arith) (omega arith) ∙ two_same _ _ _ _ (omega arith) (omega arith)
        ∙ ap (λ (t : List ℕ). t ++ b ∷ []) (sym (part_two bits k))
    | inr k ↦ unit_three (with_six bits b) (omega arith)
        ∙ three_same _ _ _ _ _ _ (omega arith) (omega arith) (omega arith)
        ∙ ap (λ (t : List ℕ). t ++ b ∷ []) (sym (part_three bits k))
  ],
)

taken_fits : (a : Awaited) (b : ℕ) (o : Taken) → CanStand a → byte_taken a b ≡ Some o → FitsBehind a b o
unfolding byte_taken
taken_fits Lead b o can h = lead_fits b o h
taken_fits Zero b o can h = elim (passed (nat_eq b 0x80) (Whole 0) o None h) [
  | inl p ↦ subst (FitsBehind Zero b) p.1
      (omega arith, unit_zero ∙ let e : b ≡ 128 = eqb-true b 128 p.0 in two_same _ _ _ _ refl (sym e))
  | inr p ↦ absurd cc
]
taken_fits (Middle bits) b o can h = elim
    (passed (is_from_to (lowest bits) 0xBF b) (Part (Last (with_six bits b))) o None h) [
      | inl p ↦
          let r = from_to (lowest bits) 191 b p.0 in
          let l = lowest_least bits in
          subst (FitsBehind (Middle bits) b) p.1
          (middle_fits bits b can (omega arith) (omega arith)
          (λ e. let z : lowest bits ≡ 160 = lowest_at_zero bits e in omega arith))
      | inr p ↦ absurd cc
    ]
taken_fits (Last bits) b o can h = elim (passed (is_from_to 0x80 0xBF b) (Whole (with_six bits b)) o None h) [
  | inl p ↦ let r = from_to 128 191 b p.0 in subst (FitsBehind (Last bits) b) p.1
      (last_fits bits b can.0 can.1 (omega arith) (omega arith))
  | inr p ↦ absurd cc
]

-- the units and the part that the bytes so far are
record Reads (d : Decoded) (so_far : List ℕ) : Type 0 where
  fit : IsUnits d.units
  can : CanStand d.awaited
  text : so_far ≡ mutf8 d.units ++ part d.awaited

IsUnits_push : (units : List ℕ) (unit : ℕ) → IsUnits units → unit < 65536 → IsUnits (units ++ unit ∷ [])
IsUnits_push [] unit h lt zero = lt
IsUnits_push [] unit h lt (suc i) = omega arith
IsUnits_push (u ∷ us) unit h lt zero = h 0
IsUnits_push (u ∷ us) unit h lt (suc i) = IsUnits_push us unit (λ k. h (suc k)) lt i

more_text : (units : List ℕ) (a : Awaited) (b : ℕ) (so_far behind : List ℕ) → behind ≡ part a ++ b ∷ []
    → so_far ≡ mutf8 units ++ part a → so_far ++ b ∷ [] ≡ mutf8 units ++ behind
more_text units a b so_far behind e h = ap (λ (t : List ℕ). t ++ b ∷ []) h
    ∙ append_assoc (mutf8 units) (part a) (b ∷ []) ∙ ap (λ (t : List ℕ). mutf8 units ++ t) (sym e)

reads_on : (units : List ℕ) (a : Awaited) (e : Decoded) (b : ℕ) (so_far : List ℕ) (o : Option Taken)
    → Reads (record { units = units; awaited = a }) so_far → byte_taken a b ≡ o
    → decoded_on units o ≡ Some e → Reads e (so_far ++ b ∷ [])
reads_on units a e b so_far None r h k = absurd cc
reads_on units a e b so_far (Some (Whole unit)) r h k =
    let f = taken_fits a b (Whole unit) r.can h in
    let d : Decoded = record { units = units ++ unit ∷ []; awaited = Lead } in
    let is : d ≡ e = cc in
    let P : Decoded → Type 0 = λ (x : Decoded). Reads x (so_far ++ b ∷ []) in
    subst P is (record {
      fit = IsUnits_push units unit r.fit f.0;
      can = tt;
      text = more_text units a b so_far (unit_bytes unit) f.1 r.text ∙ sym (mutf8_push units unit)
          ∙ sym (append-nil (mutf8 (units ++ unit ∷ [])));
    })
reads_on units a e b so_far (Some (Part next)) r h k =
    let f = taken_fits a b (Part next) r.can h in
    let d : Decoded = record { units = units; awaited = next } in
    let is : d ≡ e = cc in
    let P : Decoded → Type 0 = λ (x : Decoded). Reads x (so_far ++ b ∷ []) in
    subst P is (record { fit = r.fit; can = f.0; text = more_text units a b so_far (part next) f.1 r.text })

keeps : (d e : Decoded) (b : ℕ) (so_far : List ℕ) → Reads d so_far → decode_byte d b ≡ Some e
    → Reads e (so_far ++ b ∷ [])
keeps d e b so_far r h = reads_on d.units d.awaited e b so_far (byte_taken d.awaited b)
    (record { fit = r.fit; can = r.can; text = r.text }) refl h

-- where the last unit is whole
ends_at : (units : List ℕ) (a : Awaited) (v : List ℕ) (so_far : List ℕ)
    → Reads (record { units = units; awaited = a }) so_far → whole_units units a ≡ Some v → SpellsUnits so_far v
ends_at units Lead v so_far r h =
    let is : units ≡ v = cc in
    let P : List ℕ → Type 0 = λ (x : List ℕ). SpellsUnits so_far x in
    subst P is (r.fit, sym (r.text ∙ append-nil (mutf8 units)))
ends_at units Zero v so_far r h = absurd cc
ends_at units (Middle bits) v so_far r h = absurd cc
ends_at units (Last bits) v so_far r h = absurd cc

ends : (d : Decoded) (v : List ℕ) (so_far : List ℕ) → Reads d so_far → decode_end d ≡ Some v → SpellsUnits so_far v
ends d v so_far r h = ends_at d.units d.awaited v so_far (record { fit = r.fit; can = r.can; text = r.text }) h

-- whatever was read goes on
live_lead : (units so_far : List ℕ) → Reads (record { units = units; awaited = Lead }) so_far
    → GoesOn SpellsUnits so_far
live_lead units so_far r = nothing_more SpellsUnits so_far units (ends_at units Lead units so_far r refl)

live_last : (units so_far : List ℕ) (bits : ℕ) → Reads (record { units = units; awaited = Last bits }) so_far
    → GoesOn SpellsUnits so_far
live_last units so_far bits r = goes_on_before SpellsUnits so_far 128
    (live_lead (units ++ with_six bits 128 ∷ []) (so_far ++ 128 ∷ [])
    (reads_on units (Last bits) _ 128 so_far _ r (take_last bits 128 (omega arith) (omega arith)) refl))

live_at : (units so_far : List ℕ) (a : Awaited) → Reads (record { units = units; awaited = a }) so_far
    → GoesOn SpellsUnits so_far
live_at units so_far Lead r = live_lead units so_far r
live_at units so_far Zero r = goes_on_before SpellsUnits so_far 128
    (live_lead (units ++ 0 ∷ []) (so_far ++ 128 ∷ []) (reads_on units Zero _ 128 so_far _ r take_zero refl))
live_at units so_far (Middle bits) r = goes_on_before SpellsUnits so_far 191
    (live_last units (so_far ++ 191 ∷ []) (with_six bits 191)
    (reads_on units (Middle bits) _ 191 so_far _ r
    (take_middle bits 191 (omega arith) (omega arith) (λ e. omega arith)) refl))
live_at units so_far (Last bits) r = live_last units so_far bits r

live : (d : Decoded) (so_far : List ℕ) → Reads d so_far → GoesOn SpellsUnits so_far
live d so_far r = live_at d.units so_far d.awaited (record { fit = r.fit; can = r.can; text = r.text })

-- ---- what is written is read

abbrev at_lead : List ℕ → Decoded
at_lead units = record { units = units; awaited = Lead }

step_over : (d e : Decoded) (at b : ℕ) (bytes : List ℕ) → decode_byte d b ≡ Some e
    → decode_from d at (b ∷ bytes) ≡ decode_from e (at + 1) bytes
unfolding walk
step_over d e at b bytes h = ap (λ (o : Option Decoded). walk_from at o (λ t. decode_from t (at + 1) bytes)) h

-- the units that were read, and one more
abbrev Over : List ℕ → ℕ → ℕ → List ℕ → List ℕ → Type 0
Over units unit at text bytes = (next : ℕ)
    × (decode_from (at_lead units) at (text ++ bytes) ≡ decode_from (at_lead (units ++ unit ∷ [])) next bytes)

over_zero : (units : List ℕ) (at : ℕ) (bytes : List ℕ) → Over units 0 at (0xC0 ∷ 0x80 ∷ []) bytes
over_zero units at bytes =
    let inside : Decoded = record { units = units; awaited = Zero } in (
      at + 1 + 1,
      step_over (at_lead units) inside at 0xC0 (0x80 ∷ bytes) (ap (decoded_on units) take_lead_zero)
          ∙ step_over inside (at_lead (units ++ 0 ∷ [])) (at + 1) 0x80 bytes (ap (decoded_on units) take_zero),
    )

over_one : (units : List ℕ) (unit at : ℕ) (bytes : List ℕ) → 0 < unit → unit < 128
    → Over units unit at (unit ∷ []) bytes
over_one units unit at bytes low high = (
  at + 1,
  step_over (at_lead units) (at_lead (units ++ unit ∷ [])) at unit bytes
      (ap (decoded_on units) (take_one unit (omega arith) (omega arith))),
)

over_two : (units : List ℕ) (unit at : ℕ) (bytes : List ℕ) → 128 ≤ unit → unit < 2048
    → Over units unit at ((0xC0 + unit / 64) ∷ (0x80 + unit % 64) ∷ []) bytes
over_two units unit at bytes low high =
    let a = 0xC0 + unit / 64 in
    let b = 0x80 + unit % 64 in
    let inside : Decoded = record { units = units; awaited = Last (a - 192) } in
    let first : decode_byte (at_lead units) a
    ≡ Some inside = ap (decoded_on units) (take_two a (omega arith) (omega arith)) in
    let second : decode_byte inside b
    ≡ Some (at_lead (units ++ with_six (a - 192) b ∷ [])) = ap (decoded_on units)
    (take_last (a - 192) b (omega arith) (omega arith)) in
    let is : with_six (a - 192) b ≡ unit = omega arith in
    let P : ℕ → Type 0 = λ n. decode_byte inside b ≡ Some (at_lead (units ++ n ∷ [])) in (
      at + 1 + 1,
      step_over (at_lead units) inside at a (b ∷ bytes) first
          ∙ step_over inside (at_lead (units ++ unit ∷ [])) (at + 1) b bytes (subst P is second),
    )

over_three : (units : List ℕ) (unit at : ℕ) (bytes : List ℕ) → 2048 ≤ unit → unit < 65536
    → Over units unit at ((0xE0 + unit / 4096) ∷ (0x80 + unit / 64 % 64) ∷ (0x80 + unit % 64) ∷ []) bytes
over_three units unit at bytes low high =
    let a = 0xE0 + unit / 4096 in
    let b = 0x80 + unit / 64 % 64 in
    let z = 0x80 + unit % 64 in
    let middle : Decoded = record { units = units; awaited = Middle (a - 224) } in
    let bits = with_six (a - 224) b in
    let inside : Decoded = record { units = units; awaited = Last bits } in
    let first : decode_byte (at_lead units) a
    ≡ Some middle = ap (decoded_on units) (take_three a (omega arith) (omega arith)) in
    let second : decode_byte middle b
    ≡ Some inside = ap (decoded_on units)
    (take_middle (a - 224) b (omega arith) (omega arith) (λ e. omega arith)) in
    let third : decode_byte inside z
    ≡ Some (at_lead (units ++ with_six bits z ∷ [])) = ap (decoded_on units)
    (take_last bits z (omega arith) (omega arith)) in
    let is : with_six bits z ≡ unit = omega arith in
    let P : ℕ → Type 0 = λ n. decode_byte inside z ≡ Some (at_lead (units ++ n ∷ [])) in (
      at + 1 + 1 + 1,
      step_over (at_lead units) middle at a (b ∷ z ∷ bytes) first
          ∙ step_over middle inside (at + 1) b (z ∷ bytes) second
          ∙ step_over inside (at_lead (units ++ unit ∷ [])) (at + 1 + 1) z bytes (subst P is third),
    )

-- a whole unit, wherever it begins
unit_over : (units : List ℕ) (unit at : ℕ) (bytes : List ℕ) → unit < 65536 → Over units unit at (unit_bytes unit) bytes
unit_over units unit at bytes lt =
    let P : List ℕ → Type 0 = λ (text : List ℕ). Over units unit at text bytes in
    elim (cases_lt unit 128) [
      | inl one ↦ elim (cases_lt 0 unit) [
        | inl some ↦ subst P (sym (unit_one unit some one)) (over_one units unit at bytes some one)
        | inr none ↦ let is : 0 ≡ unit = omega arith in let Q : ℕ
            → Type 0 = λ n. Over units n at (unit_bytes n) bytes in subst Q is
            (subst (λ (text : List ℕ). Over units 0 at text bytes) (sym unit_zero) (over_zero units at bytes))
      ]
      | inr more ↦ elim (cases_lt unit 2048) [
        | inl two ↦ subst P (sym (unit_two unit more two)) (over_two units unit at bytes more two)
        | inr three ↦ subst P (sym (unit_three unit three)) (over_three units unit at bytes three lt)
      ]
    ]

all_over : (rest units : List ℕ) (at : ℕ) → IsUnits rest
    → decode_from (at_lead units) at (mutf8 rest) ≡ Ok (units ++ rest)
unfolding mutf8 walk
all_over [] units at fit = ap Ok (sym (append-nil units))
all_over (u ∷ us) units at fit =
    let one = unit_over units u at (mutf8 us) (fit 0) in
    one.1 ∙ all_over us (units ++ u ∷ []) one.0 (λ i. fit (suc i)) ∙ ap Ok (append_assoc units (u ∷ []) us)

decodes : (bytes units : List ℕ) → SpellsUnits bytes units → decode_from (at_lead []) 0 bytes ≡ Ok units
decodes bytes units h = ap (decode_from (at_lead []) 0) (sym h.1) ∙ all_over units [] 0 h.0

-- ---- the three laws of the reading function

starts : Reads (at_lead []) []
unfolding mutf8
starts = record { fit = λ i. omega arith; can = tt; text = refl }

bad_ok : {V : Type 0} (r : Result V ℕ) (v : V) → bad_utf8 r ≡ Ok v → r ≡ Ok v
bad_ok (Ok x) v h = ap Ok cc
bad_ok (Err n) v h = absurd cc

bad_err : {V : Type 0} (r : Result V ℕ) (e : BadUtf8) → bad_utf8 r ≡ Err e → r ≡ Err e.offset
bad_err (Ok x) e h = absurd cc
bad_err (Err n) e h = let made : BadUtf8 = record { offset = n } in let is : made
    ≡ e = cc in ap (λ (x : BadUtf8). Err x.offset) is

pub read_mutf8-found : (bytes units : List ℕ) → read_mutf8 bytes ≡ Ok units → SpellsUnits bytes units
unfolding read_mutf8
read_mutf8-found bytes units h = walk_found decode_byte decode_end Reads SpellsUnits keeps ends bytes
    (at_lead []) 0 units [] starts (bad_ok _ units h)

pub read_mutf8-only : (bytes units : List ℕ) → SpellsUnits bytes units → read_mutf8 bytes ≡ Ok units
unfolding read_mutf8
read_mutf8-only bytes units h = ap bad_utf8 (decodes bytes units h)

pub read_mutf8-longest : (bytes : List ℕ) (e : BadUtf8) → read_mutf8 bytes ≡ Err e
    → IsLongest SpellsUnits bytes e.offset
unfolding read_mutf8
read_mutf8-longest bytes e h = walk_longest decode_byte decode_end Reads SpellsUnits keeps
    (at_lead []) starts live decodes bytes e.offset (bad_err _ e h)

-- Texts and their UTF-16 units.
use Rattle.std.proofs.Common.{◌≡◌, ℕ, ◌+◌, ◌-◌, ◌/◌, ◌%◌, ◌<◌, ◌≤◌, true, false, not, List, [], ◌∷◌, ◌++◌}
use Rattle.std.proofs.Common.{map, length, get_or, Option, Some, ◌⊎◌, inl, inr, refl, sym, ap, ap₂, ◌∙◌, append_assoc}
use Rattle.std.proofs.Common.{arith, IsUtf8}
use Rattle.std.specs.Char.Escape.{encode_utf16}
use Rattle.std.specs.Char.Utf16.{utf16_chars, utf16_lossy_chars, has_unpaired_surrogate, lone_unit_char}
use Rattle.std.specs.Char.Utf16.{surrogate_pair_char}
use Rattle.std.specs.Prelude.{encode_utf8, is_some}
use Rattle.std.specs.Option.{unwrap_or}
use Rattle.std.specs.List.{flat_map, list_any}
use Rattle.std.specs.Str.{chars, encode_utf8_all, all_scalars}
use Rattle.std.specs.String.{IsUtf16Of}
use Rattle.std.proofs.str.Utf16.{IsPair}
use Rattle.std.proofs.Math.Utf8.{scalar, scalar_cases}
use Rattle.std.proofs.lemmas.Bool.{cases_lt, and_parts}
use Rattle.std.proofs.lemmas.Bool.Decides.{nat_tests}
use Rattle.std.proofs.lemmas.List.{append-nil, nil_from_length}
use Rattle.std.proofs.lemmas.Str.{chars_past_char, IsUtf8-past_char, chars_from_encodes, encodes-chars, scalars-chars}
use Rattle.std.proofs.lemmas.Str.{utf16_chars-nil, utf16_chars_lone, utf16_chars_pair}
use Rattle.jv_base.specs.Utf16.{units_of, IsTextOf}

-- one more character
pub units_of_char : (text rest : List ℕ) (c : ℕ) → IsUtf8 text → text ≡ encode_utf8 c ++ rest
    → units_of text ≡ encode_utf16 c ++ units_of rest
unfolding units_of
units_of_char text rest c utf8 parts = ap (flat_map encode_utf16) (chars_past_char text rest c utf8 parts)

-- the units of the characters of a text
pub IsTextOf-made : (text units : List ℕ) → IsUtf8 text → IsUtf16Of units text → IsTextOf text units
unfolding units_of
IsTextOf-made text units utf8 made =
    (utf8, ap (flat_map encode_utf16) (sym (chars_from_encodes made.0 text utf8 (sym made.2))) ∙ sym made.1)

pub one_unit : (c : ℕ) → c < 65536 → encode_utf16 c ≡ c ∷ []
one_unit c lt = grind (arith, nat_tests)

pub two_units : (c : ℕ) → 65536 ≤ c
    → encode_utf16 c ≡ (0xD800 + (c - 65536) / 1024) ∷ (0xDC00 + (c - 65536) % 1024) ∷ []
two_units c le = grind (arith, nat_tests)

lone_char : (c : ℕ) → scalar c ≡ true → lone_unit_char c ≡ Some c
lone_char c h = elim (scalar_cases c h) [ inl low ↦ grind (arith, nat_tests) | inr high ↦ grind (arith, nat_tests) ]

-- a character's units are read as that character
char_back : (c : ℕ) (units : List ℕ) → scalar c ≡ true
    → utf16_chars (encode_utf16 c ++ units) ≡ Some c ∷ utf16_chars units
char_back c units h = elim (cases_lt c 65536) [
  | inl one ↦
      let alone : ¬ (IsPair c (get_or units 0 0)) = λ pair. elim
      (scalar_cases c h) [ inl low ↦ omega arith | inr high ↦ omega arith ] in
      rw (one_unit c one) (utf16_chars_lone c units alone ∙ ap (λ (o : Option ℕ). o ∷ utf16_chars units)
      (lone_char c h))
  | inr two ↦
      let below : c < 1114112 = elim (scalar_cases c h) [ inl low ↦ omega arith | inr high ↦ high.1 ] in
      let u = 0xD800 + (c - 65536) / 1024 in
      let v = 0xDC00 + (c - 65536) % 1024 in
      let is : surrogate_pair_char u v ≡ c = omega arith in
      rw (two_units c two) (utf16_chars_pair u v units (omega arith, omega arith, omega arith, omega arith)
      ∙ ap (λ (n : ℕ). Some n ∷ utf16_chars units) is)
]

chars_back : (cs : List ℕ) → all_scalars cs ≡ true → utf16_chars (flat_map encode_utf16 cs) ≡ map Some cs
chars_back [] h = utf16_chars-nil
chars_back (c ∷ cs) h =
    let parts = and_parts (scalar c) (all_scalars cs) h in
    char_back c (flat_map encode_utf16 cs) parts.0 ∙ ap (λ (os : List (Option ℕ)). Some c ∷ os) (chars_back cs parts.1)

none_missing : (cs : List ℕ) → list_any (λ o. not (is_some o)) (map Some cs) ≡ false
none_missing [] = refl
none_missing (c ∷ cs) = none_missing cs

all_there : (cs : List ℕ) → map (λ o. unwrap_or o 0xFFFD) (map Some cs) ≡ cs
all_there [] = refl
all_there (c ∷ cs) = ap (λ (t : List ℕ). c ∷ t) (all_there cs)

units_back : (text units : List ℕ) → IsTextOf text units → utf16_chars units ≡ map Some (chars text)
unfolding units_of
units_back text units h = ap utf16_chars (sym h.1) ∙ chars_back (chars text) (scalars-chars text h.0)

-- the units of a text have no unpaired surrogate, and are read as it
pub IsTextOf-paired : (text units : List ℕ) → IsTextOf text units → has_unpaired_surrogate units ≡ false
IsTextOf-paired text units h = ap (list_any (λ o. not (is_some o))) (units_back text units h)
    ∙ none_missing (chars text)

pub IsTextOf-read : (text units : List ℕ) → IsTextOf text units → encode_utf8_all (utf16_lossy_chars units) ≡ text
IsTextOf-read text units h = ap encode_utf8_all
    (ap (map (λ o. unwrap_or o 0xFFFD)) (units_back text units h) ∙ all_there (chars text)) ∙ encodes-chars text h.0

-- what one unit of an encoded text was: the second of a pair, or the first of a character
abbrev pub IsUnitOf : ℕ → List ℕ → List ℕ → List ℕ → List ℕ → Type 0
IsUnitOf x pending then_pending rest then_rest = ((pending ≡ x ∷ []) × (then_pending ≡ []) × (then_rest ≡ rest))
    ⊎ ((pending ≡ []) × ((c : ℕ) × (rest ≡ encode_utf8 c ++ then_rest) × (encode_utf16 c ≡ x ∷ then_pending)))

pub unit_on : (done total : List ℕ) (x : ℕ) (pending then_pending rest then_rest : List ℕ) → IsUtf8 rest
    → done ++ (pending ++ units_of rest) ≡ total → IsUnitOf x pending then_pending rest then_rest
    → IsUtf8 then_rest × ((done ++ x ∷ []) ++ (then_pending ++ units_of then_rest) ≡ total)
unit_on done total x pending then_pending rest then_rest utf8 same (inl second) = (
  rw second.2 utf8,
  append_assoc done (x ∷ []) _
      ∙ ap (λ (t : List ℕ). done ++ t)
      (ap₂ (λ (a b : List ℕ). x ∷ (a ++ units_of b)) second.1 second.2
      ∙ sym (ap (λ (t : List ℕ). t ++ units_of rest) second.0)) ∙ same,
)
unit_on done total x pending then_pending rest then_rest utf8 same (inr first) =
    let c = first.1.0 in
    let units : units_of rest ≡ x ∷ (then_pending ++ units_of then_rest) = units_of_char rest then_rest c utf8 first.1.1
    ∙ ap (λ (t : List ℕ). t ++ units_of then_rest) first.1.2 in (
      IsUtf8-past_char rest then_rest c utf8 first.1.1,
      append_assoc done (x ∷ []) _
          ∙ ap (λ (t : List ℕ). done ++ t) (sym units ∙ sym (ap (λ (t : List ℕ). t ++ units_of rest) first.0)) ∙ same,
    )

pub units_at_end : (done total pending rest : List ℕ) → pending ≡ [] → length rest ≡ 0
    → done ++ (pending ++ units_of rest) ≡ total → done ≡ total
unfolding units_of chars
units_at_end done total pending rest none end same =
    let nothing : pending ++ units_of rest
    ≡ [] = ap₂ (λ (a b : List ℕ). a ++ units_of b) none (nil_from_length rest end) in
    sym (append-nil done) ∙ ap (λ (t : List ℕ). done ++ t) (sym nothing) ∙ same

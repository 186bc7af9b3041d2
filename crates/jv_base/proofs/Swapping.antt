-- Characters in place of others, and pieces that repeat.
use Rattle.std.proofs.Common.{◌≡◌, ℕ, zero, suc, ◌+◌, ◌/◌, ◌%◌, ◌<◌, ◌≤◌, ◌≢◌, Bool, true, false, cond, List, [], ◌∷◌}
use Rattle.std.proofs.Common.{◌++◌, map, length, take, get_or, inl, inr, refl, sym, ap, ap₂, subst, ◌∙◌, append_assoc}
use Rattle.std.proofs.Common.{add-one, arith, ne_eqb}
use Rattle.std.specs.Prelude.{encode_utf8, nat_eq}
use Rattle.std.specs.List.{AllByRecursion, repeat}
use Rattle.std.proofs.Math.Utf8.{encode}
use Rattle.std.proofs.lemmas.Bool.{cases_lt}
use Rattle.std.proofs.lemmas.Bool.Decides.{nat_tests}
use Rattle.std.proofs.lemmas.List.{append-nil, map-append, nil_from_length, take_more}
use Rattle.jv_base.specs.External.{slashed, swapped}

swapped_other : (from to b : ℕ) → b ≢ from → swapped from to b ≡ b
swapped_other from to b other = rw (ne_eqb b from other) refl

abbrev IsHigh : ℕ → Type 0
IsHigh b = 128 ≤ b

map_high : (from to : ℕ) (bytes : List ℕ) → from < 128 → AllByRecursion IsHigh bytes
    → map (swapped from to) bytes ≡ bytes
map_high from to [] lt h = refl
map_high from to (b ∷ bs) lt h = let high = h.0 in ap₂ (λ (x : ℕ) (xs : List ℕ). x ∷ xs)
    (swapped_other from to b (λ e. omega arith)) (map_high from to bs lt h.1)

two_bytes : (c : ℕ) → 128 ≤ c → c < 2048 → encode c ≡ (192 + c / 64) ∷ (128 + c % 64) ∷ []
unfolding encode
two_bytes c low high = grind (arith, nat_tests)

three_bytes : (c : ℕ) → 2048 ≤ c → c < 65536 → encode c ≡ (224 + c / 4096) ∷ (128 + c / 64 % 64) ∷ (128 + c % 64) ∷ []
unfolding encode
three_bytes c low high = grind (arith, nat_tests)

four_bytes : (c : ℕ) → 65536 ≤ c
    → encode c ≡ (240 + c / 262144) ∷ (128 + c / 4096 % 64) ∷ (128 + c / 64 % 64) ∷ (128 + c % 64) ∷ []
unfolding encode
four_bytes c low = grind (arith, nat_tests)

one_byte : (c : ℕ) → c < 128 → encode c ≡ c ∷ []
unfolding encode
one_byte c lt = grind (arith, nat_tests)

encode_high : (c : ℕ) → 128 ≤ c → AllByRecursion IsHigh (encode c)
encode_high c le = elim (cases_lt c 2048) [
  | inl two ↦ subst (AllByRecursion IsHigh) (sym (two_bytes c le two)) (omega arith, (omega arith, tt))
  | inr more_ ↦ elim (cases_lt c 65536) [
    | inl three ↦ subst (AllByRecursion IsHigh) (sym (three_bytes c more_ three))
        (omega arith, (omega arith, (omega arith, tt)))
    | inr four ↦ subst (AllByRecursion IsHigh) (sym (four_bytes c four))
        (omega arith, (omega arith, (omega arith, (omega arith, tt))))
  ]
]

swapped_low : (from to c : ℕ) → to < 128 → c < 128 → swapped from to c < 128
swapped_low from to c lt low = by (nat_eq c from)
  where
    by : (t : Bool) → cond t to c < 128
    by true = lt
    by false = low

pub swapped_char : (from to c : ℕ) → from < 128 → to < 128
    → encode_utf8 (swapped from to c) ≡ map (swapped from to) (encode_utf8 c)
swapped_char from to c lt under = elim (cases_lt c 128) [
  | inl low ↦ one_byte (swapped from to c) (swapped_low from to c under low)
      ∙ ap (map (swapped from to)) (sym (one_byte c low))
  | inr high ↦ ap encode (swapped_other from to c (λ e. omega arith))
      ∙ sym (map_high from to (encode c) lt (encode_high c high))
]

-- one more character
pub swapped_on : (from to c : ℕ) (done rest then_rest total : List ℕ) → from < 128 → to < 128
    → rest ≡ encode_utf8 c ++ then_rest → done ++ map (swapped from to) rest ≡ total
    → (done ++ encode_utf8 (swapped from to c)) ++ map (swapped from to) then_rest ≡ total
swapped_on from to c done rest then_rest total lt under parts so_far =
    append_assoc done _ _ ∙ ap (λ (t : List ℕ). done ++ t) (ap (λ (t : List ℕ). t ++ map (swapped from to) then_rest)
    (swapped_char from to c lt under) ∙ sym (map-append (swapped from to) (encode_utf8 c) then_rest)
    ∙ ap (map (swapped from to)) (sym parts)) ∙ so_far

pub swapped_end : (from to : ℕ) (done rest total : List ℕ) → length rest ≡ 0
    → done ++ map (swapped from to) rest ≡ total → done ≡ total
swapped_end from to done rest total none so_far = sym (append-nil done)
    ∙ ap (λ (t : List ℕ). done ++ map (swapped from to) t) (sym (nil_from_length rest none)) ∙ so_far

pub repeat_push : (n : ℕ) (xs : List ℕ) → repeat n xs ++ xs ≡ repeat (n + 1) xs
repeat_push n xs = rw add-one (by n)
  where
    by : (n : ℕ) → repeat n xs ++ xs ≡ xs ++ repeat n xs
    by zero = sym (append-nil xs)
    by (suc n) = append_assoc xs (repeat n xs) xs ∙ ap (λ (t : List ℕ). xs ++ t) (by n)

pub slashed_more : (text : List ℕ) (at b : ℕ) → at < length text → get_or text at 0 ≡ b
    → slashed (take (at + 1) text) ≡ slashed (take at text) ++ swapped 46 47 b ∷ []
slashed_more text at b lt is = ap slashed (take_more text at 0 lt)
    ∙ map-append (swapped 46 47) (take at text) (get_or text at 0 ∷ [])
    ∙ ap (λ (n : ℕ). slashed (take at text) ++ swapped 46 47 n ∷ []) is

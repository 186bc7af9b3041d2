-- The names of the generated classes.
use Rattle.std.proofs.Common.{◌≡◌, ℕ, zero, suc, ◌+◌, ◌-◌, ◌*◌, ◌/◌, ◌%◌, ◌^◌, ◌<◌, ◌≤◌, Bool, true, false, not, ◌&&◌, cond}
use Rattle.std.proofs.Common.{List, [], ◌∷◌, ◌++◌, length, codes, refl, ap, ◌∙◌, arith}
use Rattle.std.specs.Prelude.{nat_eq, nat_lt, IsUtf8}
use Rattle.std.specs.Char.Escape.{encode_utf16}
use Rattle.std.specs.Fmt.{decimal}
use Rattle.std.specs.List.{AllByRecursion, flat_map}
use Rattle.std.specs.Str.{IsAscii, chars}
use Rattle.std.proofs.Math.Nat.{mod-lt, mul-suc}
use Rattle.std.proofs.lemmas.Bool.{lt-ltb}
use Rattle.std.proofs.lemmas.Fmt.{IsAscii-decimal, decimal_by_steps, length-decimal-le}
use Rattle.std.proofs.lemmas.List.{length-append}
use Rattle.std.proofs.lemmas.Str.{IsAscii-append, IsUtf8-from_ascii, chars-IsAscii}
use Rattle.jv_base.specs.Mutf8.{mutf8, unit_bytes}
use Rattle.jv_base.specs.Names.{is_class_name, is_name_byte, is_primitive_or_void, parts_whole}
use Rattle.jv_base.specs.Utf16.{units_of}
use Rattle.jv_base.proofs.Naming.{class_name_is}
use Rattle.class_model.specs.WellFormed.{IsClassName}
use Rattle.class_laws.proofs.SpelledLists.{all_both}

-- ---- digits

-- a byte of a name that ends no part of it
abbrev GoesOn : ℕ → Type 0
GoesOn b = (is_name_byte b ≡ true) × (nat_eq b 47 ≡ false)

digit : (d : ℕ) → d < 10 → GoesOn (48 + d)
unfolding is_name_byte
digit zero h = (refl, refl)
digit (suc zero) h = (refl, refl)
digit (suc (suc zero)) h = (refl, refl)
digit (suc (suc (suc zero))) h = (refl, refl)
digit (suc (suc (suc (suc zero)))) h = (refl, refl)
digit (suc (suc (suc (suc (suc zero))))) h = (refl, refl)
digit (suc (suc (suc (suc (suc (suc zero)))))) h = (refl, refl)
digit (suc (suc (suc (suc (suc (suc (suc zero))))))) h = (refl, refl)
digit (suc (suc (suc (suc (suc (suc (suc (suc zero)))))))) h = (refl, refl)
digit (suc (suc (suc (suc (suc (suc (suc (suc (suc zero))))))))) h = (refl, refl)
digit (suc (suc (suc (suc (suc (suc (suc (suc (suc (suc d)))))))))) h = absurd (omega (arith, h))

digits_go_on : (n : ℕ) → n < 2 ^ 64 → AllByRecursion GoesOn (decimal n)
digits_go_on = decimal_by_steps (λ n ds. AllByRecursion GoesOn ds) (λ n lt. (digit n lt, tt))
    (λ n ds le all. all_both GoesOn ds ((48 + n % 10) ∷ []) all (digit (n % 10) (mod-lt n (omega arith)), tt))

-- a byte of a name goes on with what follows it
with_byte : (in_part : Bool) (b : ℕ) (bs : List ℕ) → GoesOn b → parts_whole true bs ≡ true
    → parts_whole in_part (b ∷ bs) ≡ true
with_byte in_part b bs goes h =
    λ i. cond (goes.1 i) (in_part && parts_whole false bs) (goes.0 i && h i)

whole_to_end : (bs : List ℕ) → AllByRecursion GoesOn bs → parts_whole true bs ≡ true
whole_to_end [] all = refl
whole_to_end (b ∷ bs) all = with_byte true b bs all.0 (whole_to_end bs all.1)

-- ---- how long a text is

module _ {A : Type 0} (k : ℕ) (f : A → List ℕ) (each : (x : A) → length (f x) ≤ k) where
  few : (xs : List A) → length (flat_map f xs) ≤ k * length xs
  few [] = omega arith
  few (x ∷ xs) = omega (arith, each x, length-append (f x) (flat_map f xs), few xs, mul-suc k (length xs))

two_units : (c : ℕ) → length (encode_utf16 c) ≤ 2
two_units c = on (nat_lt c 0x1_0000)
  where
    on : (b : Bool)
        → length (cond b (c ∷ []) ((0xD800 + (c - 0x1_0000) / 0x400) ∷ (0xDC00 + (c - 0x1_0000) % 0x400) ∷ [])) ≤ 2
    on true = omega arith
    on false = omega arith

three_bytes : (u : ℕ) → length (unit_bytes u) ≤ 3
unfolding unit_bytes
three_bytes u = on (nat_eq u 0) (nat_lt u 0x80) (nat_lt u 0x800)
  where
    on : (a b c : Bool) → length (cond a (0xC0 ∷ 0x80 ∷ []) (cond b (u ∷ [])
        (cond c ((0xC0 + u / 0x40) ∷ (0x80 + u % 0x40) ∷ [])
        ((0xE0 + u / 0x1000) ∷ (0x80 + u / 0x40 % 0x40) ∷ (0x80 + u % 0x40) ∷ [])))) ≤ 3
    on true b c = omega arith
    on false true c = omega arith
    on false false true = omega arith
    on false false false = omega arith

text_length : (text : List ℕ) → IsAscii text → length (mutf8 (units_of text)) ≤ 6 * length text
unfolding mutf8 units_of
text_length text ascii =
    omega (
      arith,
      few 3 unit_bytes three_bytes (flat_map encode_utf16 (chars text)),
      few 2 encode_utf16 two_units (chars text),
      ap length (chars-IsAscii text ascii),
    )

-- ---- the names

-- a class name that fits a CONSTANT_Utf8
pub record IsNamed (name : List ℕ) : Type 0 where
  pub class : IsClassName name
  pub fits : nat_lt (length (mutf8 (units_of name))) 65536 ≡ true

front_ascii : (b : ℕ) → b < 128 → IsAscii (103 ∷ 47 ∷ b ∷ [])
front_ascii b lt = Prim.search (arith, lt)

module _ (b : ℕ) (lt : b < 128) (goes : GoesOn b) (n : ℕ) (few : n < 10000) where
  abbrev name : List ℕ
  name = 103 ∷ 47 ∷ b ∷ decimal n

  ascii : IsAscii name
  ascii = IsAscii-append (103 ∷ 47 ∷ b ∷ []) (decimal n) (front_ascii b lt) (IsAscii-decimal n (omega (arith, few)))

  whole : parts_whole false name ≡ true
  unfolding is_name_byte
  whole = with_byte false b (decimal n) goes (whole_to_end (decimal n) (digits_go_on n (omega (arith, few))))

  no_type : is_primitive_or_void name ≡ false
  unfolding is_primitive_or_void
  no_type = refl

  is_name : is_class_name name ≡ true
  is_name = class_name_is name ∙ (λ i. whole i && not (no_type i))

  pub named : IsNamed name
  named = record {
    class = (IsUtf8-from_ascii name ascii, is_name);
    fits = lt-ltb _ _ (omega (
      arith,
      text_length name ascii,
      length-decimal-le 4 n (omega arith) few (omega (arith, few)),
    ));
  }

goes_c : GoesOn 67
unfolding is_name_byte
goes_c = (refl, refl)

goes_d : GoesOn 68
unfolding is_name_byte
goes_d = (refl, refl)

-- g/C and g/D, with a number behind
pub named_c : (n : ℕ) → n < 10000 → IsNamed (codes "g/C" ++ decimal n)
named_c n few = named 67 (omega arith) goes_c n few

pub named_d : (n : ℕ) → n < 10000 → IsNamed (codes "g/D" ++ decimal n)
named_d n few = named 68 (omega arith) goes_d n few

-- The strings that words spell, and that each unit of a text has 16 bits.
use Rattle.std.proofs.Common.{◌≡◌, ℕ, ◌<◌, ◌≤◌, ◌+◌, ◌^◌, inl, inr, Bool, true, false, ◌&&◌, if◌then◌else◌, List, [], ◌∷◌, ◌++◌}
use Rattle.std.proofs.Common.{length, get_or, drop, Option, Some, None, refl, sym, ap, ◌∙◌, add-one, arith, drop-cons}
use Rattle.std.specs.Prelude.{IsUtf8, nat_lt}
use Rattle.std.specs.Char.Escape.{encode_utf16}
use Rattle.std.specs.List.{flat_map, list_all}
use Rattle.std.specs.Str.{all_scalars, chars}
use Rattle.std.proofs.Math.Utf8.{scalar, scalar_cases}
use Rattle.std.proofs.lemmas.Bool.{and_parts, cases_lt}
use Rattle.std.proofs.lemmas.List.{append-nil, drop_all}
use Rattle.std.proofs.lemmas.List.Folds.{list_all-append}
use Rattle.std.proofs.lemmas.Str.{scalars-chars}
use Rattle.jv_base.proofs.Utf16Text.{one_unit, two_units}
use Rattle.jv_base.specs.Utf16.{IsTextOf, units_of}
use Rattle.jvm_model.specs.Start.{are_units}
use Rattle.run_command.proofs.Taking.{behind, joined}
use Rattle.run_command.specs.Arguments.{before, string_in, strings_in}

next_is : {A : Type 0} (xs : List A) (i : ℕ) (x : A) → i < length xs → x ≡ get_or xs i x → drop i xs ≡ x ∷ drop (i + 1) xs
next_is {A} xs i x lt is = (rw (add-one, drop-cons xs i x) refl) ∙ ap (λ (y : A). y ∷ drop (i + 1) xs) (sym is)

-- ---- units

abbrev is_unit : ℕ → Bool
is_unit u = nat_lt u (2 ^ 16)

char_units : (c : ℕ) → scalar c ≡ true → list_all is_unit (encode_utf16 c) ≡ true
char_units c h = elim (cases_lt c 65536) [
  | inl one ↦ rw (one_unit c one) (grind (arith, one))
  | inr two ↦
      let below : c < 1114112 = elim (scalar_cases c h) [ inl low ↦ omega arith | inr high ↦ high.1 ] in
      rw (two_units c two) (grind (arith, two, below))
]

chars_units : (cs : List ℕ) → all_scalars cs ≡ true → list_all is_unit (flat_map encode_utf16 cs) ≡ true
chars_units [] h = refl
chars_units (c ∷ cs) h =
    let p = and_parts (scalar c) (all_scalars cs) h in
    list_all-append is_unit (encode_utf16 c) (flat_map encode_utf16 cs)
    ∙ ap (λ (b : Bool). b && list_all is_unit (flat_map encode_utf16 cs)) (char_units c p.0) ∙ chars_units cs p.1

text_units : (text : List ℕ) → IsUtf8 text → list_all is_unit (units_of text) ≡ true
unfolding units_of
text_units text utf8 = chars_units (chars text) (scalars-chars text utf8)

-- the string of a text is told by the number of its units alone
by_length : (text : List ℕ) (b : Bool) → IsUtf8 text → nat_lt (length (units_of text)) (2 ^ 31) ≡ b
    → string_in text ≡ (if b then Some (units_of text) else None)
by_length text b utf8 e =
    ap (λ (c : Bool). let o : Option (List ℕ) = if c then Some (units_of text) else None in o)
    (ap (λ (c : Bool). c && nat_lt (length (units_of text)) (2 ^ 31)) (text_units text utf8) ∙ e)

pub is_string : (text units : List ℕ) → IsTextOf text units → length units < 2 ^ 31 → Some units ≡ string_in text
is_string text units of short =
    let e : nat_lt (length (units_of text)) (2 ^ 31) ≡ true = rw (of.1) (grind (arith, short)) in
    sym (by_length text true of.0 e ∙ ap (λ (us : List ℕ). let o : Option (List ℕ) = Some us in o) of.1)

pub is_no_string : (text units : List ℕ) → IsTextOf text units → 2 ^ 31 ≤ length units → None ≡ string_in text
is_no_string text units of long =
    let e : nat_lt (length (units_of text)) (2 ^ 31) ≡ false = rw (of.1) (grind (arith, long)) in
    sym (by_length text false of.0 e)

-- ---- one word after another

module _ (total : Option (List (List ℕ))) (texts words : List (List ℕ)) (n : ℕ)
    (so : behind texts (strings_in (drop n words)) ≡ total) where
  -- the next word, and those behind it
  one_more : (word : List ℕ) → n < length words → word ≡ get_or words n word
      → behind texts (before (string_in word) (strings_in (drop (n + 1) words))) ≡ total
  unfolding strings_in
  one_more word within is =
      ap (λ (l : List (List ℕ)). behind texts (strings_in l)) (sym (next_is words n word within is)) ∙ so

  pub string_taken : (word units : List ℕ) → n < length words → word ≡ get_or words n word
      → Some units ≡ string_in word → behind (texts ++ units ∷ []) (strings_in (drop (n + 1) words)) ≡ total
  string_taken word units within is e =
      joined texts units (strings_in (drop (n + 1) words))
      ∙ ap (λ (o : Option (List ℕ)). behind texts (before o (strings_in (drop (n + 1) words)))) e
      ∙ one_more word within is

  pub no_more : (word : List ℕ) → n < length words → word ≡ get_or words n word → None ≡ string_in word
      → None ≡ total
  no_more word within is e =
      ap (λ (o : Option (List ℕ)). behind texts (before o (strings_in (drop (n + 1) words)))) e
      ∙ one_more word within is

  pub all_strings : length words ≤ n → Some texts ≡ total
  unfolding strings_in
  all_strings all =
      ap (λ (l : List (List ℕ)). let o : Option (List (List ℕ)) = Some l in o) (sym (append-nil texts))
      ∙ ap (λ (l : List (List ℕ)). behind texts (strings_in l)) (sym (drop_all n words all)) ∙ so

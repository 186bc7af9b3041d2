-- Units as characters in UTF-8, one after another.
use Rattle.std.proofs.Common.{◌≡◌, ℕ, Bool, true, false, cond, ◌&&◌, List, [], ◌∷◌, ◌++◌, map, drop, Option, Some, None}
use Rattle.std.proofs.Common.{length, ◌<◌, refl, sym, ap, ◌∙◌, arith}
use Rattle.std.proofs.lemmas.List.{append-nil}
use Rattle.std.specs.Char.{encode_utf8}
use Rattle.std.specs.Char.Utf16.{is_high_surrogate, is_low_surrogate, lone_unit_char, surrogate_pair_char, utf16_chars}
use Rattle.std.specs.Option.{unwrap_or}
use Rattle.std.specs.Str.{encode_utf8_all}
use Rattle.run_command.specs.Shown.{in_utf8}
use Rattle.run_command.specs.bodies.Pairs.{pair_in}

-- the characters, the first of which is this one
abbrev all : List (Option ℕ) → List ℕ
all cs = encode_utf8_all (map (λ o. unwrap_or o 63) cs)

pair_front : (u : ℕ) (behind : List ℕ) (c : ℕ) → pair_in u behind ≡ Some c
    → utf16_chars (u ∷ behind) ≡ Some c ∷ utf16_chars (drop 1 behind)
unfolding utf16_chars
pair_front u [] c h = absurd cc
pair_front u (v ∷ us) c h = by (is_high_surrogate u && is_low_surrogate v) h
  where
    by : (b : Bool) → cond b (Some (surrogate_pair_char u v)) None ≡ Some c
        → cond b (Some (surrogate_pair_char u v) ∷ utf16_chars us) (lone_unit_char u ∷ utf16_chars (v ∷ us))
        ≡ Some c ∷ utf16_chars us
    by true e = ap (λ (o : Option ℕ). o ∷ utf16_chars us) e
    by false e = absurd cc

alone_front : (u : ℕ) (behind : List ℕ) → pair_in u behind ≡ None
    → utf16_chars (u ∷ behind) ≡ lone_unit_char u ∷ utf16_chars behind
unfolding utf16_chars
alone_front u [] h = refl
alone_front u (v ∷ us) h = by (is_high_surrogate u && is_low_surrogate v) h
  where
    by : (b : Bool) → (let o : Option ℕ = cond b (Some (surrogate_pair_char u v)) None in o) ≡ None
        → cond b (Some (surrogate_pair_char u v) ∷ utf16_chars us) (lone_unit_char u ∷ utf16_chars (v ∷ us))
        ≡ lone_unit_char u ∷ utf16_chars (v ∷ us)
    by true e = absurd cc
    by false e = refl

-- a pair comes first
pub pair_shown : (u : ℕ) (behind : List ℕ) (c : ℕ) → pair_in u behind ≡ Some c
    → in_utf8 (u ∷ behind) ≡ encode_utf8 c ++ in_utf8 (drop 1 behind)
unfolding in_utf8
pair_shown u behind c h = ap all (pair_front u behind c h)

-- a unit comes first that is in no pair
pub alone_shown : (u : ℕ) (behind : List ℕ) → pair_in u behind ≡ None
    → in_utf8 (u ∷ behind) ≡ encode_utf8 (unwrap_or (lone_unit_char u) 63) ++ in_utf8 behind
unfolding in_utf8
alone_shown u behind h = ap all (alone_front u behind h)

-- no unit is left
pub all_shown : (text left total : List ℕ) → length left < 1 → text ++ in_utf8 left ≡ total → text ≡ total
unfolding in_utf8 utf16_chars
all_shown text [] total none so = sym (append-nil text) ∙ so
all_shown text (u ∷ us) total none so = absurd (omega (arith, none))

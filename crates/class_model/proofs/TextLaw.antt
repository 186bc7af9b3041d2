-- Units are read as a text exactly where they are those of the text.
use Rattle.std.proofs.Common.{◌≡◌, ℕ, suc, ◌+◌, ◌-◌, ◌*◌, ◌<◌, ◌≤◌, Bool, true, false, cond, ◌&&◌, leb, ltb, List, []}
use Rattle.std.proofs.Common.{◌∷◌, ◌++◌, Option, Some, None, refl, sym, ap, ap₂, subst, ◌∙◌, arith, IsUtf8}
use Rattle.std.specs.List.{flat_map}
use Rattle.std.specs.Str.{chars, encode_utf8_all, all_scalars}
use Rattle.std.specs.Char.Escape.{encode_utf16}
use Rattle.std.specs.Char.Utf16.{utf16_chars, lone_unit_char, surrogate_pair_char, is_high_surrogate, is_low_surrogate}
use Rattle.std.proofs.Math.Utf8.{scalar, low_scalar}
use Rattle.std.proofs.str.Utf16.{one_unit, pair_units}
use Rattle.std.proofs.lemmas.Bool.{leb-true, leb-false, ltb-true, ltb-false, le-leb, lt-ltb, le-ltb, and_parts}
use Rattle.std.proofs.lemmas.Str.{chars-encodes}
use Rattle.jv_base.specs.Mutf8.{IsUnits}
use Rattle.jv_base.specs.Utf16.{units_of}
use Rattle.jv_base.proofs.Options.{mapped}
use Rattle.class_model.specs.Lookups.{with_first, all_there, text_of}

-- the characters of units, where each surrogate has its partner
pub record AreCharacters (units cs : List ℕ) : Type 0 where
  pub spelled : units ≡ flat_map encode_utf16 cs
  pub scalars : all_scalars cs ≡ true

-- both parts of a list that is there
first_there : {A : Type 0} (a : Option A) (b : Option (List A)) (cs : List A) → with_first a b ≡ Some cs
    → (x : A) × (xs : List A) × (a ≡ Some x) × (b ≡ Some xs) × (cs ≡ x ∷ xs)
first_there (Some x) (Some xs) cs h = (x, xs, refl, refl, sym (let e : x ∷ xs ≡ cs = cc in e))
first_there (Some x) None cs h = absurd cc
first_there None (Some xs) cs h = absurd cc
first_there None None cs h = absurd cc

-- a character from U+E000 on
high_scalar : (c : ℕ) → 0xE000 ≤ c → c < 0x110000 → scalar c ≡ true
high_scalar c from below = rw (le-ltb c 0xD800 (omega arith), le-leb 0xE000 c from, lt-ltb c 0x110000 below) refl

-- a unit that is a character alone
alone : (u c : ℕ) → u < 65536 → lone_unit_char u ≡ Some c → (c ≡ u) × (scalar u ≡ true)
alone u c below = by (leb 0xD800 u) (ltb u 0xE000) refl refl
  where
    by : (a b : Bool) → leb 0xD800 u ≡ a → ltb u 0xE000 ≡ b → cond (a && b) None (Some u) ≡ Some c
        → (c ≡ u) × (scalar u ≡ true)
    by true true ea eb h = absurd cc
    by true false ea eb h = let e : u
        ≡ c = cc in let from : 0xE000 ≤ u = ltb-false u 0xE000 eb in (sym e, high_scalar u from (omega arith))
    by false b ea eb h = let e : u
        ≡ c = cc in let under : u < 0xD800 = leb-false 0xD800 u ea in (sym e, low_scalar u under)

-- a pair of surrogates is a character
paired : (u v : ℕ) → (is_high_surrogate u && is_low_surrogate v) ≡ true
    → (encode_utf16 (surrogate_pair_char u v) ≡ u ∷ v ∷ []) × (scalar (surrogate_pair_char u v) ≡ true)
paired u v h =
    let parts = and_parts _ _ h in
    let high = and_parts _ _ parts.0 in
    let low = and_parts _ _ parts.1 in
    let a : 0xD800 ≤ u = leb-true _ _ high.0 in
    let b : u < 0xDC00 = ltb-true _ _ high.1 in
    let c : 0xDC00 ≤ v = leb-true _ _ low.0 in
    let d : v < 0xE000 = ltb-true _ _ low.1 in
    let is : surrogate_pair_char u v ≡ 0x10000 + ((u - 0xD800) * 0x400 + (v - 0xDC00)) = omega arith in
    (ap encode_utf16 is ∙ pair_units u v a c d, high_scalar (surrogate_pair_char u v) (omega arith) (omega arith))

-- units behind the first are units
units_behind : (u : ℕ) (us : List ℕ) → IsUnits (u ∷ us) → IsUnits us
units_behind u us fit i = fit (suc i)

-- a character before others
with_char : (front us cs : List ℕ) (c : ℕ) → encode_utf16 c ≡ front → scalar c ≡ true → AreCharacters us cs
    → AreCharacters (front ++ us) (c ∷ cs)
with_char front us cs c is one h = record {
  spelled = ap₂ (λ (a b : List ℕ). a ++ b) (sym is) h.spelled;
  scalars = rw (one, h.scalars) refl;
}

-- units whose characters are all there
characters : (units cs : List ℕ) → IsUnits units → all_there (utf16_chars units) ≡ Some cs → AreCharacters units cs
unfolding utf16_chars
characters [] cs fit h = let e : []
    ≡ cs = cc in subst (λ (t : List ℕ). AreCharacters [] t) e (record { spelled = refl; scalars = refl })
characters (u ∷ []) cs fit h =
    let f = first_there (lone_unit_char u) (Some []) cs h in
    let a = alone u f.0 (fit 0) f.2 in
    let none : [] ≡ f.1 = (let e : Some [] ≡ Some f.1 = f.3 in cc) in
    subst (λ (t : List ℕ). AreCharacters (u ∷ []) t) (sym f.4)
    (subst (λ (t : List ℕ). AreCharacters (u ∷ []) (f.0 ∷ t)) none
    (subst (λ (c : ℕ). AreCharacters (u ∷ []) (c ∷ [])) (sym a.0)
    (with_char (u ∷ []) [] [] u (one_unit u (fit 0)) a.1 (record { spelled = refl; scalars = refl }))))
characters (u ∷ v ∷ us) cs fit h = by (is_high_surrogate u && is_low_surrogate v) refl h
    (λ es k. characters us es (units_behind v us (units_behind u (v ∷ us) fit)) k)
    (λ es k. characters (v ∷ us) es (units_behind u (v ∷ us) fit) k)
  where
    by : (b : Bool) → (is_high_surrogate u && is_low_surrogate v) ≡ b
        → all_there (cond b (Some (surrogate_pair_char u v) ∷ utf16_chars us) (lone_unit_char u ∷ utf16_chars (v ∷ us)))
        ≡ Some cs
        → ((es : List ℕ) → all_there (utf16_chars us) ≡ Some es → AreCharacters us es)
        → ((es : List ℕ) → all_there (utf16_chars (v ∷ us)) ≡ Some es → AreCharacters (v ∷ us) es)
        → AreCharacters (u ∷ v ∷ us) cs
    by true e g behind_both behind_one =
        let f = first_there (Some (surrogate_pair_char u v)) (all_there (utf16_chars us)) cs g in
        let p = paired u v e in
        let is : surrogate_pair_char u v ≡ f.0 = (let k : Some (surrogate_pair_char u v) ≡ Some f.0 = f.2 in cc) in
        subst (λ (t : List ℕ). AreCharacters (u ∷ v ∷ us) t) (sym f.4)
        (subst (λ (c : ℕ). AreCharacters (u ∷ v ∷ us) (c ∷ f.1)) is
        (with_char (u ∷ v ∷ []) us f.1 (surrogate_pair_char u v) p.0 p.1 (behind_both f.1 f.3)))
    by false e g behind_both behind_one =
        let f = first_there (lone_unit_char u) (all_there (utf16_chars (v ∷ us))) cs g in
        let a = alone u f.0 (fit 0) f.2 in
        subst (λ (t : List ℕ). AreCharacters (u ∷ v ∷ us) t) (sym f.4)
        (subst (λ (c : ℕ). AreCharacters (u ∷ v ∷ us) (c ∷ f.1)) (sym a.0)
        (with_char (u ∷ []) (v ∷ us) f.1 u (one_unit u (fit 0)) a.1 (behind_one f.1 f.3)))

-- what is read as a text is its units
pub text_found : (units text : List ℕ) → IsUnits units → text_of units ≡ Some text
    → IsUtf8 text × (units ≡ units_of text)
unfolding text_of units_of
text_found units text fit h =
    let m = mapped encode_utf8_all (all_there (utf16_chars units)) text h in
    let a = characters units m.0 fit m.1 in
    ((m.0, (a.scalars, m.2)), a.spelled ∙ ap (flat_map encode_utf16) (sym (chars-encodes m.0 a.scalars) ∙ ap chars m.2))

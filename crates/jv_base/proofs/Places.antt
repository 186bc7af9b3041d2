-- Class names by places in a text.
use Rattle.std.proofs.Common.{◌≡◌, ℕ, ◌+◌, ◌-◌, ◌<◌, ◌≤◌, ◌≢◌, Bool, List, [], ◌∷◌, ◌++◌, length, get_or, take, drop}
use Rattle.std.proofs.Common.{ne_eqb, Option, Some, None, refl, ap, ◌∙◌, arith, IsUtf8}
use Rattle.std.specs.Prelude.{slice_range}
use Rattle.std.specs.Str.{IsCharBoundary}
use Rattle.std.proofs.lemmas.List.{take_more, get_or-drop, length-drop}
use Rattle.std.proofs.lemmas.Str.{IsCharBoundary-after_ascii}
use Rattle.jv_base.specs.bodies.DescriptorPlaces.{grown_at, IsGrownPlaced, more_of}
use Rattle.jv_base.specs.Descriptors.{grown, name, name_on}
use Rattle.jv_base.specs.Names.{part_after}

pub range_more : (text : List ℕ) (from at b : ℕ) → from ≤ at → at < length text → get_or text at 0 ≡ b
    → slice_range text from (at + 1) ≡ slice_range text from at ++ b ∷ []
range_more text from at b order within is =
    let size = length-drop from text in
    let e : at + 1 - from ≡ (at - from) + 1 = omega arith in
    let f : from + (at - from) ≡ at = omega arith in
    ap (λ (n : ℕ). take n (drop from text)) e ∙ take_more (drop from text) (at - from) 0 (omega arith)
    ∙ ap (λ (n : ℕ). take (at - from) (drop from text) ++ n ∷ [])
    (get_or-drop from text (at - from) 0 ∙ ap (λ (n : ℕ). get_or text n 0) f ∙ is)

pub name_goes_on : (text : List ℕ) (dims from at b : ℕ) (in_part : Option Bool) → from ≤ at → at < length text
    → get_or text at 0 ≡ b
    → grown_at text (at + 1) (more_of dims from in_part) ≡ name_on dims (slice_range text from at ++ b ∷ []) in_part
name_goes_on text dims from at b (Some in_part) order within is = ap (λ (t : List ℕ). name_on dims t (Some in_part))
    (range_more text from at b order within is)
name_goes_on text dims from at b None order within is = refl

pub name_placed : (text : List ℕ) (dims from at : ℕ) (in_part : Option Bool) → from ≤ at → IsCharBoundary text from
    → IsGrownPlaced text at (more_of dims from in_part)
name_placed text dims from at (Some in_part) order starts = (order, starts)
name_placed text dims from at None order starts = tt

pub name_byte : (dims : ℕ) (text : List ℕ) (in_part : Bool) (b : ℕ) → b ≢ 59
    → grown (name dims text in_part) b ≡ name_on dims (text ++ b ∷ []) (part_after in_part b)
unfolding grown
name_byte dims text in_part b other = rw (ne_eqb b 59 other) refl

pub begins_behind : (text : List ℕ) (at b : ℕ) → IsUtf8 text → at < length text → get_or text at 0 ≡ b → b < 128
    → IsCharBoundary text (at + 1)
begins_behind text at b utf8 within is ascii = IsCharBoundary-after_ascii text at utf8 within (omega arith)

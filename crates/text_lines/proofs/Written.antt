-- Lines that are written one behind the other are the lines of the whole.
use Rattle.std.proofs.Common.{◌≡◌, ◌≢◌, ℕ, zero, suc, ◌+◌, ◌-◌, ◌<◌, ◌≤◌, Bool, true, false, not, cond, eqb, List, []}
use Rattle.std.proofs.Common.{◌∷◌, ◌++◌, map, length, get_or, take, refl, sym, ap, subst, ◌∙◌, append_assoc, arith}
use Rattle.std.proofs.Common.{ne_eqb, inl, inr}
use Rattle.std.specs.List.{AllByRecursion, flat_map, slice_split}
use Rattle.std.specs.Str.{IsUtf8}
use Rattle.std.specs.Str.Lines.{lines, lines_of_parts, strip_carriage_return}
use Rattle.std.proofs.lemmas.List.Splits.{length-slice_split}
use Rattle.text_lines.specs.Cut.{Lacks}
use Rattle.text_lines.specs.Lines.{AllSpell, AreSpelled, is_passed_over, saying}
use Rattle.text_lines.proofs.FirstLine.{part_is_line}

-- the text is a line by itself, with or without its end
abbrev pub IsPlain : List ℕ → Type 0
IsPlain text = Lacks 10 text × Lacks 13 text

parts_at : (x y : List ℕ) → Lacks 10 x → slice_split (λ b. eqb b 10) (x ++ 10 ∷ y) ≡ x ∷ slice_split (λ b. eqb b 10) y
parts_at [] y h = refl
parts_at (b ∷ x) y h = let other : eqb b 10 ≡ false = ne_eqb b 10 h.0 in rw (other, parts_at x y h.1) refl

lacks_at : (byte : ℕ) (text : List ℕ) (i : ℕ) → Lacks byte text → i < length text → get_or text i 0 ≢ byte
lacks_at byte [] i h lt = absurd (omega arith)
lacks_at byte (b ∷ text) zero h lt = h.0
lacks_at byte (b ∷ text) (suc i) h lt = lacks_at byte text i h.1 (omega arith)

last_lacks : (text : List ℕ) → Lacks 13 text → get_or text (length text - 1) 0 ≢ 13
last_lacks [] h e = absurd (omega arith)
last_lacks (b ∷ text) h e = lacks_at 13 (b ∷ text) (length (b ∷ text) - 1) h (omega arith) e

whole : (text : List ℕ) → Lacks 13 text → strip_carriage_return text ≡ text
whole text h =
    let other : eqb (get_or text (length text - 1) 0) 13 ≡ false = ne_eqb _ 13 (last_lacks text h) in rw other refl

-- the first line, and those behind it
pub one_line : (x rest : List ℕ) → IsPlain x → lines ((x ++ 10 ∷ []) ++ rest) ≡ x ∷ lines rest
one_line x rest h =
    ap lines (append_assoc x (10 ∷ []) rest) ∙ ap lines_of_parts (parts_at x rest h.0)
    ∙ part_is_line x (slice_split (λ b. eqb b 10) rest) (omega (arith, length-slice_split (λ b. eqb b 10) rest))
    ∙ ap (λ (t : List ℕ). t ∷ lines rest) (whole x h.1)

-- the lines of texts with their ends
pub all_lines : {X : Type 0} (text_of : X → List ℕ) (xs : List X) → AllByRecursion (λ x. IsPlain (text_of x)) xs
    → lines (flat_map (λ x. text_of x ++ 10 ∷ []) xs) ≡ map text_of xs
all_lines text_of [] h = refl
all_lines text_of (x ∷ xs) h =
    one_line (text_of x) (flat_map (λ y. text_of y ++ 10 ∷ []) xs) h.0
    ∙ ap (λ (t : List (List ℕ)). text_of x ∷ t) (all_lines text_of xs h.1)

-- an item's text is a line that spells it
pub record IsWritten {X : Type 0} (spells : List ℕ → X → Type 0) (text_of : X → List ℕ) (x : X) : Type 0 where
  pub plain : IsPlain (text_of x)
  pub utf8 : IsUtf8 (text_of x)
  pub says : is_passed_over (text_of x) ≡ false
  pub spelled : spells (text_of x) x

all_plain : {X : Type 0} (spells : List ℕ → X → Type 0) (text_of : X → List ℕ) (xs : List X)
    → AllByRecursion (IsWritten spells text_of) xs → AllByRecursion (λ x. IsPlain (text_of x)) xs
all_plain spells text_of [] h = tt
all_plain spells text_of (x ∷ xs) h = (h.0.plain, all_plain spells text_of xs h.1)

all_utf8 : {X : Type 0} (spells : List ℕ → X → Type 0) (text_of : X → List ℕ) (xs : List X)
    → AllByRecursion (IsWritten spells text_of) xs → AllByRecursion IsUtf8 (map text_of xs)
all_utf8 spells text_of [] h = tt
all_utf8 spells text_of (x ∷ xs) h = (h.0.utf8, all_utf8 spells text_of xs h.1)

all_say : {X : Type 0} (spells : List ℕ → X → Type 0) (text_of : X → List ℕ) (xs : List X)
    → AllByRecursion (IsWritten spells text_of) xs → AllSpell spells (saying (map text_of xs)) xs
all_say spells text_of [] h = tt
all_say spells text_of (x ∷ xs) h =
    subst (λ (b : Bool). AllSpell spells
    (cond (not b) (text_of x ∷ saying (map text_of xs)) (saying (map text_of xs))) (x ∷ xs))
    (sym h.0.says) (h.0.spelled, all_say spells text_of xs h.1)

-- what is written spells the items
pub all_written : {X : Type 0} (spells : List ℕ → X → Type 0) (text_of : X → List ℕ) (xs : List X)
    → AllByRecursion (IsWritten spells text_of) xs
    → AreSpelled spells (lines (flat_map (λ x. text_of x ++ 10 ∷ []) xs)) xs
all_written spells text_of xs h =
    subst (λ (ls : List (List ℕ)). AreSpelled spells ls xs) (sym (all_lines text_of xs (all_plain spells text_of xs h)))
    (record { utf8 = all_utf8 spells text_of xs h; spelled = all_say spells text_of xs h })

-- What a loop over lines keeps, and how it ends.
use Rattle.std.proofs.Common.{◌≡◌, ℕ, ◌+◌, Bool, true, false, List, [], ◌∷◌, Option, Some, None, Result, Ok, Err, refl}
use Rattle.std.proofs.Common.{sym, ap, subst, ◌∙◌, inl, inr}
use Rattle.std.specs.Str.{IsUtf8, is_utf8}
use Rattle.std.proofs.lemmas.Bool.{cases_Bool}
use Rattle.std.proofs.lemmas.Str.{IsUtf8-from_is_utf8, is_utf8-from_IsUtf8}
use Rattle.jv_base.specs.Outcome.{◌>>=◌, FaultIs}
use Rattle.jv_base.specs.declared.outcome.Or.{Or}
use Rattle.jv_base.specs.declared.outcome.Or.TheVariants.{Fault, OutOfMemory}
use Rattle.text_lines.specs.Lines.{at_line, is_passed_over, item_added, line_read, line_step, read_lines}
use Rattle.text_lines.specs.bodies.Steps.{ChangesOr}

-- ---- a line

-- a line that isn't in UTF-8
pub not_utf8_line : {X S K F : Type 0} (fault : ℕ → K → F) (not_utf8 bad_line : K) (item_of : List ℕ → Option X)
    (add : X → S → Result S K) (n : ℕ) (l : List ℕ) (s : S) → ¬ (IsUtf8 l)
    → line_step fault not_utf8 bad_line item_of add n l s ≡ Err (fault n not_utf8)
not_utf8_line fault nu bad item_of add n l s h =
    let other : is_utf8 l ≡ false = elim (cases_Bool (is_utf8 l)) [
      | inl good ↦ absurd (h (IsUtf8-from_is_utf8 l good))
      | inr wrong ↦ wrong
    ] in rw other refl

-- a line that says nothing
pub nothing_said : {X S K F : Type 0} (fault : ℕ → K → F) (not_utf8 bad_line : K) (item_of : List ℕ → Option X)
    (add : X → S → Result S K) (n : ℕ) (l : List ℕ) (s : S) → IsUtf8 l → is_passed_over l ≡ true
    → line_step fault not_utf8 bad_line item_of add n l s ≡ Ok s
nothing_said fault nu bad item_of add n l s u p =
    let good : is_utf8 l ≡ true = is_utf8-from_IsUtf8 l u in rw (good, p) refl

-- a line that spells an item, or none
pub item_said : {X S K F : Type 0} (fault : ℕ → K → F) (not_utf8 bad_line : K) (item_of : List ℕ → Option X)
    (add : X → S → Result S K) (n : ℕ) (l : List ℕ) (s : S) (o : Option X) → IsUtf8 l → is_passed_over l ≡ false
    → item_of l ≡ o
    → line_step fault not_utf8 bad_line item_of add n l s ≡ at_line fault n (item_added bad_line add o s)
item_said fault nu bad item_of add n l s o u p e =
    let good : is_utf8 l ≡ true = is_utf8-from_IsUtf8 l u in rw (good, p, e) refl

-- ---- answers

-- the fault that a call told is the one that is due
pub fault_told : (T : Type 0) {S F : Type 0} (o : Or F) (f : F) (new : S) (due : Result S F) → o ≡ Fault f → due ≡ Err f
    → ChangesOr {T = T} (Err o) new due
fault_told T o f new due e h = subst (λ (x : Or _). ChangesOr {T = T} (Err x) new due) (sym e) h

pub fault_due : {T S F : Type 0} (r : Result T (Or F)) (o : Or F) (f : F) (new : S) (due : Result S F) → r ≡ Err o
    → o ≡ Fault f
    → ChangesOr r new due → due ≡ Err f
fault_due {T} r o f new due e g h =
    subst (λ (x : Or _). ChangesOr {T = T} (Err x) new due) g (subst (λ (x : Result T (Or _)). ChangesOr x new due) e h)

-- ---- lines one by one

-- a line was read
pub line_taken : {S F : Type 0} (step : ℕ → List ℕ → S → Result S F) (n : ℕ) (ls ls2 : List (List ℕ)) (l : List ℕ)
    (s t : S)
    (total : Result S F) → ls ≡ l ∷ ls2 → step n l s ≡ Ok t → read_lines step n ls s ≡ total
    → read_lines step (n + 1) ls2 t ≡ total
unfolding read_lines
line_taken step n ls ls2 l s t total e h so_far =
    sym (ap (λ (r : Result _ _). r >>= (λ u. read_lines step (n + 1) ls2 u)) h)
    ∙ ap (λ (k : List (List ℕ)). read_lines step n k s) (sym e) ∙ so_far

-- a line is at fault
pub line_refused : {S F : Type 0} (step : ℕ → List ℕ → S → Result S F) (n : ℕ) (ls ls2 : List (List ℕ)) (l : List ℕ)
    (s : S)
    (f : F) (total : Result S F) → ls ≡ l ∷ ls2 → step n l s ≡ Err f → read_lines step n ls s ≡ total → total ≡ Err f
unfolding read_lines
line_refused step n ls ls2 l s f total e h so_far =
    sym so_far ∙ ap (λ (k : List (List ℕ)). read_lines step n k s) e
    ∙ ap (λ (r : Result _ _). r >>= (λ u. read_lines step (n + 1) ls2 u)) h

-- no line is left
pub lines_done : {S F : Type 0} (step : ℕ → List ℕ → S → Result S F) (n : ℕ) (ls : List (List ℕ)) (s : S)
    (total : Result S F)
    → ls ≡ [] → read_lines step n ls s ≡ total → total ≡ Ok s
unfolding read_lines
lines_done step n ls s total e so_far = sym so_far ∙ ap (λ (k : List (List ℕ)). read_lines step n k s) e

-- the fault at which a loop stops is the one that is due, or memory was wanting
pub loop_stops : (T : Type 0) {S F : Type 0} (step : ℕ → List ℕ → S → Result S F) (n : ℕ) (ls ls2 : List (List ℕ))
    (l : List ℕ) (s new : S)
    (o : Or F) (total : Result S F) → ls ≡ l ∷ ls2 → ChangesOr {T = T} (Err o) new (step n l s)
    → read_lines step n ls s ≡ total
    → FaultIs o total
loop_stops T step n ls ls2 l s new (Fault f) total e h so_far = line_refused step n ls ls2 l s f total e h so_far
loop_stops T step n ls ls2 l s new OutOfMemory total e h so_far = tt

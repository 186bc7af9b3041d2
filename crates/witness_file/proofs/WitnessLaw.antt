-- A text stands for the witness that is read of it, and for no other; what is written stands for what was written.
use Rattle.std.proofs.Common.{◌≡◌, ℕ, ◌+◌, Bool, true, false, not, ◌||◌, List, [], ◌∷◌, ◌++◌, length, Result, Ok, Err}
use Rattle.std.proofs.Common.{refl, sym, ap, subst, ◌∙◌}
use Rattle.std.specs.List.{AllByRecursion, flat_map}
use Rattle.std.specs.Str.{IsUtf8}
use Rattle.std.specs.Str.Lines.{lines}
use Rattle.jv_base.specs.Outcome.{◌>>=◌, FaultIs}
use Rattle.jv_base.specs.declared.outcome.Or.{Or}
use Rattle.jv_base.specs.declared.outcome.Or.TheVariants.{Fault, OutOfMemory}
use Rattle.jv_base.proofs.Lists.{all_split}
use Rattle.text_lines.specs.Lines.{AllSpell, AreSpelled, at_line, read_lines, saying}
use Rattle.text_lines.proofs.ReadLines.{at_ok, bind_ok, lines_found, lines_only, saying_utf8}
use Rattle.witness_file.specs.WitnessLines.{IsLine, SpellsLine, line_text, method_line_text}
use Rattle.witness_file.specs.WitnessReading.{with_line, all_methods, awaits_more, witness_at_end, fault, nothing}
use Rattle.witness_file.specs.WitnessReading.{read_witness}
use Rattle.witness_file.specs.WitnessReading.{step}
use Rattle.witness_file.specs.Witnesses.{AreTexts, IsWitness, Reading, StandFor, method_lines, witness_lines}
use Rattle.witness_file.specs.Witnesses.{witness_text}
use Rattle.witness_file.specs.declared.line.WitnessLine.{WitnessLine}
use Rattle.witness_file.specs.declared.line.WitnessLine.TheVariants as line
use Rattle.witness_file.specs.declared.reading.WitnessRead.{WitnessRead}
use Rattle.witness_file.specs.declared.witness.MethodWitness.{MethodWitness}
use Rattle.witness_file.specs.declared.witness.WitFault.{WitFault}
use Rattle.witness_file.specs.declared.witness.WitKind.TheVariants.{NotUtf8, BadLine}
use Rattle.witness_file.specs.declared.witness.Witness.{Witness}
use Rattle.witness_file.proofs.LineLaw.{line_says}
use Rattle.witness_file.proofs.Only.{told_only}
use Rattle.witness_file.proofs.Told.{told_by}
use Rattle.witness_file.proofs.WrittenLines.{IsTextLine, text_spells}

pub all_valid : (ls : List (List ℕ)) (xs : List WitnessLine) → AllSpell SpellsLine ls xs → AllByRecursion IsLine xs
all_valid [] [] h = tt
all_valid [] (x ∷ xs) h = absurd h
all_valid (l ∷ ls) [] h = tt
all_valid (l ∷ ls) (x ∷ xs) h = (h.0.0, all_valid ls xs h.1)

-- lines that stand for a witness are read
pub stand_only : (ls : List (List ℕ)) (w : Witness) → StandFor ls w
    → (r : WitnessRead) × (read_lines step 1 ls nothing ≡ Ok r) × (witness_at_end r ≡ Ok w)
stand_only ls w h =
    let r = told_only w h.witness in
    (r.0, lines_only fault NotUtf8 BadLine with_line line_says 1 ls (witness_lines w) nothing r.0 h.spelled r.1, r.2)

-- what is read is what the text stands for
pub read_found : (text : List ℕ) (w : Witness) → read_witness text ≡ Ok w → Reading text w
unfolding read_witness
read_found text w h =
    let b = bind_ok (read_lines step 1 (lines text) nothing)
    (λ r. at_line fault (length (lines text) + 1) (witness_at_end r)) w h in
    let found = lines_found fault NotUtf8 BadLine with_line line_says 1 (lines text) nothing b.0 b.1 in
    let end = at_ok fault (length (lines text) + 1) (witness_at_end b.0) w b.2 in
    let told = told_by found.0 b.0 w (all_valid (saying (lines text)) found.0 found.1.spelled) found.2 end in
    record { witness = told.1; spelled = subst (AreSpelled SpellsLine (lines text)) told.0 found.1 }

-- what the text stands for is read
pub read_only : (text : List ℕ) (w : Witness) → Reading text w → read_witness text ≡ Ok w
unfolding read_witness
read_only text w h = let r = stand_only (lines text) w h in rw (r.1, r.2) refl

-- what is written is read back
pub written_back : (w : Witness) → IsWitness w → AreTexts w.methods → read_witness (witness_text w) ≡ Ok w
written_back w h t = read_only (witness_text w) w (record { witness = h; spelled = text_spells w h t })

text_line : (l : List ℕ) (x : WitnessLine) → IsUtf8 l → SpellsLine l x → IsTextLine x
unfolding line_text
text_line l line.Head u h = tt
text_line l (line.Method class name ty) u h = subst IsUtf8 h.1 u
text_line l (line.Step n) u h = tt
text_line l (line.Act a) u h = tt

spelled_lines : (ls : List (List ℕ)) (xs : List WitnessLine) → AllByRecursion IsUtf8 ls → AllSpell SpellsLine ls xs
    → AllByRecursion IsTextLine xs
spelled_lines [] [] u h = tt
spelled_lines [] (x ∷ xs) u h = absurd h
spelled_lines (l ∷ ls) [] u h = tt
spelled_lines (l ∷ ls) (x ∷ xs) u h = (text_line l x u.0 h.0, spelled_lines ls xs u.1 h.1)

texts_of : (ms : List MethodWitness) → AllByRecursion IsTextLine (flat_map method_lines ms) → AreTexts ms
texts_of [] h = tt
texts_of (m ∷ ms) h =
    let p = all_split IsTextLine (method_lines m) (flat_map method_lines ms) h in (p.0.0, texts_of ms p.1)

-- what a text stands for is, once written, read back
pub read_again : (text : List ℕ) (w : Witness) → Reading text w → read_witness (witness_text w) ≡ Ok w
read_again text w h = written_back w h.witness
    (texts_of w.methods
    (spelled_lines (saying (lines text)) (witness_lines w)
    (saying_utf8 (lines text) h.spelled.utf8) h.spelled.spelled).1)

-- a text stands for one witness at most
pub one_reading : (text : List ℕ) (w v : Witness) → Reading text w → Reading text v → w ≡ v
one_reading text w v h k = let p = read_only text w h in let q = read_only text v k in cc

-- ---- what the reader answers

-- the witness of what lines told
pub witness_read : (text : List ℕ) (r : WitnessRead) (w : Witness) → read_lines step 1 (lines text) nothing ≡ Ok r
    → r.begun ≡ true → awaits_more r.last ≡ false → w.methods ≡ all_methods r → read_witness text ≡ Ok w
unfolding read_witness
witness_read text r w h b d e =
    rw (h, b, d)
    (ap (λ (ms : List MethodWitness). let R : Result Witness WitFault = Ok (record { methods = ms }) in R) (sym e))

-- the text ends too soon
pub witness_ends : (text : List ℕ) (r : WitnessRead) → read_lines step 1 (lines text) nothing ≡ Ok r
    → not r.begun || awaits_more r.last ≡ true → read_witness text ≡ Err (fault (length (lines text) + 1) BadLine)
unfolding read_witness
witness_ends text r h b = rw (h, b) refl

-- the first line at fault
pub witness_refused : (text : List ℕ) (o : Or WitFault) → FaultIs o (read_lines step 1 (lines text) nothing)
    → FaultIs o (read_witness text)
unfolding read_witness
witness_refused text (Fault f) h = rw h refl
witness_refused text OutOfMemory h = tt

pub not_begun : (b c : Bool) → b ≡ false → not b || c ≡ true
not_begun false c h = refl
not_begun true c h = absurd cc

pub more_awaited : (b c : Bool) → c ≡ true → not b || c ≡ true
more_awaited false c h = refl
more_awaited true c h = h

-- the fault that tells that the text ends too soon
pub witness_short : (text : List ℕ) (r : WitnessRead) (o : Or WitFault) (n : ℕ)
    → read_lines step 1 (lines text) nothing ≡ Ok r
    → not r.begun || awaits_more r.last ≡ true → n ≡ length (lines text) + 1 → o ≡ Fault (fault n BadLine)
    → FaultIs o (read_witness text)
witness_short text r o n h b e f =
    subst (λ (x : Or WitFault). FaultIs x (read_witness text)) (sym f)
    (witness_ends text r h b ∙ ap (λ (i : ℕ). let R : Result Witness WitFault = Err (fault i BadLine) in R) (sym e))

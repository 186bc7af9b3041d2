-- The lines of a witness as it is written: each is a line by itself.
use Rattle.std.proofs.Common.{◌≡◌, ◌≢◌, ℕ, zero, suc, ◌+◌, ◌-◌, ◌<◌, ◌≤◌, ◌^◌, ℤ, pos, negsuc, Bool, true, false, leb}
use Rattle.std.proofs.Common.{ltb, ◌&&◌, List, [], ◌∷◌, ◌++◌, map, length, get_or, Option, Some, None, Result, Ok, refl}
use Rattle.std.proofs.Common.{sym, ap, subst, ◌∙◌, append_assoc, arith, codes, inl, inr}
use Rattle.std.specs.Prelude.{IfSome, IsTrue}
use Rattle.std.specs.Fmt.{decimal, signed_decimal}
use Rattle.std.specs.List.{AllByRecursion, flat_map, list_all}
use Rattle.std.specs.Str.{IsAscii, IsUtf8}
use Rattle.std.specs.Str.Lines.{lines}
use Rattle.std.proofs.lemmas.Bool.{and_parts, leb-true, ltb-true}
use Rattle.std.proofs.lemmas.Fmt.{IsAscii-decimal}
use Rattle.std.proofs.lemmas.List.{length-map}
use Rattle.std.proofs.lemmas.Str.{IsAscii-append, IsUtf8-from_ascii}
use Rattle.jv_base.specs.Descriptors.{SpellsMethod, read_method}
use Rattle.jv_base.specs.External.{dotted}
use Rattle.jv_base.specs.Names.{is_name_byte}
use Rattle.jv_base.specs.Types as descriptor
use Rattle.jv_base.specs.declared.types.MethodType.{MethodType}
use Rattle.jv_base.proofs.Lists.{all_append}
use Rattle.text_lines.specs.Cut.{Lacks}
use Rattle.text_lines.specs.Lines.{AllSpell, AreSpelled, is_passed_over, saying}
use Rattle.text_lines.specs.Members.{arguments_text, method_text, result_text}
use Rattle.text_lines.proofs.Numerals.{decimal_digits}
use Rattle.text_lines.proofs.Parts.{lacks_append}
use Rattle.text_lines.proofs.Words.{class_word, digits_word, is_word_byte, method_word, result_word, word_lacks}
use Rattle.text_lines.proofs.Written.{IsPlain, IsWritten, all_written}
use Rattle.text_lines.proofs.Words.{returned_is}
use Rattle.text_lines.proofs.Arguments.{arguments_lack_byte}
use Rattle.code_edit.specs.Acts.{pass_of, step_passes}
use Rattle.code_edit.specs.declared.act.Act.{Act}
use Rattle.code_edit.specs.declared.act.Act.TheVariants as act
use Rattle.code_edit.specs.declared.act.PassEdits.{PassEdits}
use Rattle.witness_file.specs.ActWords.{parts_of}
use Rattle.witness_file.specs.WitnessLines.{AreNumbers, IsAct, IsLine, IsMethodLine, IsNumbersText, IsTextOf, IsValue}
use Rattle.witness_file.specs.WitnessLines.{SpellsLine, act_text, line_text, method_line_text, numbers_text}
use Rattle.witness_file.specs.declared.acts.Numbers.{Numbers}
use Rattle.witness_file.specs.declared.acts.Numbers.TheVariants.{One, Two, Three, Four}
use Rattle.witness_file.specs.Witnesses.{AreTexts, HasActsOfPass, IsMethodWitness, IsWitness, ended_line, method_lines}
use Rattle.witness_file.specs.Witnesses.{step_lines, steps_lines, witness_lines, witness_text}
use Rattle.witness_file.specs.declared.line.WitnessLine.{WitnessLine}
use Rattle.witness_file.specs.declared.line.WitnessLine.TheVariants as line
use Rattle.witness_file.specs.declared.witness.MethodWitness.{MethodWitness}
use Rattle.witness_file.specs.declared.witness.Witness.{Witness}
use Rattle.witness_file.proofs.LineLaw.{act_word, described}

-- ---- bytes

-- bytes from a space on
literal : (byte : ℕ) (text : List ℕ) → byte < 32 → list_all (λ b. leb 32 b) text ≡ true → Lacks byte text
literal byte [] small h = tt
literal byte (b ∷ text) small h =
    let p = and_parts (leb 32 b) (list_all (λ x. leb 32 x) text) h in
    ((λ e. omega (arith, leb-true 32 b p.0, small, e)), literal byte text small p.1)

number_lacks : (byte n : ℕ) → is_word_byte byte ≡ false → n < 2 ^ 32 → Lacks byte (decimal n)
number_lacks byte n none h =
    word_lacks byte (decimal n) none (digits_word (decimal n) (decimal_digits n (omega (arith, h))).0)

value_lacks : (byte : ℕ) (v : ℤ) → byte < 32 → is_word_byte byte ≡ false → IsValue v → Lacks byte (signed_decimal v)
value_lacks byte (pos n) small none h = number_lacks byte n none (omega (arith, h))
value_lacks byte (negsuc n) small none h =
    ((λ e. omega (arith, small, e)), number_lacks byte (suc n) none (omega (arith, h)))

spaced : (byte : ℕ) (x y : List ℕ) → byte < 32 → Lacks byte x → Lacks byte y → Lacks byte (x ++ (codes " " ++ y))
spaced byte x y small h k = lacks_append byte x (codes " " ++ y) h ((λ e. omega (arith, small, e)), k)

numbers_lacks : (byte : ℕ) (n : Numbers) → byte < 32 → is_word_byte byte ≡ false → AreNumbers n
    → Lacks byte (numbers_text n)
numbers_lacks byte (One a) small none h = number_lacks byte a none h
numbers_lacks byte (Two a b) small none h =
    spaced byte (decimal a) (decimal b) small (number_lacks byte a none h.0) (number_lacks byte b none h.1)
numbers_lacks byte (Three a b c) small none h =
    spaced byte (decimal a) _ small (number_lacks byte a none h.0)
    (spaced byte (decimal b) (decimal c) small (number_lacks byte b none h.1) (number_lacks byte c none h.2))
numbers_lacks byte (Four a b c v) small none h =
    spaced byte (decimal a) _ small (number_lacks byte a none h.0)
    (spaced byte (decimal b) _ small (number_lacks byte b none h.1)
    (spaced byte (decimal c) (signed_decimal v) small (number_lacks byte c none h.2)
    (value_lacks byte v small none h.3)))

act_lacks : (byte : ℕ) (a : Act) → byte < 32 → is_word_byte byte ≡ false → IsAct a → Lacks byte (act_text a)
unfolding act_text
act_lacks byte a small none h =
    spaced byte (parts_of a).0 (numbers_text (parts_of a).1) small (literal byte (parts_of a).0 small (act_word a).0)
    (numbers_lacks byte (parts_of a).1 small none h)

member_lacks : (byte : ℕ) (ty : MethodType) (name : List ℕ) → byte < 32 → is_word_byte byte ≡ false
    → descriptor.IsMethodType ty
    → Lacks byte name → Lacks byte (method_text ty name)
member_lacks byte ty name small none t n =
    spaced byte (result_text ty.ret) _ small
    (word_lacks byte (result_text ty.ret) none (result_word ty.ret (returned_is ty.ret t.returned)).0)
    (lacks_append byte name _ n (
      (λ e. omega (arith, small, e)),
      lacks_append byte (arguments_text ty.args) (codes ")")
          (arguments_lack_byte byte ty.args none (λ e. omega (arith, small, e)) t.arguments)
          ((λ e. omega (arith, small, e)), tt),
    ))

line_lacks : (byte : ℕ) (l : WitnessLine) → byte < 32 → is_word_byte byte ≡ false → IsLine l → Lacks byte (line_text l)
unfolding line_text
line_lacks byte line.Head small none h = literal byte (codes "witness 1") small refl
line_lacks byte (line.Method class name ty) small none h =
    let t = h.described.1 in
    subst (Lacks byte) (sym (ap (method_line_text class name) (sym t.1) ∙ described class name h.described.0 t.0))
    (lacks_append byte (codes "method ") _ (literal byte (codes "method ") small refl)
    (spaced byte (dotted class) _ small (word_lacks byte (dotted class) none (class_word class h.class_named))
    (member_lacks byte h.described.0 name small none t.0
    (word_lacks byte name none (method_word name h.method_named)))))
line_lacks byte (line.Step n) small none h =
    lacks_append byte (codes "step ") _ (literal byte (codes "step ") small refl)
    (number_lacks byte n none (omega (arith, h.1)))
line_lacks byte (line.Act a) small none h = act_lacks byte a small none h

line_plain : (l : WitnessLine) → IsLine l → IsPlain (line_text l)
unfolding is_name_byte
line_plain l h = (line_lacks 10 l (omega arith) refl h, line_lacks 13 l (omega arith) refl h)

line_says_something : (l : WitnessLine) → is_passed_over (line_text l) ≡ false
unfolding is_passed_over line_text act_text
line_says_something line.Head = refl
line_says_something (line.Method class name ty) = refl
line_says_something (line.Step n) = refl
line_says_something (line.Act a) = (act_word a).2 (codes " " ++ numbers_text (parts_of a).1)

-- ---- UTF-8

ascii_from : (text : List ℕ) → list_all (λ b. ltb b 128) text ≡ true → IsAscii text
ascii_from [] h i = omega arith
ascii_from (b ∷ text) h zero = ltb-true b 128 (and_parts (ltb b 128) (list_all (λ x. ltb x 128) text) h).0
ascii_from (b ∷ text) h (suc i) = ascii_from text (and_parts (ltb b 128) (list_all (λ x. ltb x 128) text) h).1 i

number_ascii : (n : ℕ) → n < 2 ^ 32 → IsAscii (decimal n)
number_ascii n h = IsAscii-decimal n (omega (arith, h))

value_ascii : (v : ℤ) → IsValue v → IsAscii (signed_decimal v)
value_ascii (pos n) h = number_ascii n (omega (arith, h))
value_ascii (negsuc n) h =
    IsAscii-append (45 ∷ []) (decimal (suc n)) (ascii_from (45 ∷ []) refl) (number_ascii (suc n) (omega (arith, h)))

spaced_ascii : (x y : List ℕ) → IsAscii x → IsAscii y → IsAscii (x ++ (codes " " ++ y))
spaced_ascii x y h k =
    IsAscii-append x (codes " " ++ y) h (IsAscii-append (codes " ") y (ascii_from (codes " ") refl) k)

numbers_ascii : (n : Numbers) → AreNumbers n → IsAscii (numbers_text n)
numbers_ascii (One a) h = number_ascii a h
numbers_ascii (Two a b) h = spaced_ascii (decimal a) (decimal b) (number_ascii a h.0) (number_ascii b h.1)
numbers_ascii (Three a b c) h = spaced_ascii (decimal a) _ (number_ascii a h.0)
    (spaced_ascii (decimal b) (decimal c) (number_ascii b h.1) (number_ascii c h.2))
numbers_ascii (Four a b c v) h = spaced_ascii (decimal a) _ (number_ascii a h.0)
    (spaced_ascii (decimal b) _ (number_ascii b h.1)
    (spaced_ascii (decimal c) (signed_decimal v) (number_ascii c h.2) (value_ascii v h.3)))

act_ascii : (a : Act) → IsAct a → IsAscii (act_text a)
unfolding act_text
act_ascii a h =
    spaced_ascii (parts_of a).0 (numbers_text (parts_of a).1) (ascii_from (parts_of a).0 (act_word a).1)
    (numbers_ascii (parts_of a).1 h)

-- a method's line is in UTF-8
abbrev pub IsTextLine : WitnessLine → Type 0
IsTextLine (line.Method class name ty) = IsUtf8 (method_line_text class name ty)
IsTextLine _ = Unit {0}

line_utf8 : (l : WitnessLine) → IsLine l → IsTextLine l → IsUtf8 (line_text l)
unfolding line_text
line_utf8 line.Head h t = IsUtf8-from_ascii (codes "witness 1") (ascii_from (codes "witness 1") refl)
line_utf8 (line.Method class name ty) h t = t
line_utf8 (line.Step n) h t = IsUtf8-from_ascii (codes "step " ++ decimal n)
    (IsAscii-append (codes "step ") (decimal n) (ascii_from (codes "step ") refl) (number_ascii n (omega (arith, h.1))))
line_utf8 (line.Act a) h t = IsUtf8-from_ascii (act_text a) (act_ascii a h)

own_text : (l : WitnessLine) → IsTextOf (line_text l) l
unfolding line_text act_text
own_text line.Head = refl
own_text (line.Method class name ty) = refl
own_text (line.Step n) = refl
own_text (line.Act a) = (numbers_text (parts_of a).1, own (parts_of a).1, refl)
  where
    own : (n : Numbers) → IsNumbersText (numbers_text n) n
    own (One b) = refl
    own (Two b c) = refl
    own (Three b c d) = refl
    own (Four b c d v) = (signed_decimal v, inl refl, refl)

line_written : (l : WitnessLine) → IsLine l → IsTextLine l → IsWritten SpellsLine line_text l
line_written l h t =
    record { plain = line_plain l h; utf8 = line_utf8 l h t; says = line_says_something l; spelled = (h, own_text l) }

pub lines_written : (ls : List WitnessLine) → AllByRecursion IsLine ls → AllByRecursion IsTextLine ls
    → AllByRecursion (IsWritten SpellsLine line_text) ls
lines_written [] h t = tt
lines_written (l ∷ ls) h t = (line_written l h.0 t.0, lines_written ls h.1 t.1)

-- ---- the lines of a witness

acts_valid : (s : PassEdits) (acts : List Act) → AllByRecursion (λ a. IsAct a × (pass_of a ≡ s.pass)) acts
    → AllByRecursion IsLine (map (λ a. line.Act a) acts)
acts_valid s [] h = tt
acts_valid s (a ∷ acts) h = (h.0.0, acts_valid s acts h.1)

acts_texts : (acts : List Act) → AllByRecursion IsTextLine (map (λ a. line.Act a) acts)
acts_texts [] = tt
acts_texts (a ∷ acts) = (tt, acts_texts acts)

step_valid : (k : ℕ) (s : PassEdits) (acts : List Act) → 1 ≤ k → k ≤ 6
    → AllByRecursion (λ a. IsAct a × (pass_of a ≡ s.pass)) acts → AllByRecursion IsLine (step_lines k acts)
step_valid k s [] low high h = tt
step_valid k s (a ∷ acts) low high h = ((low, high), acts_valid s (a ∷ acts) h)

step_texts : (k : ℕ) (acts : List Act) → AllByRecursion IsTextLine (step_lines k acts)
step_texts k [] = tt
step_texts k (a ∷ acts) = (tt, acts_texts (a ∷ acts))

steps_valid : (k : ℕ) (steps : List PassEdits) → 1 ≤ k → k + length steps ≤ 7 → AllByRecursion HasActsOfPass steps
    → AllByRecursion IsLine (steps_lines k steps)
steps_valid k [] low high h = tt
steps_valid k (s ∷ steps) low high h = all_append IsLine (step_lines k s.acts) (steps_lines (k + 1) steps)
    (step_valid k s s.acts low (omega (arith, high)) h.0)
    (steps_valid (k + 1) steps (omega arith) (omega (arith, high)) h.1)

steps_texts : (k : ℕ) (steps : List PassEdits) → AllByRecursion IsTextLine (steps_lines k steps)
steps_texts k [] = tt
steps_texts k (s ∷ steps) =
    all_append IsTextLine (step_lines k s.acts) (steps_lines (k + 1) steps) (step_texts k s.acts)
    (steps_texts (k + 1) steps)

methods_valid : (ms : List MethodWitness) → AllByRecursion IsMethodWitness ms
    → AllByRecursion IsLine (flat_map method_lines ms)
methods_valid [] h = tt
methods_valid (m ∷ ms) h =
    let six : length step_passes ≡ 6 = refl in
    let long : length m.edits.steps ≡ 6 = sym (length-map m.edits.steps (λ (x : PassEdits). x.pass))
    ∙ ap length h.0.passes in
    all_append IsLine (method_lines m) (flat_map method_lines ms)
    (h.0.named, steps_valid 1 m.edits.steps (omega arith) (omega (arith, long)) h.0.acts) (methods_valid ms h.1)

methods_texts : (ms : List MethodWitness) → AreTexts ms → AllByRecursion IsTextLine (flat_map method_lines ms)
methods_texts [] h = tt
methods_texts (m ∷ ms) h =
    all_append IsTextLine (method_lines m) (flat_map method_lines ms) (h.0, steps_texts 1 m.edits.steps)
    (methods_texts ms h.1)

-- the text of a witness spells its lines
pub text_spells : (w : Witness) → IsWitness w → AreTexts w.methods
    → AreSpelled SpellsLine (lines (witness_text w)) (witness_lines w)
unfolding witness_text
text_spells w h t = all_written SpellsLine line_text (witness_lines w)
    (lines_written (witness_lines w) (tt, methods_valid w.methods h.methods) (tt, methods_texts w.methods t))

-- A line says what it spells, and what it spells it says.
use Rattle.std.proofs.Common.{◌≡◌, ℕ, zero, suc, ◌+◌, ◌-◌, ◌<◌, ◌≤◌, ◌^◌, ℤ, pos, negsuc, Bool, true, false, not, cond}
use Rattle.std.proofs.Common.{eqb, leb, ltb, ◌&&◌, List, [], ◌∷◌, ◌++◌, length, Option, Some, None, Result, Ok, Err, refl, sym}
use Rattle.std.proofs.Common.{ap, subst, ◌∙◌, append_assoc, arith, codes, inl, inr}
use Rattle.std.specs.Prelude.{◌⊎◌, IsTrue, neg_ℤ}
use Rattle.std.specs.Fmt.{decimal, signed_decimal}
use Rattle.std.specs.Char.{is_ascii_digit}
use Rattle.std.specs.List.{AllByRecursion, find, list_all}
use Rattle.std.proofs.lemmas.Fmt.{decimal_digit}
use Rattle.std.specs.Option.{option_map}
use Rattle.std.proofs.lemmas.Bool.{and_parts, eqb-true, cases_Bool}
use Rattle.std.proofs.lemmas.List.{nil_from_length}
use Rattle.std.proofs.lemmas.Option.{same_Some}
use Rattle.jv_base.specs.Descriptors.{SpellsMethod, read_method}
use Rattle.jv_base.specs.External.{dotted}
use Rattle.jv_base.specs.Names.{is_class_name, is_method_name, is_name_byte, is_text}
use Rattle.jv_base.specs.Types as descriptor
use Rattle.jv_base.specs.Types.{IsMethodType}
use Rattle.jv_base.specs.declared.descriptors.BadDescriptor.{BadDescriptor}
use Rattle.jv_base.specs.declared.types.MethodType.{MethodType}
use Rattle.jv_base.proofs.Equality.{same_text}
use Rattle.jv_base.proofs.MethodLaw.{read_method-only}
use Rattle.jv_base.proofs.Options.{mapped}
use Rattle.text_lines.specs.Cut.{◌>>=◌, where_true, cut, after}
use Rattle.text_lines.specs.Lines.{is_passed_over}
use Rattle.text_lines.specs.Members.{arguments_text, class_of, method_text, method_type_of, result_text}
use Rattle.text_lines.specs.Numbers.{number_below}
use Rattle.text_lines.proofs.Numerals.{decimal_digits, number_found, number_only}
use Rattle.text_lines.proofs.Parts.{after_is, after_none, after_some, cut_is, cut_lacks, cut_some}
use Rattle.text_lines.proofs.ReadLines.{Says}
use Rattle.text_lines.proofs.Spelling.{class_found, class_only, method_type_found, method_type_only, then_some}
use Rattle.text_lines.proofs.Spelling.{where_some}
use Rattle.text_lines.proofs.Words.{IsWord, class_word, digits_word, method_word, returned_is}
use Rattle.text_lines.proofs.Words.{result_word, word_lacks}
use Rattle.text_lines.proofs.Arguments.{arguments_lack_byte}
use Rattle.code_edit.specs.declared.act.Act.{Act}
use Rattle.code_edit.specs.declared.act.Act.TheVariants as act
use Rattle.witness_file.specs.ActWords.{act_with, acts_with, parts_of}
use Rattle.witness_file.specs.LineReading.{MethodParts, act_of, first_in, line_said, method_of, method_parts}
use Rattle.witness_file.specs.LineReading.{method_said, number_of, said, second_in, step_of, third_in, value_in, value_of}
use Rattle.witness_file.specs.WitnessLines.{AreNumbers, IsMethodLine, IsNumbersText, IsValue, IsValueText}
use Rattle.witness_file.specs.WitnessLines.{SpellsLine, line_text, member_text, method_line_text, numbers_text, spaced}
use Rattle.witness_file.specs.declared.acts.Numbers.{Numbers}
use Rattle.witness_file.specs.declared.acts.Numbers.TheVariants.{One, Two, Three, Four}
use Rattle.witness_file.specs.declared.line.WitnessLine.{WitnessLine}
use Rattle.witness_file.specs.declared.line.WitnessLine.TheVariants as line

-- ---- tests one behind the other

choose : {A : Type 0} (b : Bool) (x y : Option A) (z : A) → cond b x y ≡ Some z
    → ((b ≡ true) × (x ≡ Some z)) ⊎ ((b ≡ false) × (y ≡ Some z))
choose true x y z h = inl (refl, h)
choose false x y z h = inr (refl, h)

-- ---- numbers

wide : (limit : ℕ) → limit ≤ 2 ^ 32 → limit ≤ 2 ^ 64
wide limit h = omega (arith, h)

number_is : (text : List ℕ) (n : ℕ) → number_of text ≡ Some n → (n < 2 ^ 32) × (text ≡ decimal n)
number_is text n h = number_found (2 ^ 32) text n (omega arith) h

number_read : (n : ℕ) → n < 2 ^ 32 → number_of (decimal n) ≡ Some n
number_read n h = number_only (2 ^ 32) (decimal n) n (omega arith) (h, refl)

digits : (n : ℕ) → n < 2 ^ 32 → IsWord (decimal n)
digits n h = digits_word (decimal n) (decimal_digits n (omega (arith, h))).0

blank_cut : (n : ℕ) (rest : List ℕ) → n < 2 ^ 32 → cut 32 (decimal n ++ 32 ∷ rest) ≡ Some (decimal n, rest)
unfolding is_name_byte
blank_cut n rest h = cut_is 32 (decimal n) rest (word_lacks 32 (decimal n) refl (digits n h))

negative : (text d : List ℕ) (n : ℕ) → n < 2147483649 → d ≡ decimal n → text ≡ 45 ∷ d
    → IsValue (neg_ℤ (pos n)) × IsValueText text (neg_ℤ (pos n))
negative text d zero small e f = (omega arith, inr (refl, f ∙ ap (λ (t : List ℕ). 45 ∷ t) e ∙ zero_text))
  where
    zero_text : 45 ∷ decimal 0 ≡ codes "-0"
    zero_text = ap (λ (t : List ℕ). 45 ∷ t) (decimal_digit 0 (omega arith))
negative text d (suc n) small e f = (omega (arith, small), inl (f ∙ ap (λ (t : List ℕ). 45 ∷ t) e))

value_is : (text : List ℕ) (value : ℤ) → value_of text ≡ Some value → IsValue value × IsValueText text value
unfolding value_of
value_is text value h =
    elim (after (codes "-") text) as
    (λ o. after (codes "-") text ≡ o → value_in text o ≡ Some value → IsValue value × IsValueText text value) [
      | None ↦ λ e k. (
          let n = then_some (number_below 2147483648 text) _ value k in
          let found = number_found 2147483648 text n.0 (omega arith) n.1 in
          let is : pos n.0 ≡ value = cc in
          subst (λ (v : ℤ). IsValue v × IsValueText text v) is (omega (arith, found.0), inl found.1))
      | Some d ↦ λ e k. (
          let n = then_some (number_below 2147483649 d) _ value k in
          let found = number_found 2147483649 d n.0 (omega arith) n.1 in
          let is : neg_ℤ (pos n.0) ≡ value = cc in
          subst (λ (v : ℤ). IsValue v × IsValueText text v) is
          (negative text d n.0 found.0 found.1 (after_some (codes "-") text d e)))
    ] refl h

-- a number has no sign
no_sign : (n : ℕ) → n < 2 ^ 32 → after (codes "-") (decimal n) ≡ None
no_sign n h =
    let d = decimal_digits n (omega (arith, h)) in
    by (decimal n) d.0
  where
    by : (text : List ℕ) → list_all is_ascii_digit text ≡ true → after (codes "-") text ≡ None
    by [] k = after_none (codes "-") [] (λ r e. absurd cc)
    by (b ∷ text) k = after_none (codes "-") (b ∷ text) (λ r e.
        let p = and_parts (is_ascii_digit b) (list_all is_ascii_digit text) k in
        let sign : b ≡ 45 = cc in
        let f : false ≡ true = subst (λ (x : ℕ). is_ascii_digit x ≡ true) sign p.0 in absurd cc)

value_read : (text : List ℕ) (value : ℤ) → IsValue value → IsValueText text value → value_of text ≡ Some value
unfolding value_of
value_read text (pos n) h (inl e) =
    let none : after (codes "-") (decimal n) ≡ None = no_sign n (omega (arith, h)) in
    let read : number_below 2147483648 (decimal n) ≡ Some n =
    number_only 2147483648 (decimal n) n (omega arith) (h, refl) in
    ap value_of e ∙ rw (none, read) refl
value_read text (negsuc n) h (inl e) =
    let some : after (codes "-") (codes "-" ++ decimal (suc n)) ≡ Some (decimal (suc n)) =
    after_is (codes "-") (decimal (suc n)) in
    let read : number_below 2147483649 (decimal (suc n)) ≡ Some (suc n) =
    number_only 2147483649 (decimal (suc n)) (suc n) (omega arith) (omega (arith, h), refl) in
    ap value_of e ∙ rw (some, read) refl
value_read text value h (inr e) =
    let some : after (codes "-") (codes "-" ++ decimal 0) ≡ Some (decimal 0) = after_is (codes "-") (decimal 0) in
    let read : number_below 2147483649 (decimal 0) ≡ Some 0 =
    number_only 2147483649 (decimal 0) 0 (omega arith) (omega arith, refl) in
    let zero_text : codes "-0" ≡ codes "-" ++ decimal 0 =
    ap (λ (t : List ℕ). 45 ∷ t) (sym (decimal_digit 0 (omega arith))) in
    ap value_of (e.1 ∙ zero_text) ∙ rw (some, read) (ap (λ (v : ℤ). let o : Option ℤ = Some v in o) (sym e.0))

-- ---- numbers behind a word

cut_number : (text : List ℕ) (p : List ℕ × List ℕ) (n : ℕ) → cut 32 text ≡ Some p → p.0 ≡ decimal n
    → text ≡ spaced n p.1
cut_number text p n h e = (cut_some 32 text p h).0 ∙ ap (λ (t : List ℕ). t ++ 32 ∷ p.1) e

-- the text spells the numbers
abbrev SpellsNumbers : List ℕ → Numbers → Type 0
SpellsNumbers text n = AreNumbers n × IsNumbersText text n

third_is : (a b : ℕ) (text : List ℕ) (o : Option (List ℕ × List ℕ)) (n : Numbers) → a < 2 ^ 32 → b < 2 ^ 32
    → cut 32 text ≡ o → third_in a b text o ≡ Some n → SpellsNumbers (spaced a (spaced b text)) n
third_is a b text None n x y e h =
    let c = then_some (number_of text) _ n h in
    let is = number_is text c.0 c.1 in
    subst (SpellsNumbers (spaced a (spaced b text))) (same_Some (Three a b c.0) n c.2)
    ((x, y, is.0), ap (λ (t : List ℕ). spaced a (spaced b t)) is.1)
third_is a b text (Some p) n x y e h =
    let c = then_some (number_of p.0) _ n h in
    let v = then_some (value_of p.1) _ n c.2 in
    let is = number_is p.0 c.0 c.1 in
    let value = value_is p.1 v.0 v.1 in
    subst (SpellsNumbers (spaced a (spaced b text))) (same_Some (Four a b c.0 v.0) n v.2) (
      (x, y, is.0, value.0),
      (p.1, value.1, ap (λ (t : List ℕ). spaced a (spaced b t)) (cut_number text p c.0 e is.1)),
    )

second_is : (a : ℕ) (text : List ℕ) (o : Option (List ℕ × List ℕ)) (n : Numbers) → a < 2 ^ 32
    → cut 32 text ≡ o → second_in a text o ≡ Some n → SpellsNumbers (spaced a text) n
second_is a text None n x e h =
    let b = then_some (number_of text) _ n h in
    let is = number_is text b.0 b.1 in
    subst (SpellsNumbers (spaced a text)) (same_Some (Two a b.0) n b.2) ((x, is.0), ap (spaced a) is.1)
second_is a text (Some p) n x e h =
    let b = then_some (number_of p.0) _ n h in
    let is = number_is p.0 b.0 b.1 in
    subst (λ (t : List ℕ). SpellsNumbers (spaced a t) n) (sym (cut_number text p b.0 e is.1))
    (third_is a b.0 p.1 (cut 32 p.1) n x is.0 refl b.2)

first_is : (text : List ℕ) (o : Option (List ℕ × List ℕ)) (n : Numbers) → cut 32 text ≡ o
    → first_in text o ≡ Some n → SpellsNumbers text n
first_is text None n e h =
    let a = then_some (number_of text) _ n h in
    subst (SpellsNumbers text) (same_Some (One a.0) n a.2) (number_is text a.0 a.1)
first_is text (Some p) n e h =
    let a = then_some (number_of p.0) _ n h in
    let is = number_is p.0 a.0 a.1 in
    subst (λ (t : List ℕ). SpellsNumbers t n) (sym (cut_number text p a.0 e is.1))
    (second_is a.0 p.1 (cut 32 p.1) n is.0 refl a.2)

no_blank : (n : ℕ) → n < 2 ^ 32 → cut 32 (decimal n) ≡ None
unfolding is_name_byte
no_blank n h = cut_lacks 32 (decimal n) (word_lacks 32 (decimal n) refl (digits n h))

numbers_read : (n : Numbers) (text : List ℕ) → AreNumbers n → IsNumbersText text n
    → first_in text (cut 32 text) ≡ Some n
numbers_read (One a) text h e = ap (λ (t : List ℕ). first_in t (cut 32 t)) e ∙ rw (no_blank a h, number_read a h) refl
numbers_read (Two a b) text h e =
    ap (λ (t : List ℕ). first_in t (cut 32 t)) e ∙ rw (blank_cut a (decimal b) h.0, number_read a h.0, no_blank b h.1, number_read b h.1) refl
numbers_read (Three a b c) text h e =
    ap (λ (t : List ℕ). first_in t (cut 32 t)) e ∙ rw (
      blank_cut a (spaced b (decimal c)) h.0,
      number_read a h.0,
      blank_cut b (decimal c) h.1,
      number_read b h.1,
      no_blank c h.2,
      number_read c h.2,
    ) refl
numbers_read (Four a b c v) text h e =
    ap (λ (t : List ℕ). first_in t (cut 32 t)) e.2 ∙ rw (
      blank_cut a (spaced b (spaced c e.0)) h.0,
      number_read a h.0,
      blank_cut b (spaced c e.0) h.1,
      number_read b h.1,
      blank_cut c e.0 h.2,
      number_read c h.2,
      value_read e.0 v h.3 e.1,
    ) refl

-- ---- acts

-- each act with some numbers has these
with_numbers : (n : Numbers) → AllByRecursion (λ a. (parts_of a).1 ≡ n) (acts_with n)
with_numbers (One a) = (refl, (refl, tt))
with_numbers (Two a b) = (refl, (refl, tt))
with_numbers (Three a b c) = (refl, tt)
with_numbers (Four a b c v) = (refl, tt)

found_with : (word : List ℕ) (n : Numbers) (acts : List Act) (a : Act)
    → AllByRecursion (λ x. (parts_of x).1 ≡ n) acts
    → find (λ x. is_text word (parts_of x).0) acts ≡ Some a → parts_of a ≡ (word, n)
found_with word n [] a all h = absurd cc
found_with word n (x ∷ acts) a all h = elim (choose (is_text word (parts_of x).0) (Some x) _ a h) [
  | inl p ↦ subst (λ (b : Act). parts_of b ≡ (word, n)) (same_Some x a p.1)
      (λ i. (sym (same_text word (parts_of x).0 p.0) i, all.0 i))
  | inr p ↦ found_with word n acts a all.1 p.1
]

-- a word before a blank
abbrev at_word : List ℕ → List ℕ → List ℕ
at_word word text = word ++ 32 ∷ text

-- bytes of ASCII from a space on, with which a line begins that says something
abbrev pub IsActWord : List ℕ → Type 0
IsActWord word = (list_all (λ b. leb 32 b) word ≡ true) × (list_all (λ b. ltb b 128) word ≡ true)
    × ((rest : List ℕ) → is_passed_over (word ++ rest) ≡ false)

pub act_word : (a : Act) → IsActWord (parts_of a).0
unfolding is_passed_over
act_word (act.Drop from to) = (refl, refl, λ rest. refl)
act_word (act.Fact from to slot value) = (refl, refl, λ rest. refl)
act_word (act.Fold at to) = (refl, refl, λ rest. refl)
act_word (act.Cut at) = (refl, refl, λ rest. refl)
act_word (act.Aim at which to) = (refl, refl, λ rest. refl)
act_word (act.Skip at) = (refl, refl, λ rest. refl)

act_is : (word text : List ℕ) (a : Act) → act_of word text ≡ Some a → SpellsLine (at_word word text) (line.Act a)
unfolding act_of act_with
act_is word text a h =
    let n = then_some (first_in text (cut 32 text)) (act_with word) a h in
    let spelled = first_is text (cut 32 text) n.0 refl n.1 in
    let parts = found_with word n.0 (acts_with n.0) a (with_numbers n.0) n.2 in
    subst (λ (p : List ℕ × Numbers). AreNumbers p.1 × ((t : List ℕ) × IsNumbersText t p.1
    × (at_word word text ≡ p.0 ++ (codes " " ++ t)))) (sym parts) (spelled.0, (text, spelled.1, refl))

-- ---- methods

parts_are : (text : List ℕ) (m : MethodParts) → method_parts text ≡ Some m
    → text ≡ m.class ++ 32 ∷ (m.ret ++ (codes " " ++ (m.name ++ (codes "(" ++ (m.args ++ codes ")")))))
unfolding method_parts
parts_are text m h =
    let p = then_some (cut 32 text) _ m h in
    let q = then_some (cut 32 p.0.1) _ m p.2 in
    let r = then_some (cut 40 q.0.1) _ m q.2 in
    let s = then_some (cut 41 r.0.1) _ m r.2 in
    let w = where_some (eqb (length s.0.1) 0)
    (record { class = p.0.0; ret = q.0.0; name = r.0.0; args = s.0.0 }) m s.2 in
    let end = nil_from_length s.0.1 (eqb-true (length s.0.1) 0 w.0) in
    subst (λ (n : MethodParts). text ≡ n.class
    ++ 32 ∷ (n.ret ++ (codes " " ++ (n.name ++ (codes "(" ++ (n.args ++ codes ")")))))) w.1
    ((cut_some 32 text p.0 p.1).0 ∙ ap (λ (t : List ℕ). p.0.0 ++ 32 ∷ t) ((cut_some 32 p.0.1 q.0 q.1).0
    ∙ ap (λ (t : List ℕ). q.0.0 ++ 32 ∷ t) ((cut_some 40 q.0.1 r.0 r.1).0 ∙ ap (λ (t : List ℕ). r.0.0 ++ 40 ∷ t)
    ((cut_some 41 r.0.1 s.0 s.1).0 ∙ ap (λ (t : List ℕ). s.0.0 ++ 41 ∷ t) end))))

-- a method's line by its type
pub described : (class name : List ℕ) (ty : MethodType) → IsMethodType ty
    → method_line_text class name (descriptor.method_text ty) ≡ codes "method "
    ++ (dotted class ++ (codes " " ++ method_text ty name))
described class name ty h =
    ap (λ (r : Result MethodType BadDescriptor). codes "method "
    ++ (dotted class ++ (codes " " ++ member_text name r (descriptor.method_text ty))))
    (read_method-only (descriptor.method_text ty) ty (h, refl))

method_is : (text : List ℕ) (l : WitnessLine) → method_of text ≡ Some l → SpellsLine (codes "method " ++ text) l
unfolding method_said line_text
method_is text l h =
    let m = then_some (method_parts text) method_said l h in
    let c = then_some (class_of m.0.class) _ l m.2 in
    let t = then_some (method_type_of m.0.ret m.0.args) _ l c.2 in
    let w = where_some (is_method_name m.0.name) (line.Method c.0 m.0.name (descriptor.method_text t.0)) l t.2 in
    let class = class_found m.0.class c.0 c.1 in
    let ty = method_type_found m.0.ret m.0.args t.0 t.1 in
    subst (SpellsLine (codes "method " ++ text)) w.1 (
      record { class_named = class.0; method_named = w.0; described = (t.0, (ty.0, refl)) },
      ap (λ (u : List ℕ). codes "method " ++ u) (parts_are text m.0 m.1
          ∙ ap (λ (u : List ℕ). u
          ++ 32 ∷ (m.0.ret ++ (codes " " ++ (m.0.name ++ (codes "(" ++ (m.0.args ++ codes ")")))))) class.1
          ∙ ap (λ (u : List ℕ). dotted c.0
          ++ 32 ∷ (u ++ (codes " " ++ (m.0.name ++ (codes "(" ++ (m.0.args ++ codes ")")))))) ty.1
          ∙ ap (λ (u : List ℕ). dotted c.0
          ++ 32 ∷ (result_text t.0.ret ++ (codes " " ++ (m.0.name ++ (codes "(" ++ (u ++ codes ")")))))) ty.2)
          ∙ sym (described c.0 m.0.name t.0 ty.0),
    )

step_is : (text : List ℕ) (l : WitnessLine) → step_of text ≡ Some l → SpellsLine (codes "step " ++ text) l
unfolding line_text
step_is text l h =
    let n = then_some (number_below 7 text) _ l h in
    let w = where_some (not (eqb n.0 0)) (line.Step n.0) l n.2 in
    let found = number_found 7 text n.0 (omega arith) n.1 in
    subst (SpellsLine (codes "step " ++ text)) w.1
    ((grind (arith, w.0), omega (arith, found.0)), ap (λ (t : List ℕ). codes "step " ++ t) found.1)

head_is : (text : List ℕ) (l : WitnessLine) → where_true (is_text text (codes "1")) line.Head ≡ Some l
    → SpellsLine (codes "witness " ++ text) l
unfolding line_text
head_is text l h =
    let w = where_some (is_text text (codes "1")) line.Head l h in
    subst (SpellsLine (codes "witness " ++ text)) w.1
    (tt, ap (λ (t : List ℕ). codes "witness " ++ t) (same_text text (codes "1") w.0))

act_line_is : (word text : List ℕ) (l : WitnessLine) → option_map (λ a. line.Act a) (act_of word text) ≡ Some l
    → SpellsLine (at_word word text) l
act_line_is word text l h =
    let a = mapped (λ a. line.Act a) (act_of word text) l h in
    subst (SpellsLine (at_word word text)) a.2 (act_is word text a.0 a.1)

said_is : (word text : List ℕ) (l : WitnessLine) → said word text ≡ Some l → SpellsLine (at_word word text) l
unfolding said
said_is word text l h = elim (choose (is_text word (codes "witness")) _ _ l h) [
  | inl p ↦ subst (λ (w : List ℕ). SpellsLine (at_word w text) l) (sym (same_text word (codes "witness") p.0))
      (head_is text l p.1)
  | inr p ↦ elim (choose (is_text word (codes "method")) _ _ l p.1) [
    | inl q ↦ subst (λ (w : List ℕ). SpellsLine (at_word w text) l) (sym (same_text word (codes "method") q.0))
        (method_is text l q.1)
    | inr q ↦ elim (choose (is_text word (codes "step")) _ _ l q.1) [
      | inl r ↦ subst (λ (w : List ℕ). SpellsLine (at_word w text) l) (sym (same_text word (codes "step") r.0))
          (step_is text l r.1)
      | inr r ↦ act_line_is word text l r.1
    ]
  ]
]

line_found : (text : List ℕ) (l : WitnessLine) → line_said text ≡ Some l → SpellsLine text l
unfolding line_said
line_found text l h =
    let p = then_some (cut 32 text) (λ q. said q.0 q.1) l h in
    subst (λ (t : List ℕ). SpellsLine t l) (sym (cut_some 32 text p.0 p.1).0) (said_is p.0.0 p.0.1 l p.2)

-- ---- what is spelled so is read

-- the line of an act by its word
word_read : (a : Act) (text : List ℕ) → first_in text (cut 32 text) ≡ Some (parts_of a).1
    → line_said (at_word (parts_of a).0 text) ≡ Some (line.Act a)
unfolding line_said said act_of act_with cut
word_read (act.Drop from to) text h = rw h refl
word_read (act.Fact from to slot value) text h = rw h refl
word_read (act.Fold at to) text h = rw h refl
word_read (act.Cut at) text h = rw h refl
word_read (act.Aim at which to) text h = rw h refl
word_read (act.Skip at) text h = rw h refl

method_read : (class name : List ℕ) (ty : MethodType) → IsTrue (is_class_name class) → IsTrue (is_method_name name)
    → IsMethodType ty
    → line_said (codes "method " ++ (dotted class ++ (codes " " ++ method_text ty name)))
    ≡ Some (line.Method class name (descriptor.method_text ty))
unfolding line_said said cut method_parts method_said is_name_byte
method_read class name ty c n t =
    let ret_word = (result_word ty.ret (returned_is ty.ret t.returned)).0 in
    let a : cut 32 (dotted class ++ 32 ∷ method_text ty name) ≡ Some (dotted class, method_text ty name)
    = cut_is 32 (dotted class) (method_text ty name) (word_lacks 32 (dotted class) refl (class_word class c)) in
    let b : cut 32 (method_text ty name)
    ≡ Some (result_text ty.ret, name ++ (codes "(" ++ (arguments_text ty.args ++ codes ")")))
    = cut_is 32 (result_text ty.ret) _ (word_lacks 32 (result_text ty.ret) refl ret_word) in
    let d : cut 40 (name ++ (codes "(" ++ (arguments_text ty.args ++ codes ")")))
    ≡ Some (name, arguments_text ty.args ++ codes ")")
    = cut_is 40 name _ (word_lacks 40 name refl (method_word name n)) in
    let e : cut 41 (arguments_text ty.args ++ codes ")") ≡ Some (arguments_text ty.args, [])
    = cut_is 41 (arguments_text ty.args) [] (arguments_lack_byte 41 ty.args refl (λ x. omega (arith, x)) t.arguments) in
    let f : class_of (dotted class) ≡ Some class = class_only (dotted class) class (c, refl) in
    let g : method_type_of (result_text ty.ret) (arguments_text ty.args) ≡ Some ty =
    method_type_only (result_text ty.ret) (arguments_text ty.args) ty t refl refl in
    let k : is_method_name name ≡ true = n in
    rw (a, b, d, e, f, g, k) refl

step_read : (n : ℕ) → 1 ≤ n → n ≤ 6 → line_said (codes "step " ++ decimal n) ≡ Some (line.Step n)
unfolding line_said said cut
step_read n low high =
    let a : number_below 7 (decimal n) ≡ Some n =
    number_only 7 (decimal n) n (omega arith) (omega (arith, high), refl) in
    let b : eqb n 0 ≡ false = grind (arith, low) in rw (a, b) refl

head_read : line_said (codes "witness 1") ≡ Some line.Head
unfolding line_said said cut
head_read = refl

line_only : (text : List ℕ) (l : WitnessLine) → SpellsLine text l → line_said text ≡ Some l
unfolding line_text
line_only text line.Head h = ap line_said h.1 ∙ head_read
line_only text (line.Method class name ty) h =
    let of_type = h.0.described.0 in
    let spelled = h.0.described.1 in
    ap line_said (h.1 ∙ ap (method_line_text class name) (sym spelled.1) ∙ described class name of_type spelled.0)
    ∙ method_read class name of_type h.0.class_named h.0.method_named spelled.0
    ∙ ap (λ (d : List ℕ). let o : Option WitnessLine = Some (line.Method class name d) in o) spelled.1
line_only text (line.Step n) h = ap line_said h.1 ∙ step_read n h.0.0 h.0.1
line_only text (line.Act a) h =
    ap line_said h.1.2 ∙ word_read a h.1.0 (numbers_read (parts_of a).1 h.1.0 h.0 h.1.1)

-- a line is read as what it spells, and as nothing else
pub line_says : Says SpellsLine line_said
line_says = record { found = line_found; only = line_only }

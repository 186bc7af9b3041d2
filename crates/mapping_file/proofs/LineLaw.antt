-- A line says what it spells, and what it spells it says.
use Rattle.std.proofs.Common.{◌≡◌, ◌≢◌, ℕ, ◌+◌, ◌<◌, ◌≤◌, ◌^◌, Bool, true, false, eqb, ◌&&◌, List, [], ◌∷◌, ◌++◌}
use Rattle.std.proofs.Common.{length, Option, Some, None, refl, sym, ap, subst, ◌∙◌, append_assoc, arith, codes}
use Rattle.std.specs.Prelude.{IfSome, IsTrue}
use Rattle.std.specs.Fmt.{decimal}
use Rattle.std.proofs.lemmas.Bool.{and_parts, eqb-true}
use Rattle.std.proofs.lemmas.List.{nil_from_length}
use Rattle.jv_base.specs.External.{dotted, external_text}
use Rattle.jv_base.specs.Names.{is_class_name, is_member_name, is_method_name, is_name_byte}
use Rattle.jv_base.specs.Types.{IsMethodType}
use Rattle.jv_base.specs.declared.types.MethodType.{MethodType}
use Rattle.text_lines.specs.Cut.{◌>>=◌, where_true, cut, after, Lacks}
use Rattle.text_lines.specs.Members.{arguments_text, class_of, method_text, method_type_of, result_text, type_of}
use Rattle.text_lines.specs.Numbers.{number_below}
use Rattle.text_lines.proofs.Numerals.{decimal_digits, number_found, number_only}
use Rattle.text_lines.proofs.Parts.{after_is, after_none, after_some, cut_is, cut_lacks, cut_not, cut_some}
use Rattle.text_lines.proofs.Parts.{lacks_append}
use Rattle.text_lines.proofs.ReadLines.{Says}
use Rattle.text_lines.proofs.Spelling.{class_found, class_only, method_type_found, method_type_only, then_some}
use Rattle.text_lines.proofs.Spelling.{type_found, type_only, where_some}
use Rattle.text_lines.proofs.Words.{IsWord, class_some, class_word, digits_word, is_word_byte, member_word}
use Rattle.text_lines.proofs.Words.{method_word, returned_is}
use Rattle.text_lines.proofs.Words.{result_word, type_word, word_lacks}
use Rattle.text_lines.proofs.Arguments.{arguments_lack_byte}
use Rattle.mapping_file.specs.LineReading.{Parts, class_line, class_parts, field_line, field_parts, line_said}
use Rattle.mapping_file.specs.LineReading.{line_parts}
use Rattle.mapping_file.specs.LineReading.{lines_before, lines_between, member_line, method_line, method_parts}
use Rattle.mapping_file.specs.LineReading.{parts_of, said}
use Rattle.mapping_file.specs.MapLines.{IsField, IsLine, IsMethod, IsRange, SpellsLine, class_line_text}
use Rattle.mapping_file.specs.MapLines.{field_line_text, line_text, method_line_text, range_text}
use Rattle.mapping_file.specs.declared.line.MapLine.{MapLine}
use Rattle.mapping_file.specs.declared.line.MapLine.TheVariants as line
use Rattle.mapping_file.specs.declared.mapping.MapField.{MapField}
use Rattle.mapping_file.specs.declared.mapping.MapMethod.{MapMethod}
use Rattle.mapping_file.specs.declared.mapping.Range.{Range}

-- ---- what is read was spelled so

-- the line of a class
class_line_found : (text : List ℕ) (p : Parts) → class_line text ≡ Some p
    → (old : List ℕ) × (new : List ℕ) × (p ≡ class_parts old new) × (text ≡ old ++ (codes " -> " ++ (new ++ codes ":")))
class_line_found text p h =
    let a = then_some (cut 32 text) _ p h in
    let b = then_some (after (codes "-> ") a.0.1) _ p a.2 in
    let c = then_some (cut 58 b.0) _ p b.2 in
    let w = where_some (eqb (length c.0.1) 0) (class_parts a.0.0 c.0.0) p c.2 in
    let one = cut_some 32 text a.0 a.1 in
    let two = after_some (codes "-> ") a.0.1 b.0 b.1 in
    let three = cut_some 58 b.0 c.0 c.1 in
    let end = nil_from_length c.0.1 (eqb-true (length c.0.1) 0 w.0) in (
      a.0.0,
      c.0.0,
      sym w.1,
      one.0 ∙ ap (λ (t : List ℕ). a.0.0 ++ 32 ∷ t)
          (two ∙ ap (λ (t : List ℕ). codes "-> " ++ t) (three.0 ∙ ap (λ (t : List ℕ). c.0.0 ++ 58 ∷ t) end)),
    )

class_is : (text : List ℕ) (l : MapLine) → class_line text >>= said ≡ Some l → SpellsLine text l
unfolding said line_text
class_is text l h =
    let p = then_some (class_line text) said l h in
    let parts = class_line_found text p.0 p.1 in
    let s : said (class_parts parts.0 parts.1) ≡ Some l = ap said (sym parts.2) ∙ p.2 in
    let o = then_some (class_of parts.0) _ l s in
    let n = then_some (class_of parts.1) _ l o.2 in
    let old = class_found parts.0 o.0 o.1 in
    let new = class_found parts.1 n.0 n.1 in
    let is : line.Class o.0 n.0 ≡ l = cc in
    subst (λ (k : MapLine). SpellsLine text k) is (
      (old.0, new.0),
      parts.3 ∙ ap (λ (t : List ℕ). t ++ (codes " -> " ++ (parts.1 ++ codes ":"))) old.1
          ∙ ap (λ (t : List ℕ). dotted o.0 ++ (codes " -> " ++ (t ++ codes ":"))) new.1,
    )

-- the line of a field
field_line_found : (text : List ℕ) (p : Parts) → field_line text ≡ Some p
    → (ty : List ℕ) × (old : List ℕ) × (new : List ℕ) × (p ≡ field_parts ty old new)
    × (text ≡ ty ++ (codes " " ++ (old ++ (codes " -> " ++ new))))
field_line_found text p h =
    let a = then_some (cut 32 text) _ p h in
    let b = then_some (cut 32 a.0.1) _ p a.2 in
    let c = then_some (after (codes "-> ") b.0.1) _ p b.2 in
    let one = cut_some 32 text a.0 a.1 in
    let two = cut_some 32 a.0.1 b.0 b.1 in
    let three = after_some (codes "-> ") b.0.1 c.0 c.1 in
    let is : field_parts a.0.0 b.0.0 c.0 ≡ p = cc in (
      a.0.0,
      b.0.0,
      c.0,
      sym is,
      one.0 ∙ ap (λ (t : List ℕ). a.0.0 ++ 32 ∷ t)
          (two.0 ∙ ap (λ (t : List ℕ). b.0.0 ++ 32 ∷ t) three),
    )

field_is : (body : List ℕ) (l : MapLine) → field_line body >>= said ≡ Some l → SpellsLine (codes "    " ++ body) l
unfolding said line_text
field_is body l h =
    let p = then_some (field_line body) said l h in
    let parts = field_line_found body p.0 p.1 in
    let s : said (field_parts parts.0 parts.1 parts.2) ≡ Some l = ap said (sym parts.3) ∙ p.2 in
    let t = then_some (type_of parts.0) _ l s in
    let w = where_some (is_member_name parts.1 && is_member_name parts.2)
    (line.Field (record { ty = t.0; old = parts.1; new = parts.2 })) l t.2 in
    let names = and_parts (is_member_name parts.1) (is_member_name parts.2) w.0 in
    let ty = type_found parts.0 t.0 t.1 in
    subst (λ (k : MapLine). SpellsLine (codes "    " ++ body) k) w.1 (
      record { typed = ty.0; old = names.0; new = names.1 },
      ap (λ (u : List ℕ). codes "    " ++ u)
          (parts.4 ∙ ap (λ (u : List ℕ). u ++ (codes " " ++ (parts.1 ++ (codes " -> " ++ parts.2)))) (sym ty.1)),
    )

-- lines before a type
abbrev HasLines : List ℕ → Option Range → List ℕ → Type 0
HasLines text lines rest = IfSome lines IsRange × (text ≡ range_text lines ++ rest)

lines_found : (text : List ℕ) (h : Option Range × List ℕ) → lines_before text (cut 58 text) ≡ Some h
    → HasLines text h.0 h.1
lines_found text h e =
    elim (cut 58 text) as (λ o. cut 58 text ≡ o → lines_before text o ≡ Some h → HasLines text h.0 h.1) [
      | None ↦ λ c k.
          (let is : (None, text) ≡ h = cc in subst (λ (p : Option Range × List ℕ). HasLines text p.0 p.1) is (tt, refl))
      | Some p ↦ λ c k. (
          let q = then_some (cut 58 p.1) _ h k in
          let f = then_some (number_below 65536 p.0) _ h q.2 in
          let g = then_some (number_below 65536 q.0.0) _ h f.2 in
          let one = cut_some 58 text p c in
          let two = cut_some 58 p.1 q.0 q.1 in
          let first = number_found 65536 p.0 f.0 (omega arith) f.1 in
          let last = number_found 65536 q.0.0 g.0 (omega arith) g.1 in
          let is : (Some (record { first = f.0; last = g.0 }), q.0.1) ≡ h = cc in
          subst (λ (u : Option Range × List ℕ). HasLines text u.0 u.1) is (
            (first.0, last.0),
            one.0 ∙ ap (λ (t : List ℕ). t ++ 58 ∷ p.1) first.1 ∙ ap (λ (t : List ℕ). decimal f.0 ++ 58 ∷ t)
                (two.0 ∙ ap (λ (t : List ℕ). t ++ 58 ∷ q.0.1) last.1)
                ∙ sym (append_assoc (decimal f.0) (58 ∷ (decimal g.0 ++ 58 ∷ [])) q.0.1
                ∙ ap (λ (t : List ℕ). decimal f.0 ++ 58 ∷ t) (append_assoc (decimal g.0) (58 ∷ []) q.0.1)),
          ))
    ] refl e

method_line_found : (head behind : List ℕ) (p : Parts) → method_line head behind ≡ Some p
    → (lines : Option Range) × (ret : List ℕ) × (old : List ℕ) × (args : List ℕ) × (new : List ℕ)
    × (p ≡ method_parts lines ret old args new) × IfSome lines IsRange
    × (head ++ 40 ∷ behind ≡ range_text lines
    ++ ((ret ++ (codes " " ++ (old ++ (codes "(" ++ (args ++ codes ")"))))) ++ (codes " -> " ++ new)))
method_line_found head behind p h =
    let a = then_some (lines_before head (cut 58 head)) _ p h in
    let b = then_some (cut 32 a.0.1) _ p a.2 in
    let c = then_some (cut 41 behind) _ p b.2 in
    let d = then_some (after (codes " -> ") c.0.1) _ p c.2 in
    let one = lines_found head a.0 a.1 in
    let two = cut_some 32 a.0.1 b.0 b.1 in
    let three = cut_some 41 behind c.0 c.1 in
    let four = after_some (codes " -> ") c.0.1 d.0 d.1 in
    let is : method_parts a.0.0 b.0.0 b.0.1 c.0.0 d.0 ≡ p = cc in (
      a.0.0,
      b.0.0,
      b.0.1,
      c.0.0,
      d.0,
      sym is,
      one.0,
      whole (range_text a.0.0) b.0.0 b.0.1 c.0.0 d.0 head behind
          (one.1 ∙ ap (λ (t : List ℕ). range_text a.0.0 ++ t) two.0)
          (three.0 ∙ ap (λ (t : List ℕ). c.0.0 ++ 41 ∷ t) four),
    )
  where
    whole : (lines ret old args new head2 behind2 : List ℕ) → head2 ≡ lines ++ (ret ++ 32 ∷ old)
        → behind2 ≡ args ++ 41 ∷ (codes " -> " ++ new)
        → head2 ++ 40 ∷ behind2
        ≡ lines ++ ((ret ++ (codes " " ++ (old ++ (codes "(" ++ (args ++ codes ")"))))) ++ (codes " -> " ++ new))
    whole lines ret old args new head2 behind2 e f =
        ap (λ (t : List ℕ). t ++ 40 ∷ behind2) e ∙ ap (λ (t : List ℕ). (lines ++ (ret ++ 32 ∷ old)) ++ 40 ∷ t) f
        ∙ simp append_assoc

method_is : (head behind : List ℕ) (l : MapLine) → method_line head behind >>= said ≡ Some l
    → SpellsLine (codes "    " ++ (head ++ 40 ∷ behind)) l
unfolding said line_text
method_is head behind l h =
    let p = then_some (method_line head behind) said l h in
    let m = method_line_found head behind p.0 p.1 in
    let s : said (method_parts m.0 m.1 m.2 m.3 m.4) ≡ Some l = ap said (sym m.5) ∙ p.2 in
    let t = then_some (method_type_of m.1 m.3) _ l s in
    let w = where_some (is_method_name m.2 && is_method_name m.4)
    (line.Method (record { lines = m.0; ty = t.0; old = m.2; new = m.4 })) l t.2 in
    let names = and_parts (is_method_name m.2) (is_method_name m.4) w.0 in
    let ty = method_type_found m.1 m.3 t.0 t.1 in
    subst (λ (k : MapLine). SpellsLine (codes "    " ++ (head ++ 40 ∷ behind)) k) w.1 (
      record { lines = m.6; typed = ty.0; old = names.0; new = names.1 },
      ap (λ (u : List ℕ). codes "    " ++ u)
          (m.7 ∙ ap (λ (u : List ℕ). range_text m.0
          ++ ((u ++ (codes " " ++ (m.2 ++ (codes "(" ++ (m.3 ++ codes ")"))))) ++ (codes " -> " ++ m.4))) ty.1
          ∙ ap (λ (u : List ℕ). range_text m.0
          ++ ((result_text t.0.ret ++ (codes " " ++ (m.2 ++ (codes "(" ++ (u ++ codes ")")))))
          ++ (codes " -> " ++ m.4))) ty.2),
    )

member_is : (body : List ℕ) (l : MapLine) → member_line body (cut 40 body) >>= said ≡ Some l
    → SpellsLine (codes "    " ++ body) l
member_is body l h =
    elim (cut 40 body) as
    (λ o. cut 40 body ≡ o → member_line body o >>= said ≡ Some l → SpellsLine (codes "    " ++ body) l) [
      | None ↦ λ e k. field_is body l k
      | Some p ↦ λ e k. subst (λ (t : List ℕ). SpellsLine (codes "    " ++ t) l) (sym (cut_some 40 body p e).0)
          (method_is p.0 p.1 l k)
    ] refl h

line_found : (text : List ℕ) (l : MapLine) → line_said text ≡ Some l → SpellsLine text l
unfolding line_said parts_of
line_found text l h =
    elim (after (codes "    ") text) as
    (λ o. after (codes "    ") text ≡ o → line_parts text o >>= said ≡ Some l → SpellsLine text l) [
      | None ↦ λ e k. class_is text l k
      | Some body ↦
          λ e k. subst (λ (t : List ℕ). SpellsLine t l) (sym (after_some (codes "    ") text body e))
          (member_is body l k)
    ] refl h

-- ---- what is spelled so is read

-- a text that begins with no blank doesn't begin with four
no_blanks : (word rest : List ℕ) → IsWord word → 0 < length word → after (codes "    ") (word ++ rest) ≡ None
unfolding is_name_byte
no_blanks [] rest h some = absurd (omega arith)
no_blanks (b ∷ word) rest h some = after_none (codes "    ") (b ∷ (word ++ rest))
    (λ r e. let blank : b ≡ 32 = cc in (word_lacks 32 (b ∷ word) refl h).0 blank)

class_read : (old new : List ℕ) → IsTrue (is_class_name old) → IsTrue (is_class_name new)
    → line_said (class_line_text old new) ≡ Some (line.Class old new)
unfolding line_said parts_of said is_name_byte
class_read old new o n =
    let old_word = class_word old o in
    let new_word = class_word new n in
    let a : after (codes "    ") (dotted old ++ (codes " -> " ++ (dotted new ++ codes ":"))) ≡ None
    = no_blanks (dotted old) (codes " -> " ++ (dotted new ++ codes ":")) old_word (class_some old o) in
    let b : cut 32 (dotted old ++ (codes " -> " ++ (dotted new ++ codes ":")))
    ≡ Some (dotted old, codes "-> " ++ (dotted new ++ codes ":"))
    = cut_is 32 (dotted old) (codes "-> " ++ (dotted new ++ codes ":")) (word_lacks 32 (dotted old) refl old_word) in
    let c : after (codes "-> ") (codes "-> " ++ (dotted new ++ codes ":")) ≡ Some (dotted new ++ codes ":")
    = after_is (codes "-> ") (dotted new ++ codes ":") in
    let d : cut 58 (dotted new ++ codes ":") ≡ Some (dotted new, []) =
    cut_is 58 (dotted new) [] (word_lacks 58 (dotted new) refl new_word) in
    let e : class_of (dotted old) ≡ Some old = class_only (dotted old) old (o, refl) in
    let f : class_of (dotted new) ≡ Some new = class_only (dotted new) new (n, refl) in
    let parts : class_line (dotted old ++ (codes " -> " ++ (dotted new ++ codes ":")))
    ≡ Some (class_parts (dotted old) (dotted new))
    = rw (b, c, d) refl in
    rw (a, parts, e, f) refl

-- the line of a member goes on behind its blanks
member_read : (body : List ℕ) → line_said (codes "    " ++ body) ≡ member_line body (cut 40 body) >>= said
unfolding line_said parts_of
member_read body =
    ap (λ (o : Option (List ℕ)). line_parts (codes "    " ++ body) o >>= said) (after_is (codes "    ") body)

field_read : (f : MapField) → IsField f → line_said (field_line_text f) ≡ Some (line.Field f)
unfolding said is_name_byte
field_read f h =
    let ty = external_text f.ty in
    let ty_word = (type_word f.ty h.typed).0 in
    let old_word = member_word f.old h.old in
    let new_word = member_word f.new h.new in
    let body = ty ++ (codes " " ++ (f.old ++ (codes " -> " ++ f.new))) in
    let open_ : Lacks 40 (ty ++ (codes " " ++ (f.old ++ (codes " -> " ++ f.new))))
    = lacks_append 40 ty _ (word_lacks 40 ty refl ty_word)
    (lacks_append 40 (codes " ") _ ((λ e. absurd (omega (arith, e))), tt)
    (lacks_append 40 f.old _ (word_lacks 40 f.old refl old_word) (lacks_append 40 (codes " -> ") f.new
    ((λ e. omega (arith, e)), ((λ e. omega (arith, e)), ((λ e. omega (arith, e)), ((λ e. omega (arith, e)), tt))))
    (word_lacks 40 f.new refl new_word)))) in
    let none : cut 40 (ty ++ (codes " " ++ (f.old ++ (codes " -> " ++ f.new)))) ≡ None = cut_lacks 40 _ open_ in
    let a : cut 32 (ty ++ (codes " " ++ (f.old ++ (codes " -> " ++ f.new))))
    ≡ Some (ty, f.old ++ (codes " -> " ++ f.new))
    = cut_is 32 ty (f.old ++ (codes " -> " ++ f.new)) (word_lacks 32 ty refl ty_word) in
    let b : cut 32 (f.old ++ (codes " -> " ++ f.new)) ≡ Some (f.old, codes "-> " ++ f.new)
    = cut_is 32 f.old (codes "-> " ++ f.new) (word_lacks 32 f.old refl old_word) in
    let c : after (codes "-> ") (codes "-> " ++ f.new) ≡ Some f.new = after_is (codes "-> ") f.new in
    let parts : field_line (ty ++ (codes " " ++ (f.old ++ (codes " -> " ++ f.new))))
    ≡ Some (field_parts ty f.old f.new) = rw (a, b, c) refl in
    let t : type_of ty ≡ Some f.ty = type_only ty f.ty (h.typed, refl) in
    let old_name : is_member_name f.old ≡ true = h.old in
    let new_name : is_member_name f.new ≡ true = h.new in
    member_read (ty ++ (codes " " ++ (f.old ++ (codes " -> " ++ f.new))))
    ∙ ap (λ (o : Option (List ℕ × List ℕ)). member_line
    (ty ++ (codes " " ++ (f.old ++ (codes " -> " ++ f.new)))) o >>= said) none
    ∙ ap (λ (o : Option Parts). o >>= said) parts ∙ rw (t, old_name, new_name) refl

-- a number's digits
pub digits_are_word : (n : ℕ) → n < 65536 → IsWord (decimal n)
digits_are_word n small = digits_word (decimal n) (decimal_digits n (omega (arith, small))).0

pub range_lacks_byte : (byte : ℕ) (lines : Option Range) → is_word_byte byte ≡ false → 58 ≢ byte → IfSome lines IsRange
    → Lacks byte (range_text lines)
range_lacks_byte byte None none colon h = tt
range_lacks_byte byte (Some r) none colon h =
    lacks_append byte (decimal r.first) _ (word_lacks byte (decimal r.first) none (digits_are_word r.first h.0)) (
      colon,
      lacks_append byte (decimal r.last) (codes ":")
          (word_lacks byte (decimal r.last) none (digits_are_word r.last h.1)) (colon, tt),
    )

lines_read : (lines : Option Range) (rest : List ℕ) → IfSome lines IsRange → Lacks 58 rest
    → lines_before (range_text lines ++ rest) (cut 58 (range_text lines ++ rest)) ≡ Some (lines, rest)
unfolding is_name_byte
lines_read None rest h lacks = ap (lines_before rest) (cut_lacks 58 rest lacks)
lines_read (Some r) rest h lacks =
    let whole : range_text (Some r) ++ rest ≡ decimal r.first ++ 58 ∷ (decimal r.last ++ 58 ∷ rest)
    = append_assoc (decimal r.first) (58 ∷ (decimal r.last ++ 58 ∷ [])) rest
    ∙ ap (λ (t : List ℕ). decimal r.first ++ 58 ∷ t) (append_assoc (decimal r.last) (58 ∷ []) rest) in
    let a : cut 58 (decimal r.first ++ 58 ∷ (decimal r.last ++ 58 ∷ rest))
    ≡ Some (decimal r.first, decimal r.last ++ 58 ∷ rest)
    = cut_is 58 (decimal r.first) (decimal r.last ++ 58 ∷ rest)
    (word_lacks 58 (decimal r.first) refl (digits_are_word r.first h.0)) in
    let b : cut 58 (decimal r.last ++ 58 ∷ rest) ≡ Some (decimal r.last, rest)
    = cut_is 58 (decimal r.last) rest (word_lacks 58 (decimal r.last) refl (digits_are_word r.last h.1)) in
    let c : number_below 65536 (decimal r.first) ≡ Some r.first =
    number_only 65536 (decimal r.first) r.first (omega arith) (h.0, refl) in
    let d : number_below 65536 (decimal r.last) ≡ Some r.last =
    number_only 65536 (decimal r.last) r.last (omega arith) (h.1, refl) in
    ap (λ (t : List ℕ). lines_before t (cut 58 t)) whole
    ∙ ap (lines_before (decimal r.first ++ 58 ∷ (decimal r.last ++ 58 ∷ rest))) a ∙ rw (b, c, d) refl

-- a method's line behind its blanks is cut at its first `(`
method_body : (lines ret old args new : List ℕ)
    → lines ++ ((ret ++ (codes " " ++ (old ++ (codes "(" ++ (args ++ codes ")"))))) ++ (codes " -> " ++ new))
    ≡ (lines ++ (ret ++ 32 ∷ old)) ++ 40 ∷ (args ++ 41 ∷ (codes " -> " ++ new))
method_body lines ret old args new = simp append_assoc

method_read : (m : MapMethod) → IsMethod m → line_said (method_line_text m) ≡ Some (line.Method m)
unfolding said is_name_byte
method_read m h =
    let lines = range_text m.lines in
    let ret = result_text m.ty.ret in
    let args = arguments_text m.ty.args in
    let ret_word = (result_word m.ty.ret (returned_is m.ty.ret h.typed.returned)).0 in
    let old_word = method_word m.old h.old in
    let head : List ℕ = range_text m.lines ++ (result_text m.ty.ret ++ 32 ∷ m.old) in
    let behind : List ℕ = arguments_text m.ty.args ++ 41 ∷ (codes " -> " ++ m.new) in
    let body = method_body (range_text m.lines) (result_text m.ty.ret) m.old (arguments_text m.ty.args) m.new in
    let open_ : Lacks 40 (range_text m.lines ++ (result_text m.ty.ret ++ 32 ∷ m.old))
    = lacks_append 40 (range_text m.lines) _ (range_lacks_byte 40 m.lines refl (λ e. omega (arith, e)) h.lines)
    (lacks_append 40 (result_text m.ty.ret) (32 ∷ m.old) (word_lacks 40 (result_text m.ty.ret) refl ret_word)
    ((λ e. omega (arith, e)), word_lacks 40 m.old refl old_word)) in
    let colon : Lacks 58 (result_text m.ty.ret ++ 32 ∷ m.old)
    = lacks_append 58 (result_text m.ty.ret) (32 ∷ m.old) (word_lacks 58 (result_text m.ty.ret) refl ret_word)
    ((λ e. omega (arith, e)), word_lacks 58 m.old refl old_word) in
    let a : cut 40
    ((range_text m.lines ++ (result_text m.ty.ret ++ 32 ∷ m.old))
    ++ 40 ∷ (arguments_text m.ty.args ++ 41 ∷ (codes " -> " ++ m.new)))
    ≡ Some (
      range_text m.lines ++ (result_text m.ty.ret ++ 32 ∷ m.old),
      arguments_text m.ty.args ++ 41 ∷ (codes " -> " ++ m.new),
    )
    = cut_is 40 (range_text m.lines ++ (result_text m.ty.ret ++ 32 ∷ m.old))
    (arguments_text m.ty.args ++ 41 ∷ (codes " -> " ++ m.new)) open_ in
    let b : lines_before (range_text m.lines ++ (result_text m.ty.ret ++ 32 ∷ m.old))
    (cut 58 (range_text m.lines ++ (result_text m.ty.ret ++ 32 ∷ m.old)))
    ≡ Some (m.lines, result_text m.ty.ret ++ 32 ∷ m.old) =
    lines_read m.lines (result_text m.ty.ret ++ 32 ∷ m.old) h.lines colon in
    let c : cut 32 (result_text m.ty.ret ++ 32 ∷ m.old) ≡ Some (result_text m.ty.ret, m.old)
    = cut_is 32 (result_text m.ty.ret) m.old (word_lacks 32 (result_text m.ty.ret) refl ret_word) in
    let d : cut 41 (arguments_text m.ty.args ++ 41 ∷ (codes " -> " ++ m.new))
    ≡ Some (arguments_text m.ty.args, codes " -> " ++ m.new)
    = cut_is 41 (arguments_text m.ty.args) (codes " -> " ++ m.new)
    (arguments_lack_byte 41 m.ty.args refl (λ e. omega (arith, e)) h.typed.arguments) in
    let e : after (codes " -> ") (codes " -> " ++ m.new) ≡ Some m.new = after_is (codes " -> ") m.new in
    let parts : method_line (range_text m.lines ++ (result_text m.ty.ret ++ 32 ∷ m.old))
    (arguments_text m.ty.args ++ 41 ∷ (codes " -> " ++ m.new))
    ≡ Some (method_parts m.lines (result_text m.ty.ret) m.old (arguments_text m.ty.args) m.new) =
    rw (b, c, d, e) refl in
    let t : method_type_of (result_text m.ty.ret) (arguments_text m.ty.args) ≡ Some m.ty =
    method_type_only (result_text m.ty.ret) (arguments_text m.ty.args) m.ty h.typed refl refl in
    let old_name : is_method_name m.old ≡ true = h.old in
    let new_name : is_method_name m.new ≡ true = h.new in
    ap (λ (u : List ℕ). line_said (codes "    " ++ u)) body
    ∙ member_read
    ((range_text m.lines ++ (result_text m.ty.ret ++ 32 ∷ m.old))
    ++ 40 ∷ (arguments_text m.ty.args ++ 41 ∷ (codes " -> " ++ m.new)))
    ∙ ap (λ (o : Option (List ℕ × List ℕ)). member_line
    ((range_text m.lines ++ (result_text m.ty.ret ++ 32 ∷ m.old))
    ++ 40 ∷ (arguments_text m.ty.args ++ 41 ∷ (codes " -> " ++ m.new))) o >>= said) a
    ∙ ap (λ (o : Option Parts). o >>= said) parts ∙ rw (t, old_name, new_name) refl

line_only : (text : List ℕ) (l : MapLine) → SpellsLine text l → line_said text ≡ Some l
unfolding line_text
line_only text (line.Class old new) h = ap line_said h.1 ∙ class_read old new h.0.0 h.0.1
line_only text (line.Field f) h = ap line_said h.1 ∙ field_read f h.0
line_only text (line.Method m) h = ap line_said h.1 ∙ method_read m h.0

-- a line is read as what it spells, and as nothing else
pub line_says : Says SpellsLine line_said
line_says = record { found = line_found; only = line_only }

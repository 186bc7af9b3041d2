-- The lines of a mapping as it is written: they tell it, and each is a line by itself.
use Rattle.std.proofs.Common.{◌≡◌, ◌≢◌, ℕ, ◌+◌, ◌<◌, ◌≤◌, Bool, true, false, List, [], ◌∷◌, ◌++◌, map, length, Option}
use Rattle.std.proofs.Common.{Some, None, Result, Ok, Err, refl, sym, ap, subst, ◌∙◌, append_assoc, arith, codes}
use Rattle.std.specs.Prelude.{IfSome, IsTrue, OnOk}
use Rattle.std.specs.Fmt.{decimal}
use Rattle.std.specs.List.{AllByRecursion, filter_map, flat_map}
use Rattle.std.specs.Str.{IsUtf8}
use Rattle.std.specs.Str.Lines.{lines}
use Rattle.std.proofs.lemmas.List.{append-nil}
use Rattle.std.proofs.lemmas.List.Concat.{flat_map-append}
use Rattle.jv_base.specs.External.{dotted, external_text}
use Rattle.jv_base.specs.Names.{is_name_byte}
use Rattle.jv_base.specs.Types.{IsFieldType}
use Rattle.jv_base.specs.declared.types.FieldType.{FieldType}
use Rattle.jv_base.proofs.Lists.{all_append, all_split}
use Rattle.text_lines.specs.Cut.{Lacks}
use Rattle.text_lines.specs.Lines.{AreSpelled, AllSpell, is_passed_over, saying}
use Rattle.text_lines.specs.Members.{arguments_text, method_text, result_text}
use Rattle.text_lines.proofs.Numerals.{decimal_digits}
use Rattle.text_lines.proofs.Parts.{lacks_append}
use Rattle.text_lines.proofs.Words.{IsWord, class_some, class_word, digits_word, is_word_byte, member_says, member_word}
use Rattle.text_lines.proofs.Words.{method_word, result_word, type_word, word_lacks, word_says, returned_is}
use Rattle.text_lines.proofs.Written.{IsPlain, IsWritten, all_written}
use Rattle.text_lines.proofs.Arguments.{arguments_lack_byte}
use Rattle.mapping_file.specs.MapLines.{IsField, IsLine, IsMethod, IsRange, SpellsLine, class_line_text}
use Rattle.mapping_file.specs.MapLines.{field_line_text, line_text, method_line_text, range_text}
use Rattle.mapping_file.specs.Mappings.{AreApart, IsMapping, IsMember, IsTextLine, TellClasses, TellMembers}
use Rattle.mapping_file.specs.Mappings.{class_lines, ended_line, field_in, mapping_text, method_in}
use Rattle.mapping_file.specs.declared.line.MapLine.{MapLine}
use Rattle.mapping_file.specs.declared.line.MapLine.TheVariants as line
use Rattle.mapping_file.specs.declared.mapping.MapClass.{MapClass}
use Rattle.mapping_file.specs.declared.mapping.MapField.{MapField}
use Rattle.mapping_file.specs.declared.mapping.MapMethod.{MapMethod}
use Rattle.mapping_file.specs.declared.mapping.Mapping.{Mapping}
use Rattle.mapping_file.specs.declared.mapping.Range.{Range}
use Rattle.mapping_file.proofs.LineLaw.{range_lacks_byte, digits_are_word}
use Rattle.mapping_file.proofs.Told.{filtered}

-- ---- what the lines tell

fields_only : (fs : List MapField) → filter_map field_in (map (λ f. line.Field f) fs) ≡ fs
fields_only [] = refl
fields_only (f ∷ fs) = ap (λ (l : List MapField). f ∷ l) (fields_only fs)

no_field : (ms : List MapMethod) → filter_map field_in (map (λ m. line.Method m) ms) ≡ []
no_field [] = refl
no_field (m ∷ ms) = no_field ms

no_method : (fs : List MapField) → filter_map method_in (map (λ f. line.Field f) fs) ≡ []
no_method [] = refl
no_method (f ∷ fs) = no_method fs

methods_only : (ms : List MapMethod) → filter_map method_in (map (λ m. line.Method m) ms) ≡ ms
methods_only [] = refl
methods_only (m ∷ ms) = ap (λ (l : List MapMethod). m ∷ l) (methods_only ms)

fields_are : (fs : List MapField) → AllByRecursion IsMember (map (λ f. line.Field f) fs)
fields_are [] = tt
fields_are (f ∷ fs) = (tt, fields_are fs)

methods_are : (ms : List MapMethod) → AllByRecursion IsMember (map (λ m. line.Method m) ms)
methods_are [] = tt
methods_are (m ∷ ms) = (tt, methods_are ms)

members_tell : (c : MapClass) → TellMembers (map (λ f. line.Field f) c.fields ++ map (λ m. line.Method m) c.methods) c
members_tell c = record {
  members = all_append IsMember _ _ (fields_are c.fields) (methods_are c.methods);
  fields = filtered field_in (map (λ f. line.Field f) c.fields) (map (λ m. line.Method m) c.methods)
      ∙ ap (λ (l : List MapField). filter_map field_in (map (λ f. line.Field f) c.fields) ++ l) (no_field c.methods)
      ∙ append-nil _ ∙ fields_only c.fields;
  methods = filtered method_in (map (λ f. line.Field f) c.fields) (map (λ m. line.Method m) c.methods)
      ∙ ap (λ (l : List MapMethod). l ++ filter_map method_in (map (λ m. line.Method m) c.methods)) (no_method c.fields)
      ∙ methods_only c.methods;
}

-- the lines of classes tell them
pub classes_tell : (cs : List MapClass) → TellClasses (flat_map class_lines cs) cs
classes_tell [] = refl
classes_tell (c ∷ cs) = (
  map (λ f. line.Field f) c.fields ++ map (λ m. line.Method m) c.methods,
  flat_map class_lines cs,
  refl,
  members_tell c,
  classes_tell cs,
)

-- ---- each line by itself

blank_no_end : (byte : ℕ) → byte < 32 → 32 ≢ byte
blank_no_end byte small e = omega (arith, small, e)

new_lacks : (byte : ℕ) (new : List ℕ) → byte < 32 → Lacks byte new → Lacks byte (codes " -> " ++ new)
new_lacks byte new small h = (
  (λ e. omega (arith, small, e)),
  ((λ e. omega (arith, small, e)), ((λ e. omega (arith, small, e)), ((λ e. omega (arith, small, e)), h))),
)

-- a line has no byte of the ends of lines
line_lacks : (byte : ℕ) (l : MapLine) → byte < 32 → is_word_byte byte ≡ false → IsLine l → Lacks byte (line_text l)
unfolding line_text
line_lacks byte (line.Class old new) small none h =
    lacks_append byte (dotted old) _ (word_lacks byte (dotted old) none (class_word old h.0))
    (new_lacks byte (dotted new ++ codes ":") small
    (lacks_append byte (dotted new) (codes ":") (word_lacks byte (dotted new) none (class_word new h.1))
    ((λ e. omega (arith, small, e)), tt)))
line_lacks byte (line.Field f) small none h =
    lacks_append byte (codes "    ") _ (
      (λ e. omega (arith, small, e)),
      ((λ e. omega (arith, small, e)), ((λ e. omega (arith, small, e)), ((λ e. omega (arith, small, e)), tt))),
    )
    (lacks_append byte (external_text f.ty) _ (word_lacks byte (external_text f.ty) none (type_word f.ty h.typed).0) (
      (λ e. omega (arith, small, e)),
      lacks_append byte f.old _ (word_lacks byte f.old none (member_word f.old h.old))
          (new_lacks byte f.new small (word_lacks byte f.new none (member_word f.new h.new))),
    ))
line_lacks byte (line.Method m) small none h =
    lacks_append byte (codes "    ") _ (
      (λ e. omega (arith, small, e)),
      ((λ e. omega (arith, small, e)), ((λ e. omega (arith, small, e)), ((λ e. omega (arith, small, e)), tt))),
    )
    (lacks_append byte (range_text m.lines) _
    (range_lacks_byte byte m.lines none (λ e. omega (arith, small, e)) h.lines)
    (lacks_append byte (method_text m.ty m.old) _
    (lacks_append byte (result_text m.ty.ret) _
    (word_lacks byte (result_text m.ty.ret) none (result_word m.ty.ret (returned_is m.ty.ret h.typed.returned)).0) (
      (λ e. omega (arith, small, e)),
      lacks_append byte m.old _ (word_lacks byte m.old none (method_word m.old h.old)) (
        (λ e. omega (arith, small, e)),
        lacks_append byte (arguments_text m.ty.args) (codes ")")
            (arguments_lack_byte byte m.ty.args none (λ e. omega (arith, small, e)) h.typed.arguments)
            ((λ e. omega (arith, small, e)), tt),
      ),
    ))
    (new_lacks byte m.new small (word_lacks byte m.new none (method_word m.new h.new)))))

line_plain : (l : MapLine) → IsLine l → IsPlain (line_text l)
unfolding is_name_byte
line_plain l h = (line_lacks 10 l (omega arith) refl h, line_lacks 13 l (omega arith) refl h)

range_word : (r : Range) → IsRange r → IsWord (decimal r.first) × (0 < length (decimal r.first))
range_word r h = (digits_are_word r.first h.0, (decimal_digits r.first (omega (arith, h.0))).1)

method_says : (lines : Option Range) (rest : List ℕ) (ret : List ℕ) → IfSome lines IsRange → IsWord ret → 0 < length ret
    → is_passed_over (codes "    " ++ (range_text lines ++ (ret ++ rest))) ≡ false
method_says None rest ret h w some = member_says ret rest w some
method_says (Some r) rest ret h w some =
    let p = range_word r h in
    ap (λ (t : List ℕ). is_passed_over (codes "    " ++ t))
    (append_assoc (decimal r.first) (codes ":" ++ (decimal r.last ++ codes ":")) (ret ++ rest))
    ∙ member_says (decimal r.first) ((codes ":" ++ (decimal r.last ++ codes ":")) ++ (ret ++ rest)) p.0 p.1

line_says_something : (l : MapLine) → IsLine l → is_passed_over (line_text l) ≡ false
unfolding line_text
line_says_something (line.Class old new) h = word_says (dotted old) _ (class_word old h.0) (class_some old h.0)
line_says_something (line.Field f) h = let w = type_word f.ty h.typed in member_says (external_text f.ty) _ w.0 w.1
line_says_something (line.Method m) h =
    let w = result_word m.ty.ret (returned_is m.ty.ret h.typed.returned) in
    ap (λ (t : List ℕ). is_passed_over (codes "    " ++ (range_text m.lines ++ t)))
    (append_assoc (result_text m.ty.ret)
    (codes " " ++ (m.old ++ (codes "(" ++ (arguments_text m.ty.args ++ codes ")")))) (codes " -> " ++ m.new))
    ∙ method_says m.lines
    ((codes " " ++ (m.old ++ (codes "(" ++ (arguments_text m.ty.args ++ codes ")")))) ++ (codes " -> " ++ m.new))
    (result_text m.ty.ret) h.lines w.0 w.1

line_written : (l : MapLine) → IsTextLine l → IsWritten SpellsLine line_text l
line_written l h =
    record { plain = line_plain l h.0; utf8 = h.1; says = line_says_something l h.0; spelled = (h.0, refl) }

all_lines_written : (ls : List MapLine) → AllByRecursion IsTextLine ls
    → AllByRecursion (IsWritten SpellsLine line_text) ls
all_lines_written [] h = tt
all_lines_written (l ∷ ls) h = (line_written l h.0, all_lines_written ls h.1)

all_text_lines : (cs : List MapClass) → AllByRecursion (λ c. AllByRecursion IsTextLine (class_lines c)) cs
    → AllByRecursion IsTextLine (flat_map class_lines cs)
all_text_lines [] h = tt
all_text_lines (c ∷ cs) h = all_append IsTextLine (class_lines c) (flat_map class_lines cs) h.0 (all_text_lines cs h.1)

flat_flat : (cs : List MapClass)
    → flat_map (λ c. flat_map ended_line (class_lines c)) cs ≡ flat_map ended_line (flat_map class_lines cs)
flat_flat [] = refl
flat_flat (c ∷ cs) = ap (λ (t : List ℕ). flat_map ended_line (class_lines c) ++ t) (flat_flat cs)
    ∙ sym (flat_map-append ended_line (class_lines c) (flat_map class_lines cs))

-- the text of a mapping spells its lines
pub text_spells : (m : Mapping) → IsMapping m
    → AreSpelled SpellsLine (lines (mapping_text m)) (flat_map class_lines m.classes)
unfolding mapping_text
text_spells m h =
    subst (λ (t : List ℕ). AreSpelled SpellsLine (lines t) (flat_map class_lines m.classes)) (sym (flat_flat m.classes))
    (all_written SpellsLine line_text (flat_map class_lines m.classes)
    (all_lines_written (flat_map class_lines m.classes) (all_text_lines m.classes h.named)))

fields_text : (fs : List MapField)
    → flat_map ended_line (map (λ f. line.Field f) fs) ≡ flat_map (λ f. field_line_text f ++ 10 ∷ []) fs
unfolding line_text
fields_text [] = refl
fields_text (f ∷ fs) = ap (λ (t : List ℕ). (field_line_text f ++ 10 ∷ []) ++ t) (fields_text fs)

methods_text : (ms : List MapMethod)
    → flat_map ended_line (map (λ m. line.Method m) ms) ≡ flat_map (λ m. method_line_text m ++ 10 ∷ []) ms
unfolding line_text
methods_text [] = refl
methods_text (m ∷ ms) = ap (λ (t : List ℕ). (method_line_text m ++ 10 ∷ []) ++ t) (methods_text ms)

-- the text of a class: its line, then those of its fields, then those of its methods
pub class_text : (c : MapClass) → flat_map ended_line (class_lines c)
    ≡ (class_line_text c.old c.new ++ 10 ∷ [])
    ++ (flat_map (λ f. field_line_text f ++ 10 ∷ []) c.fields
    ++ flat_map (λ m. method_line_text m ++ 10 ∷ []) c.methods)
unfolding line_text
class_text c = ap (λ (t : List ℕ). (class_line_text c.old c.new ++ 10 ∷ []) ++ t)
    (flat_map-append ended_line (map (λ f. line.Field f) c.fields) (map (λ m. line.Method m) c.methods)
    ∙ ap (λ (t : List ℕ). t ++ flat_map ended_line (map (λ m. line.Method m) c.methods)) (fields_text c.fields)
    ∙ ap (λ (t : List ℕ). flat_map (λ f. field_line_text f ++ 10 ∷ []) c.fields ++ t) (methods_text c.methods))

-- a class's lines that were pushed one after the other
pub class_pushed : {T E : Type 0} (r : Result T E) (c : MapClass) (fs : List MapField) (ms : List MapMethod)
    (before head fields out : List ℕ)
    → fs ≡ c.fields → ms ≡ c.methods
    → head ≡ before ++ (class_line_text c.old c.new ++ 10 ∷ [])
    → fields ≡ head ++ flat_map (λ f. field_line_text f ++ 10 ∷ []) fs
    → OnOk r (out ≡ fields ++ flat_map (λ m. method_line_text m ++ 10 ∷ []) ms)
    → OnOk r (out ≡ before ++ flat_map ended_line (class_lines c))
class_pushed (Ok x) c fs ms before head fields out i j h k m =
    let l : List ℕ = class_line_text c.old c.new ++ 10 ∷ [] in
    let f : List ℕ = flat_map (λ f. field_line_text f ++ 10 ∷ []) c.fields in
    let n : List ℕ = flat_map (λ m. method_line_text m ++ 10 ∷ []) c.methods in
    m ∙ ap (λ (t : List MapMethod). fields ++ flat_map (λ m. method_line_text m ++ 10 ∷ []) t) j
    ∙ ap (λ (t : List ℕ). t ++ n)
    (k ∙ ap (λ (t : List MapField). head ++ flat_map (λ f. field_line_text f ++ 10 ∷ []) t) i
    ∙ ap (λ (t : List ℕ). t ++ f) h)
    ∙ append_assoc (before ++ l) f n ∙ append_assoc before l (f ++ n)
    ∙ ap (λ (t : List ℕ). before ++ t) (sym (class_text c))
class_pushed (Err e) c fs ms before head fields out i j h k m = tt

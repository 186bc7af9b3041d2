-- A text stands for the mapping that is read of it, and for no other; what is written stands for what was written.
use Rattle.std.proofs.Common.{◌≡◌, ℕ, ◌+◌, List, [], ◌∷◌, ◌++◌, length, map, Result, Ok, Err, refl, sym}
use Rattle.std.proofs.Common.{ap, subst, ◌∙◌, append_assoc, arith}
use Rattle.std.specs.List.{AllByRecursion, filter_map, flat_map}
use Rattle.std.specs.Str.{IsUtf8}
use Rattle.std.specs.Str.Lines.{lines}
use Rattle.std.proofs.lemmas.List.{append-nil}
use Rattle.jv_base.specs.Outcome.{◌>>=◌, FaultIs}
use Rattle.jv_base.specs.declared.outcome.Or.{Or}
use Rattle.jv_base.specs.declared.outcome.Or.TheVariants.{Fault, OutOfMemory}
use Rattle.jv_base.proofs.Lists.{all_append, all_split}
use Rattle.text_lines.specs.Faults.{IsFirstAtFault}
use Rattle.text_lines.specs.Lines.{AllSpell, AreSpelled, item_added, line_read, read_lines, saying}
use Rattle.text_lines.proofs.ReadLines.{bind_ok, lines_found, lines_only, saying_utf8}
use Rattle.text_lines.proofs.Refused.{bind_err, kind_at, lines_refused, refused_anyway}
use Rattle.mapping_file.specs.LineReading.{line_said}
use Rattle.mapping_file.specs.MapLines.{IsLine, SpellsLine, line_text}
use Rattle.mapping_file.specs.MapReading.{with_line, all_classes, fault, nothing, read_mapping, step}
use Rattle.mapping_file.specs.Mappings.{AreApart, IsMapping, IsMember, IsTextLine, Reading, StandFor, TellClasses}
use Rattle.mapping_file.specs.Mappings.{TellMembers, class_lines, field_in, mapping_text, method_in}
use Rattle.mapping_file.specs.declared.line.MapLine.{MapLine}
use Rattle.mapping_file.specs.declared.line.MapLine.TheVariants as line
use Rattle.mapping_file.specs.declared.mapping.MapClass.{MapClass}
use Rattle.mapping_file.specs.declared.mapping.MapFault.{MapFault}
use Rattle.mapping_file.specs.declared.mapping.MapField.{MapField}
use Rattle.mapping_file.specs.declared.mapping.MapKind.TheVariants.{NotUtf8, BadLine}
use Rattle.mapping_file.specs.declared.mapping.MapMethod.{MapMethod}
use Rattle.mapping_file.specs.declared.mapping.Mapping.{Mapping}
use Rattle.mapping_file.specs.declared.reading.ClassesRead.{ClassesRead}
use Rattle.mapping_file.proofs.Canonical.{classes_tell, text_spells}
use Rattle.mapping_file.proofs.LineLaw.{line_says}
use Rattle.mapping_file.proofs.Told.{told_by, told_only}

-- the mapping of classes
abbrev of_classes : List MapClass → Mapping
of_classes cs = record { classes = cs }

-- lines that were read stand for what they told
stand_found : (ls : List (List ℕ)) (r : ClassesRead) → read_lines step 1 ls nothing ≡ Ok r
    → StandFor ls (of_classes (all_classes r))
stand_found ls r h =
    let found = lines_found fault NotUtf8 BadLine with_line line_says 1 ls nothing r h in
    let told = told_by found.0 r found.2 in
    record { told = found.0; spelled = found.1; classes = told.classes; apart = told.apart }

-- lines that stand for a mapping are read
stand_only : (ls : List (List ℕ)) (m : Mapping) → StandFor ls m
    → (r : ClassesRead) × (read_lines step 1 ls nothing ≡ Ok r) × (all_classes r ≡ m.classes)
stand_only ls m h =
    let s = told_only h.told m.classes h.classes h.apart in
    (s.0, lines_only fault NotUtf8 BadLine with_line line_says 1 ls h.told nothing s.0 h.spelled s.1, s.2)

-- what is read is what the text stands for
pub read_found : (text : List ℕ) (m : Mapping) → read_mapping text ≡ Ok m → Reading text m
unfolding read_mapping
read_found text m h =
    let b = bind_ok (read_lines step 1 (lines text) nothing) (λ r. Ok (of_classes (all_classes r))) m h in
    let is : of_classes (all_classes b.0) ≡ m = cc in
    subst (Reading text) is (stand_found (lines text) b.0 b.1)

-- what the text stands for is read
pub read_only : (text : List ℕ) (m : Mapping) → Reading text m → read_mapping text ≡ Ok m
unfolding read_mapping
read_only text m h =
    let s = stand_only (lines text) m h in
    rw s.1 (ap (λ (cs : List MapClass). let R : Result Mapping MapFault = Ok (of_classes cs) in R) s.2)

-- the line that is told is the first at fault
pub first_at_fault : (text : List ℕ) (f : MapFault) → read_mapping text ≡ Err f
    → IsFirstAtFault StandFor (lines text) f.line
unfolding read_mapping
first_at_fault text f h =
    let e = bind_err (read_lines step 1 (lines text) nothing) (λ r. of_classes (all_classes r)) f h in
    let p = lines_refused step 1 (lines text) nothing f e in
    let kind = kind_at fault (1 + length p.before)
    (line_read NotUtf8 (λ l t. item_added BadLine with_line (line_said l) t) p.line p.state) f p.refused in
    let number : f.line ≡ 1 + length p.before = ap (λ (g : MapFault). g.line) kind.1 in
    record {
      before = p.before;
      line = p.line;
      behind = p.behind;
      parts = p.parts;
      numbered = omega (arith, number);
      begins = (
        [],
        of_classes (all_classes p.state),
        subst (λ (ls : List (List ℕ)). StandFor ls (of_classes (all_classes p.state))) (sym (append-nil p.before))
            (stand_found p.before p.state p.read),
      );
      stops = λ more.
          let lines_are : (p.before ++ p.line ∷ []) ++ more.0 ≡ p.before ++ p.line ∷ more.0 =
          append_assoc p.before (p.line ∷ []) more.0 in
          let read = stand_only (p.before ++ p.line ∷ more.0) more.1
          (subst (λ (ls : List (List ℕ)). StandFor ls more.1) lines_are more.2) in
          let refused = refused_anyway step 1 p.before p.line more.0 nothing p.state f p.read p.refused in
          absurd cc;
    }

-- ---- what is written

-- what is written is read back
pub written_back : (m : Mapping) → IsMapping m → read_mapping (mapping_text m) ≡ Ok m
written_back m h = read_only (mapping_text m) m (record {
  told = flat_map class_lines m.classes;
  spelled = text_spells m h;
  classes = classes_tell m.classes;
  apart = h.apart;
})

spelled_lines : (ls : List (List ℕ)) (xs : List MapLine) → AllByRecursion IsUtf8 ls → AllSpell SpellsLine ls xs
    → AllByRecursion IsTextLine xs
spelled_lines [] [] u h = tt
spelled_lines [] (x ∷ xs) u h = absurd h
spelled_lines (l ∷ ls) [] u h = absurd h
spelled_lines (l ∷ ls) (x ∷ xs) u h = ((h.0.0, subst IsUtf8 h.0.1 u.0), spelled_lines ls xs u.1 h.1)

fields_hold : (P : MapLine → Type 0) (ls : List MapLine) → AllByRecursion P ls
    → AllByRecursion P (map (λ f. line.Field f) (filter_map field_in ls))
fields_hold P [] h = tt
fields_hold P (line.Class old new ∷ ls) h = fields_hold P ls h.1
fields_hold P (line.Field f ∷ ls) h = (h.0, fields_hold P ls h.1)
fields_hold P (line.Method m ∷ ls) h = fields_hold P ls h.1

methods_hold : (P : MapLine → Type 0) (ls : List MapLine) → AllByRecursion P ls
    → AllByRecursion P (map (λ m. line.Method m) (filter_map method_in ls))
methods_hold P [] h = tt
methods_hold P (line.Class old new ∷ ls) h = methods_hold P ls h.1
methods_hold P (line.Field f ∷ ls) h = methods_hold P ls h.1
methods_hold P (line.Method m ∷ ls) h = (h.0, methods_hold P ls h.1)

class_holds : (P : MapLine → Type 0) (ls : List MapLine) (c : MapClass) → P (line.Class c.old c.new) → TellMembers ls c
    → AllByRecursion P ls → AllByRecursion P (class_lines c)
class_holds P ls c first t h = (
  first,
  all_append P (map (λ f. line.Field f) c.fields) (map (λ m. line.Method m) c.methods)
      (subst (λ (fs : List MapField). AllByRecursion P (map (λ f. line.Field f) fs)) t.fields (fields_hold P ls h))
      (subst (λ (ms : List MapMethod). AllByRecursion P (map (λ m. line.Method m) ms)) t.methods (methods_hold P ls h)),
)

-- what holds of lines holds of those that are written of what they tell
classes_hold : (P : MapLine → Type 0) (ls : List MapLine) (cs : List MapClass) → TellClasses ls cs → AllByRecursion P ls
    → AllByRecursion (λ c. AllByRecursion P (class_lines c)) cs
classes_hold P ls [] t h = tt
classes_hold P ls (c ∷ cs) t h =
    let k = subst (AllByRecursion P) t.2 h in
    let parts = all_split P t.0 t.1 k.1 in
    (class_holds P t.0 c k.0 t.3 parts.0, classes_hold P t.1 cs t.4 parts.1)

-- what a text stands for has a text of its own
pub reading_is : (text : List ℕ) (m : Mapping) → Reading text m → IsMapping m
reading_is text m h = record {
  named = classes_hold IsTextLine h.told m.classes h.classes
      (spelled_lines (saying (lines text)) h.told (saying_utf8 (lines text) h.spelled.utf8) h.spelled.spelled);
  apart = h.apart;
}

-- and is read back of it
pub read_again : (text : List ℕ) (m : Mapping) → Reading text m → read_mapping (mapping_text m) ≡ Ok m
read_again text m h = written_back m (reading_is text m h)

-- a text stands for one mapping at most
pub one_reading : (text : List ℕ) (m n : Mapping) → Reading text m → Reading text n → m ≡ n
one_reading text m n h k = let p = read_only text m h in let q = read_only text n k in cc

-- ---- what the reader answers

-- the mapping of what lines told
pub mapping_read : (text : List ℕ) (r : ClassesRead) (m : Mapping) → read_lines step 1 (lines text) nothing ≡ Ok r
    → m.classes ≡ all_classes r → read_mapping text ≡ Ok m
unfolding read_mapping
mapping_read text r m h e =
    rw h (ap (λ (cs : List MapClass). let R : Result Mapping MapFault = Ok (of_classes cs) in R) (sym e))

-- the first line at fault
pub mapping_refused : (text : List ℕ) (o : Or MapFault) → FaultIs o (read_lines step 1 (lines text) nothing)
    → FaultIs o (read_mapping text)
unfolding read_mapping
mapping_refused text (Fault f) h = rw h refl
mapping_refused text OutOfMemory h = tt

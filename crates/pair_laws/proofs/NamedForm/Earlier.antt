-- The names that an earlier mapping tells are names of their kind.
use Rattle.std.proofs.Common.{◌≡◌, ℕ, ◌+◌, ◌<◌, List, [], ◌∷◌, ◌++◌, length, map, take, drop, get_or, Option, Some, None}
use Rattle.std.proofs.Common.{refl, sym, ap, subst, ◌∙◌, append_assoc, arith, codes}
use Rattle.std.specs.Prelude.{IfSome, IsTrue, IsUtf8}
use Rattle.std.specs.List.{AllByRecursion}
use Rattle.std.proofs.Math.Seq.{drop-append-add, get_or-append_seam, take-append_seam}
use Rattle.std.proofs.lemmas.List.{length-append}
use Rattle.std.proofs.lemmas.Str.{IsCharBoundary-after_ascii, IsCharBoundary-before_ascii, IsUtf8-drop, IsUtf8-take}
use Rattle.jv_base.specs.External.{dotted, external_text, slashed}
use Rattle.jv_base.specs.Names.{is_class_name, is_member_name, is_method_name}
use Rattle.jv_base.proofs.Lists.{all_append, all_split}
use Rattle.text_lines.specs.Members.{method_text}
use Rattle.class_model.specs.WellFormed.{IsName}
use Rattle.class_rename.specs.Names.{MethodName}
use Rattle.mapping_file.specs.MapLines.{IsField, IsMethod, class_line_text, field_line_text, line_text, method_line_text}
use Rattle.mapping_file.specs.MapLines.{range_text}
use Rattle.mapping_file.specs.Mappings.{IsMapping, IsTextLine, class_lines}
use Rattle.mapping_file.specs.declared.mapping.MapClass.{MapClass}
use Rattle.mapping_file.specs.declared.mapping.MapField.{MapField}
use Rattle.mapping_file.specs.declared.mapping.MapMethod.{MapMethod}
use Rattle.mapping_file.specs.declared.mapping.Mapping.{Mapping}
use Rattle.new_names.specs.NewNames.{all_field_names, all_method_names, class_names, field_names, method_lines, tables_of}
use Rattle.pair_laws.specs.RenamedForm.GivenForm.{TellNames}
use Rattle.pair_laws.proofs.OwnMapping.Texts.{slashed_utf8}
use Rattle.pair_laws.proofs.PairTrace.Bytes.{class_undotted}

-- ---- parts of a text

-- what stands behind a character of ASCII is a text
behind : (front rest : List ℕ) (b : ℕ) → b < 128 → IsUtf8 (front ++ b ∷ rest) → IsUtf8 rest
behind front rest b small h =
    let at = get_or-append_seam front b rest 0 in
    let long = length-append front (b ∷ rest) in
    subst IsUtf8 (drop-append-add front (b ∷ rest) 1)
    (IsUtf8-drop (front ++ b ∷ rest) (length front + 1) h
    (IsCharBoundary-after_ascii (front ++ b ∷ rest) (length front) h (omega (arith, long)) (omega (arith, at, small))))

-- and so is what stands before the last one
before : (front : List ℕ) (b : ℕ) → b < 128 → IsUtf8 (front ++ b ∷ []) → IsUtf8 front
before front b small h =
    let at = get_or-append_seam front b [] 0 in
    let long = length-append front (b ∷ []) in
    subst IsUtf8 (take-append_seam front (b ∷ []))
    (IsUtf8-take (front ++ b ∷ []) (length front) h
    (IsCharBoundary-before_ascii (front ++ b ∷ []) (length front) (omega (arith, long)) (omega (arith, at, small))))

-- one part more in front
join : (xs text front rest : List ℕ) → text ≡ front ++ rest → xs ++ text ≡ (xs ++ front) ++ rest
join xs text front rest is = ap (λ (t : List ℕ). xs ++ t) is ∙ sym (append_assoc xs front rest)

-- ---- new names of lines

-- ` ->`, behind which a blank stands
abbrev arrow : List ℕ
arrow = 32 ∷ (45 ∷ (62 ∷ []))

class_new : (old new : List ℕ) → IsTrue (is_class_name new) → IsUtf8 (class_line_text old new) → IsUtf8 new
class_new old new named h =
    subst IsUtf8 (class_undotted new named)
    (slashed_utf8 (dotted new)
    (before (dotted new) 58 (omega arith)
    (behind (dotted old ++ arrow) (dotted new ++ codes ":") 32 (omega arith)
    (subst IsUtf8
    (join (dotted old) (codes " -> " ++ (dotted new ++ codes ":")) arrow (32 ∷ (dotted new ++ codes ":")) refl) h))))

field_new : (f : MapField) → IsUtf8 (field_line_text f) → IsUtf8 f.new
field_new f h =
    behind (codes "    " ++ (external_text f.ty ++ (codes " " ++ (f.old ++ arrow)))) f.new 32 (omega arith)
    (subst IsUtf8
    (join (codes "    ") (external_text f.ty ++ (codes " " ++ (f.old ++ (codes " -> " ++ f.new))))
    (external_text f.ty ++ (codes " " ++ (f.old ++ arrow))) (32 ∷ f.new)
    (join (external_text f.ty) (codes " " ++ (f.old ++ (codes " -> " ++ f.new))) (codes " " ++ (f.old ++ arrow))
    (32 ∷ f.new)
    (join (codes " ") (f.old ++ (codes " -> " ++ f.new)) (f.old ++ arrow) (32 ∷ f.new)
    (join f.old (codes " -> " ++ f.new) arrow (32 ∷ f.new) refl)))) h)

method_new : (m : MapMethod) → IsUtf8 (method_line_text m) → IsUtf8 m.new
method_new m h =
    behind (codes "    " ++ (range_text m.lines ++ (method_text m.ty m.old ++ arrow))) m.new 32 (omega arith)
    (subst IsUtf8
    (join (codes "    ") (range_text m.lines ++ (method_text m.ty m.old ++ (codes " -> " ++ m.new)))
    (range_text m.lines ++ (method_text m.ty m.old ++ arrow)) (32 ∷ m.new)
    (join (range_text m.lines) (method_text m.ty m.old ++ (codes " -> " ++ m.new)) (method_text m.ty m.old ++ arrow)
    (32 ∷ m.new)
    (join (method_text m.ty m.old) (codes " -> " ++ m.new) arrow (32 ∷ m.new) refl))) h)

-- ---- new names of classes and members

-- a line of a field, and one of a method, with a text
abbrev IsTextField : MapField → Type 0
IsTextField f = IsField f × IsUtf8 (field_line_text f)

abbrev IsTextMethod : MapMethod → Type 0
IsTextMethod m = IsMethod m × IsUtf8 (method_line_text m)

-- what holds of the images of two lists, one behind the other, holds of their elements
of_mapped : {X A : Type 0} (P : A → Type 0) (f : X → A) (xs : List X) → AllByRecursion P (map f xs)
    → AllByRecursion (λ (x : X). P (f x)) xs
of_mapped P f [] all = tt
of_mapped P f (x ∷ xs) all = (all.0, of_mapped P f xs all.1)

of_both : {X Y A : Type 0} (P : A → Type 0) (f : X → A) (g : Y → A) (xs : List X) (ys : List Y)
    → AllByRecursion P (map f xs ++ map g ys)
    → AllByRecursion (λ (x : X). P (f x)) xs × AllByRecursion (λ (y : Y). P (g y)) ys
of_both P f g xs ys all =
    let parts = all_split P (map f xs) (map g ys) all in
    (of_mapped P f xs parts.0, of_mapped P g ys parts.1)

abbrev AreTold : List MapClass → Type 0
AreTold lines = AllByRecursion (λ (c : MapClass). AllByRecursion IsTextLine (class_lines c)) lines

classes_told : (lines : List MapClass) → AreTold lines
    → AllByRecursion (λ (e : List ℕ × List ℕ). IsUtf8 e.1 × IsTrue (is_class_name e.1)) (class_names lines)
unfolding line_text
classes_told [] told = tt
classes_told (c ∷ lines) told =
    let own = told.0.0 in
    ((class_new c.old c.new own.0.1 own.1, own.0.1), classes_told lines told.1)

own_fields : (fs : List MapField) → AllByRecursion IsTextField fs
    → AllByRecursion (λ (e : List ℕ × List ℕ). IsName is_member_name e.1) (field_names fs)
own_fields [] told = tt
own_fields (f ∷ fs) told =
    let own = told.0 in let l = own.0 in ((field_new f own.1, l.new), own_fields fs told.1)

own_methods : (ms : List MapMethod) → AllByRecursion IsTextMethod ms
    → AllByRecursion (λ (e : MethodName × List ℕ). IsName is_method_name e.1) (method_lines ms)
own_methods [] told = tt
own_methods (m ∷ ms) told =
    let own = told.0 in let l = own.0 in ((method_new m own.1, l.new), own_methods ms told.1)

-- the lines of the members of a class
members_of : (c : MapClass) → AllByRecursion IsTextLine (class_lines c)
    → AllByRecursion IsTextField c.fields × AllByRecursion IsTextMethod c.methods
unfolding line_text
members_of c told = of_both IsTextLine _ _ c.fields c.methods told.1

fields_told : (lines : List MapClass) → AreTold lines
    → AllByRecursion (λ (e : List ℕ × List ℕ). IsName is_member_name e.1) (all_field_names lines)
fields_told [] told = tt
fields_told (c ∷ lines) told =
    all_append (λ (e : List ℕ × List ℕ). IsName is_member_name e.1) (field_names c.fields) (all_field_names lines)
    (own_fields c.fields (members_of c told.0).0) (fields_told lines told.1)

methods_told : (lines : List MapClass) → AreTold lines
    → AllByRecursion (λ (e : MethodName × List ℕ). IsName is_method_name e.1) (all_method_names lines)
methods_told [] told = tt
methods_told (c ∷ lines) told =
    all_append (λ (e : MethodName × List ℕ). IsName is_method_name e.1) (method_lines c.methods)
    (all_method_names lines) (own_methods c.methods (members_of c told.0).1) (methods_told lines told.1)

-- the tables of an earlier mapping that has a text, or of none
pub tables_tell : (old : Option Mapping) → IfSome old IsMapping → TellNames (tables_of old)
tables_tell None has = record { classes = tt; fields = tt; methods = tt }
tables_tell (Some mapping) has = record {
  classes = classes_told mapping.classes has.named;
  fields = fields_told mapping.classes has.named;
  methods = methods_told mapping.classes has.named;
}

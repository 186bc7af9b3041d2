-- What the clause MapShape gives: each line of a class names one of the input and one of the output, both once, each
-- line of a member names one of its class, and names of fields, and of methods of one descriptor, are one to one.
use Rattle.std.proofs.Common.{◌≡◌, ℕ, ◌||◌, not, Bool, true, false, cond, List, [], ◌∷◌, ◌++◌, map, Option, Some}
use Rattle.std.proofs.Common.{None, refl}
use Rattle.std.proofs.Common.{sym, ap, subst, ◌∙◌}
use Rattle.std.specs.List.{AllByRecursion, flat_map, list_any}
use Rattle.std.specs.Map.{lookup}
use Rattle.std.specs.Option.{option_or}
use Rattle.std.proofs.lemmas.List.{map-append, append-nil}
use Rattle.std.proofs.lemmas.Bool.{not-false, or_parts}
use Rattle.jv_base.specs.Names.{is_text}
use Rattle.jv_base.proofs.Lists.{all_append}
use Rattle.jv_base.proofs.Equality.{text_itself}
use Rattle.class_model.specs.declared.class.Class.{Class}
use Rattle.mapping_file.specs.declared.mapping.MapClass.{MapClass}
use Rattle.mapping_file.specs.declared.mapping.MapField.{MapField}
use Rattle.mapping_file.specs.declared.mapping.MapMethod.{MapMethod}
use Rattle.mapping_file.specs.declared.mapping.Mapping.{Mapping}
use Rattle.new_names.specs.NewNames.{NameAndType, all_field_names, class_lines, field_names, is_same}
use Rattle.pair_clauses.specs.Finding.{first_place}
use Rattle.pair_clauses.specs.Places.{class_place, field_place, method_place, place_if}
use Rattle.pair_clauses.specs.Shape.{clashes, field_fault, field_named, fields_fault, has_class, has_member}
use Rattle.pair_clauses.specs.Shape.{is_field_wrong, is_line_at_fault, is_method_wrong, is_stray, line_fault}
use Rattle.pair_clauses.specs.Shape.{lines_fault}
use Rattle.pair_clauses.specs.Shape.{method_fault, method_named, method_pairs, method_renamed, methods_fault, shape_fault}
use Rattle.pair_clauses.specs.Shape.{unlined_fault}
use Rattle.pair_clauses.specs.declared.place.Place.{Place}
use Rattle.pair_laws.proofs.PairSame.Tables.{AreOne, IsTest, all_method_pairs, lookup_append, named_test, one_more}
use Rattle.pair_laws.proofs.PairSame.Tables.{text_test}

-- ---- faults that aren't there

pub first_none : (a b : Option Place) → option_or a b ≡ None → (a ≡ None) × (b ≡ None)
first_none None b h = (refl, h)
first_none (Some p) b h = absurd cc

pub no_place : (b : Bool) (p : Place) → place_if b p ≡ None → b ≡ false
no_place true p h = absurd cc
no_place false p h = refl

append_one : {X : Type 0} (xs ys : List X) (x : X) → (xs ++ x ∷ []) ++ ys ≡ xs ++ x ∷ ys
append_one [] ys x = refl
append_one {X} (y ∷ xs) ys x = ap (λ (t : List X). y ∷ t) (append_one xs ys x)

append_assoc : {X : Type 0} (xs ys zs : List X) → (xs ++ ys) ++ zs ≡ xs ++ (ys ++ zs)
append_assoc [] ys zs = refl
append_assoc {X} (x ∷ xs) ys zs = ap (λ (t : List X). x ∷ t) (append_assoc xs ys zs)

flat_more : {X Y : Type 0} (g : X → List Y) (xs : List X) (x : X) → flat_map g (xs ++ x ∷ []) ≡ flat_map g xs ++ g x
flat_more g [] x = append-nil (g x)
flat_more {X} {Y} g (y ∷ xs) x = ap (λ (t : List Y). g y ++ t) (flat_more g xs x)
    ∙ sym (append_assoc (g y) (flat_map g xs) (g x))

-- ---- lines of members

-- behind names that are one to one, lines without a fault are so too
module _ {L K : Type 0} (same : K → K → Bool) (test : IsTest same) (name : L → K × K) where
  names_more : (before : List (K × K)) (own : List L) (l : L)
      → before ++ map name (own ++ l ∷ []) ≡ (before ++ map name own) ++ name l ∷ []
  names_more before own l =
      ap (λ (t : List (K × K)). before ++ t) (map-append name own (l ∷ []))
      ∙ sym (append_assoc before (map name own) (name l ∷ []))

  module _ (wrong : List L → L → Bool) (fault : List L → List L → Option Place)
      (step : (own : List L) (l : L) (ls : List L) → fault own (l ∷ ls) ≡ None
      → (wrong own l ≡ false) × (fault (own ++ l ∷ []) ls ≡ None)) where
    module _ (before : List (K × K)) (apart : (own : List L) (l : L) → wrong own l ≡ false
        → clashes same (before ++ map name own) (name l).0 (name l).1 ≡ false) where
      names_one : (own ls : List L) → fault own ls ≡ None → AreOne same (before ++ map name own)
          → AreOne same (before ++ map name (own ++ ls))
      names_one own [] h one = subst (λ (t : List L). AreOne same (before ++ map name t)) (sym (append-nil own)) one
      names_one own (l ∷ ls) h one =
          let s = step own l ls h in
          subst (λ (t : List L). AreOne same (before ++ map name t)) (append_one own ls l)
          (names_one (own ++ l ∷ []) ls s.1
          (subst (AreOne same) (sym (names_more before own l))
          (one_more same test (before ++ map name own) (name l).0 (name l).1 one (apart own l s.0))))

    each_there : (P : L → Type 0) → ((own : List L) (l : L) → wrong own l ≡ false → P l) → (own ls : List L)
        → fault own ls ≡ None → AllByRecursion P ls
    each_there P from own [] h = tt
    each_there P from own (l ∷ ls) h =
        let s = step own l ls h in (from own l s.0, each_there P from (own ++ l ∷ []) ls s.1)

there_of : (a b c : Bool) → ((not a || b) || c) ≡ false → a ≡ true
there_of a b c h = not-false a (or_parts (not a) b (or_parts (not a || b) c h).0).0

module _ (input : List Class) (class : List ℕ) (before : List (List ℕ × List ℕ)) where
  abbrev field_wrong : List MapField → MapField → Bool
  field_wrong own l = is_field_wrong input class before own l

  field_step : (own : List MapField) (l : MapField) (ls : List MapField)
      → fields_fault input class before own (l ∷ ls) ≡ None
      → (field_wrong own l ≡ false) × (fields_fault input class before (own ++ l ∷ []) ls ≡ None)
  field_step own l ls h =
      let s = first_none (field_fault input class before own l) (fields_fault input class before
      (own ++ l ∷ []) ls) h in
      (no_place (field_wrong own l) (field_place class l.ty l.old) s.0, s.1)

  abbrev field_name : MapField → List ℕ × List ℕ
  field_name l = (l.old, l.new)

  fields_there : (ls : List MapField) → fields_fault input class before [] ls ≡ None
      → AllByRecursion (λ (l : MapField). has_member input class (field_named l) ≡ true) ls
  fields_there ls h = each_there is_text text_test field_name field_wrong
      (fields_fault input class before) field_step
      (λ (l : MapField). has_member input class (field_named l) ≡ true)
      (λ own l k. there_of (has_member input class (field_named l))
      (list_any (λ key. is_same key (field_named l)) (map field_named own))
      (clashes is_text (before ++ field_names own) l.old l.new) k) [] ls h

  fields_one : (ls : List MapField) → fields_fault input class before [] ls ≡ None → AreOne is_text before
      → AreOne is_text (before ++ field_names ls)
  fields_one ls h one = names_one is_text text_test field_name field_wrong
      (fields_fault input class before) field_step before
      (λ own l k. (or_parts (is_stray input class (map field_named own) (field_named l))
      (clashes is_text (before ++ field_names own) l.old l.new) k).1) [] ls h
      (subst (AreOne is_text) (sym (append-nil before)) one)

module _ (input : List Class) (class : List ℕ) (before : List (NameAndType × NameAndType)) where
  abbrev method_wrong : List MapMethod → MapMethod → Bool
  method_wrong own l = is_method_wrong input class before own l

  method_step : (own : List MapMethod) (l : MapMethod) (ls : List MapMethod)
      → methods_fault input class before own (l ∷ ls) ≡ None
      → (method_wrong own l ≡ false) × (methods_fault input class before (own ++ l ∷ []) ls ≡ None)
  method_step own l ls h =
      let s = first_none (method_fault input class before own l)
      (methods_fault input class before (own ++ l ∷ []) ls) h in
      (no_place (method_wrong own l) (method_place class l.ty l.old) s.0, s.1)

  abbrev method_pair : MapMethod → NameAndType × NameAndType
  method_pair l = (method_named l, method_renamed l)

  methods_there : (ls : List MapMethod) → methods_fault input class before [] ls ≡ None
      → AllByRecursion (λ (l : MapMethod). has_member input class (method_named l) ≡ true) ls
  methods_there ls h = each_there is_same named_test method_pair method_wrong
      (methods_fault input class before) method_step
      (λ (l : MapMethod). has_member input class (method_named l) ≡ true)
      (λ own l k. there_of (has_member input class (method_named l))
      (list_any (λ key. is_same key (method_named l)) (map method_named own))
      (clashes is_same (before ++ method_pairs own) (method_named l) (method_renamed l)) k) [] ls h

  methods_one : (ls : List MapMethod) → methods_fault input class before [] ls ≡ None → AreOne is_same before
      → AreOne is_same (before ++ method_pairs ls)
  methods_one ls h one = names_one is_same named_test method_pair method_wrong
      (methods_fault input class before) method_step before
      (λ own l k. (or_parts (is_stray input class (map method_named own) (method_named l))
      (clashes is_same (before ++ method_pairs own) (method_named l) (method_renamed l)) k).1) [] ls h
      (subst (AreOne is_same) (sym (append-nil before)) one)

-- ---- lines of classes

-- lines by their old, and by their new names
abbrev pub by_old_line : List MapClass → List ℕ → Option MapClass
by_old_line lines name = lookup (λ old. is_text old name) (class_lines lines)

abbrev pub new_lines : List MapClass → List (List ℕ × MapClass)
new_lines lines = map (λ l. (l.new, l)) lines

abbrev pub by_new_line : List MapClass → List ℕ → Option MapClass
by_new_line lines name = lookup (λ new. is_text new name) (new_lines lines)

none_by : (key : MapClass → List ℕ) (name : List ℕ) (ls : List MapClass)
    → list_any (λ (b : MapClass). is_text (key b) name) ls ≡ false
    → lookup (λ k. is_text k name) (map (λ l. (key l, l)) ls) ≡ None
none_by key name [] h = refl
none_by key name (l ∷ ls) h =
    let s = or_parts (is_text (key l) name) (list_any (λ (b : MapClass). is_text (key b) name) ls) h in
    ap (λ (b : Bool). cond b (Some l) (lookup (λ k. is_text k name) (map (λ l. (key l, l)) ls))) s.0
    ∙ none_by key name ls s.1

module _ (input output : List Class) where
  -- a line is the one of its old name, and of its new name, and names what is there
  pub record IsLine (lines : List MapClass) (l : MapClass) : Type 0 where
    pub old : by_old_line lines l.old ≡ Some l
    pub new : by_new_line lines l.new ≡ Some l
    pub in_input : has_class input l.old ≡ true
    pub in_output : has_class output l.new ≡ true
    pub fields : AllByRecursion (λ (f : MapField). has_member input l.old (field_named f) ≡ true) l.fields
    pub methods : AllByRecursion (λ (m : MapMethod). has_member input l.old (method_named m) ≡ true) l.methods

  line_still : (xs ys : List MapClass) (l : MapClass) → IsLine xs l → IsLine (xs ++ ys) l
  line_still xs ys l h = record {
    old = ap (lookup (λ old. is_text old l.old)) (map-append (λ (l : MapClass). (l.old, l)) xs ys)
        ∙ lookup_append (λ old. is_text old l.old) (class_lines xs) (class_lines ys)
        ∙ ap (λ o. option_or o (by_old_line ys l.old)) h.old;
    new = ap (lookup (λ new. is_text new l.new)) (map-append (λ (l : MapClass). (l.new, l)) xs ys)
        ∙ lookup_append (λ new. is_text new l.new) (new_lines xs) (new_lines ys)
        ∙ ap (λ o. option_or o (by_new_line ys l.new)) h.new;
    in_input = h.in_input;
    in_output = h.in_output;
    fields = h.fields;
    methods = h.methods;
  }

  lines_still : (xs ys zs : List MapClass) → AllByRecursion (IsLine xs) zs → AllByRecursion (IsLine (xs ++ ys)) zs
  lines_still xs ys [] all = tt
  lines_still xs ys (z ∷ zs) all = (line_still xs ys z all.0, lines_still xs ys zs all.1)

  -- what holds of lines without a fault
  pub record AreLines (lines : List MapClass) : Type 0 where
    pub each : AllByRecursion (IsLine lines) lines
    pub fields : AreOne is_text (all_field_names lines)
    pub methods : AreOne is_same (all_method_pairs lines)

  abbrev fields_before : List MapClass → List (List ℕ × List ℕ)
  fields_before before = flat_map (λ (b : MapClass). field_names b.fields) before

  abbrev methods_before : List MapClass → List (NameAndType × NameAndType)
  methods_before before = flat_map (λ (b : MapClass). method_pairs b.methods) before

  line_more : (before : List MapClass) (l : MapClass) → AreLines before → line_fault input output before l ≡ None
      → AreLines (before ++ l ∷ [])
  line_more before l all h =
      let s = first_none (place_if (is_line_at_fault input output before l) (class_place l.old))
      (option_or (fields_fault input l.old (fields_before before) [] l.fields)
      (methods_fault input l.old (methods_before before) [] l.methods)) h in
      let t = first_none (fields_fault input l.old (fields_before before) [] l.fields)
      (methods_fault input l.old (methods_before before) [] l.methods) s.1 in
      let right = no_place (is_line_at_fault input output before l) (class_place l.old) s.0 in
      let halves = or_parts (not (has_class input l.old) || list_any (λ (b : MapClass). is_text b.old l.old) before)
      (not (has_class output l.new) || list_any (λ (b : MapClass). is_text b.new l.new) before) right in
      let olds = or_parts (not (has_class input l.old)) (list_any (λ (b : MapClass). is_text b.old l.old) before)
      halves.0 in
      let news = or_parts (not (has_class output l.new)) (list_any (λ (b : MapClass). is_text b.new l.new) before)
      halves.1 in
      let own : IsLine (before ++ l ∷ []) l = record {
        old = ap (lookup (λ old. is_text old l.old)) (map-append (λ (l : MapClass). (l.old, l)) before (l ∷ []))
            ∙ lookup_append (λ old. is_text old l.old) (class_lines before) (class_lines (l ∷ []))
            ∙ ap (λ o. option_or o (by_old_line (l ∷ []) l.old))
            (none_by (λ (l : MapClass). l.old) l.old before olds.1)
            ∙ ap (λ (b : Bool). cond b (Some l) None) (text_itself l.old);
        new = ap (lookup (λ new. is_text new l.new)) (map-append (λ (l : MapClass). (l.new, l)) before (l ∷ []))
            ∙ lookup_append (λ new. is_text new l.new) (new_lines before) (new_lines (l ∷ []))
            ∙ ap (λ o. option_or o (by_new_line (l ∷ []) l.new))
            (none_by (λ (l : MapClass). l.new) l.new before news.1)
            ∙ ap (λ (b : Bool). cond b (Some l) None) (text_itself l.new);
        in_input = not-false (has_class input l.old) olds.0;
        in_output = not-false (has_class output l.new) news.0;
        fields = fields_there input l.old (fields_before before) l.fields t.0;
        methods = methods_there input l.old (methods_before before) l.methods t.1;
      } in
      record {
        each = all_append (IsLine (before ++ l ∷ [])) before (l ∷ [])
            (lines_still before (l ∷ []) before all.each) (own, tt);
        fields = subst (AreOne is_text) (sym (flat_more (λ (b : MapClass). field_names b.fields) before l))
            (fields_one input l.old (fields_before before) l.fields t.0 all.fields);
        methods = subst (AreOne is_same) (sym (flat_more (λ (b : MapClass). method_pairs b.methods) before l))
            (methods_one input l.old (methods_before before) l.methods t.1 all.methods);
      }

  lines_from : (before ls : List MapClass) → AreLines before → lines_fault input output before ls ≡ None
      → AreLines (before ++ ls)
  lines_from before [] all h = subst AreLines (sym (append-nil before)) all
  lines_from before (l ∷ ls) all h =
      let s = first_none (line_fault input output before l) (lines_fault input output (before ++ l ∷ []) ls) h in
      subst AreLines (append_one before ls l)
      (lines_from (before ++ l ∷ []) ls (line_more before l all s.0) s.1)

  pub lines_right : (mapping : Mapping) → None ≡ shape_fault input output mapping → AreLines mapping.classes
  lines_right mapping h =
      let s = first_none (lines_fault input output [] mapping.classes)
      (first_place (unlined_fault mapping.classes) output) (sym h) in
      lines_from [] mapping.classes (record { each = tt; fields = tt; methods = tt }) s.0

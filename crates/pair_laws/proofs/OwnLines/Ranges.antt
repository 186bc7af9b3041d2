-- The lines of what is written lie in the ranges that the mapping tells, so LineRange finds no place.
use Rattle.std.proofs.Common.{◌≡◌, ℕ, ◌+◌, ◌≤◌, nat_lt, ◌||◌, Bool, true, false, cond, List, [], ◌∷◌, length, map, Option}
use Rattle.std.proofs.Common.{Some, None, slice_get, refl, sym, ap, subst, ◌∙◌, arith}
use Rattle.std.proofs.Math.Nat.{le-max_left, le-max_right, min-le_left, min-le_right}
use Rattle.std.proofs.lemmas.Bool.{ltb-true}
use Rattle.std.proofs.lemmas.Option.{same_Some}
use Rattle.std.specs.List.{cons_option, filter_map, fold, list_any, zip}
use Rattle.std.specs.Option.{option_and_then, option_map}
use Rattle.jv_base.specs.Types.{method_text}
use Rattle.mark_core.specs.Marks.{Closed, set_of}
use Rattle.class_model.specs.declared.class.Class.{Class}
use Rattle.class_model.specs.declared.class.Method.{Method}
use Rattle.class_model.specs.declared.code.Code.{Code}
use Rattle.class_model.specs.declared.code.Ins.{Ins}
use Rattle.class_pool.specs.Items.{class_item}
use Rattle.keep_rules.specs.declared.rules.Rules.{Rules}
use Rattle.attribute_filter.specs.Filtered.{code_kept, method_filtered, without_lines}
use Rattle.attribute_filter.specs.KeptAttributes.{filter_of}
use Rattle.member_shrink.specs.Shrunk.{is_marked}
use Rattle.rule_system.specs.Required.{required}
use Rattle.image_laws.specs.TakenSet.TakenSet.{IsTaken}
use Rattle.mapping_file.specs.declared.mapping.MapClass.{MapClass}
use Rattle.mapping_file.specs.declared.mapping.Mapping.{Mapping}
use Rattle.mapping_file.specs.declared.mapping.Range.{Range}
use Rattle.class_rename.specs.Names.{Names}
use Rattle.class_rename.specs.Renamed.{renamed_code, renamed_ins, renamed_method}
use Rattle.rename_map.specs.MappingOf as made
use Rattle.rename_map.specs.MappingOf.{lines_of, range_of, widened}
use Rattle.set_shrink.specs.ShrunkSet.{left_of, new_names}
use Rattle.new_names.specs.NewNames.{class_line, names_given, names_of, new_method, range_in}
use Rattle.new_names.specs.declared.class_names.ClassNames.{ClassNames}
use Rattle.pair_clauses.specs.Finding.{first_place}
use Rattle.pair_clauses.specs.LineRanges.{class_range_fault, is_outside, leaves_range, range_fault, range_fault_of}
use Rattle.pair_clauses.specs.Members.{expected_methods, new_one}
use Rattle.pair_clauses.specs.Places.{place_of_method}
use Rattle.pair_clauses.specs.declared.place.Place.{Place}
use Rattle.pair_clauses.proofs.Zipped.{unplaced}
use Rattle.pair_checker.specs.Clauses.{given_names}
use Rattle.pair_laws.specs.OwnLines.Laws.{IsToldByMarks}
use Rattle.pair_laws.specs.OwnNames.Laws.{own_mapping}
use Rattle.pair_laws.proofs.OwnLines.Members as written
use Rattle.pair_laws.proofs.OwnLines.Picked.{no_first, none_at_fault}
use Rattle.pair_laws.proofs.OwnLines.Told.{line, line_told, range_told}

-- ---- from the least to the greatest line

-- a line lies in a range
abbrev Holds : Range → ℕ → Type 0
Holds r n = (r.first ≤ n) × (n ≤ r.last)

not_above : (a b : ℕ) → a ≤ b → nat_lt b a ≡ false
not_above a b low = by (nat_lt b a) refl
  where
    by : (t : Bool) → nat_lt b a ≡ t → t ≡ false
    by true e = absurd (omega (arith, low, ltb-true b a e))
    by false e = refl

inside : (r : Range) (n : ℕ) → Holds r n → is_outside r n ≡ false
inside r n h = λ i. not_above r.first n h.0 i || not_above n r.last h.1 i

-- one line more keeps those that are in, and is in itself
wider : (r : Range) (line n : ℕ) → Holds r n → Holds (widened r line) n
wider r line n h =
    let low = min-le_left r.first line in
    let high = le-max_left r.last line in
    (omega (arith, h.0, low), omega (arith, h.1, high))

itself : (r : Range) (line : ℕ) → Holds (widened r line) line
itself r line = (min-le_right r.first line, le-max_right r.last line)

all_wider : (r : Range) (lines : List ℕ) (n : ℕ) → Holds r n → Holds (fold widened r lines) n
all_wider r [] n h = h
all_wider r (line ∷ lines) n h = all_wider (widened r line) lines n (wider r line n h)

none_outside : (r : Range) (lines : List ℕ) → list_any (is_outside (fold widened r lines)) lines ≡ false
none_outside r [] = refl
none_outside r (line ∷ lines) =
    (λ i. inside (fold widened (widened r line) lines) line
    (all_wider (widened r line) lines line (itself r line)) i
    || none_outside (widened r line) lines i)

-- lines lie in their own range
own_range : (lines : List ℕ) (r : Range) → range_of lines ≡ Some r → list_any (is_outside r) lines ≡ false
own_range [] r is = refl
own_range (line ∷ lines) r is =
    let start : Range = record { first = line; last = line } in
    let same = same_Some (fold widened start lines) r is in
    subst (λ (t : Range). list_any (is_outside t) (line ∷ lines) ≡ false) same
    (λ i. inside (fold widened start lines) line (all_wider start lines line (omega arith, omega arith)) i
    || none_outside start lines i)

-- ---- one method

-- new names change no line
lines_stay : (names : Names) (ins : List Ins)
    → filter_map (λ (i : Ins). i.line) (map (renamed_ins names) ins) ≡ filter_map (λ (i : Ins). i.line) ins
lines_stay names [] = refl
lines_stay names (i ∷ is) = ap (λ (t : List ℕ). cons_option i.line t) (lines_stay names is)

own_lines_in : (names : Names) (code : Code) (range : Option Range) → range ≡ range_of (lines_of code)
    → leaves_range range (Some (renamed_code names code)) ≡ false
own_lines_in names code None is = refl
own_lines_in names code (Some r) is =
    ap (list_any (is_outside r)) (lines_stay names code.ins) ∙ own_range (lines_of code) r (sym is)

none_leaves : (range : Option Range) → leaves_range range None ≡ false
none_leaves None = refl
none_leaves (Some r) = refl

stays_in : (names : Names) (kept : Bool) (code : Option Code)
    → leaves_range (cond kept (option_and_then (λ c. range_of (lines_of c)) code) None)
    (cond kept (option_map (renamed_code names) code)
    (option_map without_lines (option_map (renamed_code names) code))) ≡ false
stays_in names true None = refl
stays_in names true (Some code) = own_lines_in names code (range_of (lines_of code)) refl
stays_in names false None = refl
stays_in names false (Some code) = refl

-- ---- all classes

module _ (classes : List Class) (marks : List Bool) (rules : Rules) (old : Option Mapping) (taken : IsTaken classes)
    (closed : Closed (required classes rules) (set_of marks))
    (told : IsToldByMarks (new_names classes marks rules old) classes marks (own_mapping classes marks rules old)) where
  abbrev names : Names
  names = new_names classes marks rules old

  abbrev lines : Bool
  lines = (filter_of rules).line_numbers

  abbrev mapping : Mapping
  mapping = own_mapping classes marks rules old

  module _ (names_are : names_of mapping ≡ names) (n : ℕ) (c : Class) (at : slice_get classes n ≡ Some c) where
    abbrev own_line : MapClass
    own_line = line names lines classes marks taken n c

    abbrev given : ClassNames
    given = names_given mapping c

    abbrev first_method : ℕ
    first_method = class_item classes n + 1 + length c.fields

    one_in : (k : ℕ) (x : Method) → slice_get c.methods k ≡ Some x → is_marked marks (first_method + k) ≡ true
        → range_fault_of own_line c
        ((x, names.method x.name (method_text x.ty)), method_filtered (filter_of rules) (renamed_method names x)) ≡ None
    one_in k x there kept =
        unplaced (leaves_range (range_in own_line x) (method_filtered (filter_of rules) (renamed_method names x)).code)
        (place_of_method c x)
        (ap (λ (r : Option Range). leaves_range r (code_kept (filter_of rules) (option_map (renamed_code names) x.code)))
        (range_told names lines classes marks taken n c at k x there kept)
        ∙ stays_in names lines x.code)

    all_in : first_place (range_fault_of own_line c)
        (zip (expected_methods c given) (written.out classes marks rules old taken closed mapping told names_are n c at).methods)
        ≡ None
    all_in = subst (λ (ys : List Method). first_place (range_fault_of own_line c) (zip (expected_methods c given) ys) ≡ None)
        (written.methods_become classes marks rules old taken closed mapping told names_are n c at)
        (none_at_fault (is_marked marks) (new_method mapping c) (λ (x : Method). names.method x.name (method_text x.ty))
        (renamed_method names) (method_filtered (filter_of rules)) (range_fault_of own_line c) first_method c.methods
        (written.methods_given classes marks rules old taken closed mapping told names_are n c at) one_in)

    class_in : class_range_fault (class_line mapping c.name) c given (new_one (left_of classes marks rules old) given)
        ≡ None
    class_in = by (is_marked marks (class_item classes n)) refl
      where
        by : (b : Bool) → is_marked marks (class_item classes n) ≡ b
            → class_range_fault (class_line mapping c.name) c given (new_one (left_of classes marks rules old) given)
            ≡ None
        by true h =
            (λ i. class_range_fault
            ((line_told names lines classes marks taken n c at ∙ ap (λ (b : Bool). cond b (Some own_line) None) h) i) c given
            (written.new_marked classes marks rules old taken closed mapping told names_are n c at h i))
            ∙ all_in
        by false h =
            (λ i. class_range_fault
            ((line_told names lines classes marks taken n c at ∙ ap (λ (b : Bool). cond b (Some own_line) None) h) i) c given
            (written.new_unmarked classes marks rules old taken closed mapping told names_are n c at h i))

  pub no_range_left : names_of mapping ≡ names
      → None ≡ range_fault mapping classes (given_names mapping classes) (left_of classes marks rules old)
  no_range_left names_are = no_first
      (λ (p : Class × ClassNames). class_range_fault (class_line mapping p.0.name) p.0 p.1
      (new_one (left_of classes marks rules old) p.1))
      (names_given mapping) classes (class_in names_are)

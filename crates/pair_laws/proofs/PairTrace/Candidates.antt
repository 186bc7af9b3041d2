-- The old names that a method with a new name may have had: the name of each method that fits is among them.
use Rattle.std.proofs.Common.{◌≡◌, ℕ, zero, suc, ◌+◌, ◌-◌, ◌*◌, ◌<◌, ◌≤◌, nat_le, nat_lt, ◌==◌, Bool, true, false, cond}
use Rattle.std.proofs.Common.{◌&&◌, ◌||◌, List, [], ◌∷◌, ◌++◌, length, map, drop, Option, Some, None, slice_get, refl}
use Rattle.std.proofs.Common.{sym, ap, subst, ◌∙◌, arith, inl, inr}
use Rattle.std.specs.Prelude.{min}
use Rattle.std.specs.Fmt.{decimal}
use Rattle.std.specs.List.{AllByRecursion, Contains, filter, fold, list_any}
use Rattle.std.specs.Map.{lookup}
use Rattle.std.specs.Option.{option_map}
use Rattle.std.specs.Char.{digit_value}
use Rattle.std.specs.Str.Parse.{AllDigits, digits_value_after}
use Rattle.std.proofs.Math.Nat.{min-eq_right}
use Rattle.std.proofs.lemmas.Bool.{and_from, le-leb, ltb-false, ne_eqb, or_parts}
use Rattle.std.proofs.lemmas.Str.{digit_value_digit}
use Rattle.std.proofs.lemmas.Str.Parse.{digit_from_value}
use Rattle.std.proofs.lemmas.Fmt.{decimal_is_IsNumeral}
use Rattle.std.proofs.lemmas.Option.{get_or_from_slice_get, same_Some, slice_get-get_or, slice_get-map, slice_get_within}
use Rattle.indexmap.specs.IndexSet.{insert_key}
use Rattle.jv_base.specs.Names.{is_text}
use Rattle.jv_base.proofs.Equality.{same_text, text_itself}
use Rattle.class_model.specs.declared.code.Code.{Code}
use Rattle.text_lines.specs.Numbers.{are_digits}
use Rattle.text_lines.proofs.Numerals.{decimal_digits}
use Rattle.mapping_file.specs.declared.mapping.MapMethod.{MapMethod}
use Rattle.mapping_file.specs.declared.mapping.Range.{Range}
use Rattle.new_names.specs.NewNames.{NameAndType, is_same, method_lines, range_lines}
use Rattle.pair_clauses.specs.LineRanges.{is_outside, leaves_range}
use Rattle.pair_clauses.specs.Shape.{method_named}
use Rattle.rename_map.specs.MappingOf.{lines_of}
use Rattle.retrace_core.specs.Frames.{line_of}
use Rattle.retrace_core.specs.OldNames.{candidates, fitting, may_have, old_names, once, or_these}
use Rattle.pair_laws.specs.PairTrace.FrameLines.{IsLineNumber, IsNumber}
use Rattle.pair_laws.proofs.PairSame.Tables.{named_test}

-- ---- lists

-- an element stands somewhere
abbrev pub Stands : {X : Type 0} → List X → X → Type 0
Stands xs x = (k : ℕ) × (slice_get xs k ≡ Some x)

pub contained : {X : Type 0} (xs : List X) (x : X) → Stands xs x → Contains xs x
contained xs x h = (h.0, slice_get_within xs h.0 x h.1, get_or_from_slice_get xs h.0 x x h.1)

pub stands_mapped : {X Y : Type 0} (g : X → Y) (xs : List X) (x : X) → Stands xs x → Stands (map g xs) (g x)
stands_mapped g xs x h = (h.0, slice_get-map g xs h.0 ∙ ap (option_map g) h.1)

-- one that passes is left
stands_filtered : {X : Type 0} (q : X → Bool) (xs : List X) (k : ℕ) (x : X) → slice_get xs k ≡ Some x → q x ≡ true
    → Stands (filter q xs) x
stands_filtered q [] k x at passes = absurd cc
stands_filtered {X} q (y ∷ xs) zero x at passes =
    let same = same_Some y x at in
    subst (λ (t : Bool). Stands (cond t (y ∷ filter q xs) (filter q xs)) x) (sym (ap q same ∙ passes))
    (0, ap (λ (z : X). Some z) same)
stands_filtered {X} q (y ∷ xs) (suc k) x at passes = by (q y) (stands_filtered q xs k x at passes)
  where
    by : (b : Bool) → Stands (filter q xs) x → Stands (cond b (y ∷ filter q xs) (filter q xs)) x
    by true h = (suc h.0, h.1)
    by false h = h

-- what isn't empty is taken
these : {X : Type 0} (xs others : List X) (x : X) → Stands xs x → or_these xs others ≡ xs
these [] others x h = absurd (let w = h.1 in cc)
these (y ∷ xs) others x h = refl

-- ---- each name once

kept_by_one : (names : List (List ℕ)) (new x : List ℕ) → Stands names x → Stands (insert_key is_text names new) x
kept_by_one names new x h = by (list_any (is_text new) names)
  where
    more : (xs : List (List ℕ)) (k : ℕ) → slice_get xs k ≡ Some x → slice_get (xs ++ new ∷ []) k ≡ Some x
    more [] k at = absurd cc
    more (y ∷ xs) zero at = at
    more (y ∷ xs) (suc k) at = more xs k at

    by : (b : Bool) → Stands (cond b names (names ++ new ∷ [])) x
    by true = h
    by false = (h.0, more names h.0 h.1)

there_already : (names : List (List ℕ)) (x : List ℕ) → list_any (is_text x) names ≡ true → Stands names x
there_already [] x h = absurd cc
there_already (y ∷ names) x h = by (is_text x y) refl h (there_already names x)
  where
    by : (b : Bool) → is_text x y ≡ b → (b || list_any (is_text x) names) ≡ true
        → (list_any (is_text x) names ≡ true → Stands names x) → Stands (y ∷ names) x
    by true e h rest = (0, ap (λ (t : List ℕ). Some t) (sym (same_text x y e)))
    by false e h rest = let r = rest h in (suc r.0, r.1)

at_end : (names : List (List ℕ)) (x : List ℕ) → Stands (names ++ x ∷ []) x
at_end [] x = (0, refl)
at_end (y ∷ names) x = let r = at_end names x in (suc r.0, r.1)

put_in : (names : List (List ℕ)) (x : List ℕ) → Stands (insert_key is_text names x) x
put_in names x = by (list_any (is_text x) names) refl
  where
    by : (b : Bool) → list_any (is_text x) names ≡ b → Stands (cond b names (names ++ x ∷ [])) x
    by true e = there_already names x e
    by false e = at_end names x

kept_by_all : (names news : List (List ℕ)) (x : List ℕ) → Stands names x
    → Stands (fold (insert_key is_text) names news) x
kept_by_all names [] x h = h
kept_by_all names (new ∷ news) x h =
    kept_by_all (insert_key is_text names new) news x (kept_by_one names new x h)

stands_once : (names news : List (List ℕ)) (k : ℕ) (x : List ℕ) → slice_get news k ≡ Some x
    → Stands (fold (insert_key is_text) names news) x
stands_once names [] k x at = absurd cc
stands_once names (new ∷ news) zero x at =
    let same = same_Some new x at in
    kept_by_all (insert_key is_text names new) news x
    (subst (λ (t : List ℕ). Stands (insert_key is_text names new) t) same (put_in names new))
stands_once names (new ∷ news) (suc k) x at = stands_once (insert_key is_text names new) news k x at

-- names that are all one
still_one : (name : List ℕ) (news : List (List ℕ)) → AllByRecursion (λ (a : List ℕ). a ≡ name) news
    → fold (insert_key is_text) (name ∷ []) news ≡ name ∷ []
still_one name [] all = refl
still_one name (new ∷ news) all =
    ap (λ (b : Bool). fold (insert_key is_text) (cond b (name ∷ []) ((name ∷ []) ++ new ∷ [])) news)
    (ap (λ (t : List ℕ). is_text t name || false) all.0 ∙ ap (λ (b : Bool). b || false) (text_itself name))
    ∙ still_one name news all.1

all_one : (name : List ℕ) (news : List (List ℕ)) → AllByRecursion (λ (a : List ℕ). a ≡ name) news
    → Stands news name → once news ≡ name ∷ []
all_one name [] all h = absurd (let w = h.1 in cc)
all_one name (new ∷ news) all h =
    ap (λ (t : List ℕ). fold (insert_key is_text) (t ∷ []) news) all.0 ∙ still_one name news all.1

-- ---- the line of a method

-- the line by which a method is found
pub record Line (ms : List MapMethod) (k : NameAndType) (new : List ℕ) : Type 0 where
  pub line : MapMethod
  pub there : Stands ms line
  pub named : method_named line ≡ k
  pub new_is : line.new ≡ new
  pub range : lookup (λ key. is_same key k) (range_lines ms) ≡ Some line.lines

pub line_found : (ms : List MapMethod) (k : NameAndType) (new : List ℕ)
    → lookup (λ key. is_same key k) (method_lines ms) ≡ Some new → Line ms k new
line_found [] k new is = absurd cc
line_found (m ∷ ms) k new is = by (is_same (method_named m) k) refl is (line_found ms k new)
  where
    by : (b : Bool) → is_same (method_named m) k ≡ b
        → cond b (Some m.new) (lookup (λ key. is_same key k) (method_lines ms)) ≡ Some new
        → (lookup (λ key. is_same key k) (method_lines ms) ≡ Some new → Line ms k new) → Line (m ∷ ms) k new
    by true e found rest = record {
      line = m;
      there = (0, refl);
      named = named_test.one (method_named m) k e;
      new_is = same_Some m.new new found;
      range = ap (λ (b : Bool). cond b (Some m.lines) (lookup (λ key. is_same key k) (range_lines ms))) e;
    }
    by false e found rest =
        let r = rest found in
        record {
          line = r.line;
          there = (suc r.there.0, r.there.1);
          named = r.named;
          new_is = r.new_is;
          range = ap (λ (b : Bool). cond b (Some m.lines) (lookup (λ key. is_same key k) (range_lines ms))) e ∙ r.range;
        }

-- ---- lines that fit

-- a range may have the line, if one is told
abbrev pub Fits : Option ℕ → Option Range → Type 0
Fits None range = Unit {0}
Fits (Some line) range = may_have line range ≡ true

stands_fitting : (line : Option ℕ) (ms : List MapMethod) (m : MapMethod) → Stands ms m → Fits line m.lines
    → Stands (fitting line ms) m
stands_fitting None ms m h fits = h
stands_fitting (Some line) ms m h fits =
    let left = stands_filtered (λ (m : MapMethod). may_have line m.lines) ms h.0 m h.1 fits in
    subst (λ (t : List MapMethod). Stands t m)
    (sym (these (filter (λ (m : MapMethod). may_have line m.lines) ms) ms m left)) left

module _ (ms : List MapMethod) (new : List ℕ) (line : Option ℕ) (m : MapMethod) (there : Stands ms m)
    (is : m.new ≡ new) (fits : Fits line m.lines) where
  among_fitting : Stands (fitting line (candidates ms new)) m
  among_fitting =
      stands_fitting line (candidates ms new) m
      (stands_filtered (λ (x : MapMethod). is_text new x.new) ms there.0 m there.1
      (ap (is_text new) is ∙ text_itself new)) fits

  among_olds : Stands (map (λ (x : MapMethod). x.old) (fitting line (candidates ms new))) m.old
  among_olds = stands_mapped (λ (x : MapMethod). x.old) (fitting line (candidates ms new)) m among_fitting

  -- its old name is one of the old names
  pub among_names : (other : List ℕ) → Stands (or_these (old_names ms new line) (other ∷ [])) m.old
  among_names other =
      let h = stands_once [] (map (λ (x : MapMethod). x.old) (fitting line (candidates ms new))) among_olds.0 m.old
      among_olds.1 in
      subst (λ (t : List (List ℕ)). Stands t m.old) (sym (these (old_names ms new line) (other ∷ []) m.old h)) h

  -- and the only one, where all that fit have it
  pub only_name : (other : List ℕ)
      → AllByRecursion (λ (x : MapMethod). x.old ≡ m.old) (fitting line (candidates ms new))
      → or_these (old_names ms new line) (other ∷ []) ≡ m.old ∷ []
  only_name other all =
      let one = all_one m.old (map (λ (x : MapMethod). x.old) (fitting line (candidates ms new)))
      (olds (fitting line (candidates ms new)) all) among_olds in
      ap (λ (t : List (List ℕ)). or_these t (other ∷ [])) one
    where
      olds : (xs : List MapMethod) → AllByRecursion (λ (x : MapMethod). x.old ≡ m.old) xs
          → AllByRecursion (λ (a : List ℕ). a ≡ m.old) (map (λ (x : MapMethod). x.old) xs)
      olds [] h = tt
      olds (x ∷ xs) h = (h.0, olds xs h.1)

-- ---- numbers

grows : (n : ℕ) (ds : List ℕ) → n ≤ digits_value_after 10 n ds
grows n [] = omega arith
grows n (d ∷ ds) = let more = grows (n * 10 + digit_value d) ds in omega (arith, more)

-- digits count as they do, where they don't come to the bound
counted : (n : ℕ) (ds : List ℕ) → AllDigits 10 ds → digits_value_after 10 n ds < 65536
    → fold (λ n b. min 65536 (10 * n + (b - 48))) n ds ≡ digits_value_after 10 n ds
counted n [] all low = refl
counted n (d ∷ ds) all low =
    let value = digit_value_digit d (digit_from_value d all.0) in
    let grown = grows (n * 10 + digit_value d) ds in
    let behind : digits_value_after 10 (n * 10 + digit_value d) ds < 65536 = low in
    let few : 10 * n + (d - 48) ≤ 65536 = omega (arith, value, grown, behind) in
    let same : 10 * n + (d - 48) ≡ n * 10 + digit_value d = omega (arith, value) in
    ap (λ (m : ℕ). fold (λ n b. min 65536 (10 * n + (b - 48))) m ds) (min-eq_right few ∙ same)
    ∙ counted (n * 10 + digit_value d) ds all.1 behind

-- the line of a number that is printed
pub line_told : (n : ℕ) → n < 65536 → line_of (58 ∷ decimal n) ≡ Some n
line_told n small =
    let numeral = decimal_is_IsNumeral n (omega (arith, small)) in
    let value : digits_value_after 10 0 (decimal n) ≡ n = numeral.1 in
    ap (λ (b : Bool). cond b None (Some (fold (λ n b. min 65536 (10 * n + (b - 48))) 0 (decimal n))))
    (ne_eqb (length (58 ∷ decimal n)) 0 (λ e. omega (arith, e)))
    ∙ ap (λ (m : ℕ). Some m) (counted 0 (decimal n) numeral.0.1 (omega (arith, small, value)) ∙ value)

-- the digits of one
pub digits_told : (n : ℕ) → n < 65536 → IsNumber (58 ∷ decimal n)
digits_told n small =
    let digits = decimal_digits n (omega (arith, small)) in by (decimal n) refl digits.0 digits.1
  where
    by : (ds : List ℕ) → decimal n ≡ ds → are_digits ds ≡ true → 0 < length ds → IsNumber (58 ∷ decimal n)
    by [] is digits long = absurd (omega (arith, long))
    by (d ∷ ds) is digits long = inr (d, ds, digits, ap (λ (t : List ℕ). 58 ∷ t) is)

-- what a frame prints is a number
pub is_number : (code : Option Code) (number : List ℕ) → IsLineNumber code number → IsNumber number
is_number code number (inl none) = inl none
is_number code number (inr (c, is, l)) = subst IsNumber (sym l.is) (digits_told l.line l.small)

-- ---- a line in its range

inside : (r : Range) (n : ℕ) → is_outside r n ≡ false → may_have n (Some r) ≡ true
inside r n h =
    let parts = or_parts (nat_lt n r.first) (nat_lt r.last n) h in
    and_from (nat_le r.first n) (nat_le n r.last) (le-leb r.first n (ltb-false n r.first parts.0))
    (le-leb n r.last (ltb-false r.last n parts.1))

none_at : (p : ℕ → Bool) (xs : List ℕ) (k : ℕ) (x : ℕ) → list_any p xs ≡ false → slice_get xs k ≡ Some x → p x ≡ false
none_at p [] k x h at = absurd cc
none_at p (y ∷ xs) zero x h at =
    ap p (sym (same_Some y x at)) ∙ (or_parts (p y) (list_any p xs) h).0
none_at p (y ∷ xs) (suc k) x h at = none_at p xs k x (or_parts (p y) (list_any p xs) h).1 at

-- a range that no line of the code leaves fits what a frame of the code prints
pub fits_line : (range : Option Range) (code : Option Code) (number : List ℕ) → leaves_range range code ≡ false
    → IsLineNumber code number → Fits (line_of number) range
fits_line range code number none (inl empty) = subst (λ (t : List ℕ). Fits (line_of t) range) (sym empty) tt
fits_line range code number none (inr (c, is, l)) =
    subst (λ (t : List ℕ). Fits (line_of t) range) (sym l.is)
    (subst (λ (o : Option ℕ). Fits o range) (sym (line_told l.line l.small))
    (by range (ap (leaves_range range) (sym is) ∙ none)))
  where
    by : (r : Option Range) → leaves_range r (Some c) ≡ false → may_have l.line r ≡ true
    by None h = refl
    by (Some r) h =
        inside r l.line (none_at (is_outside r) (lines_of c) l.among.0 l.line h
        (slice_get-get_or (lines_of c) l.among.0 l.line l.among.1 ∙ ap (λ (n : ℕ). Some n) l.among.2))

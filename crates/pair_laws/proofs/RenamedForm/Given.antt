-- New names that are given in their order are names of their kind (JVMS 4.2).
use Rattle.std.proofs.Common.{◌≡◌, ◌⊎◌, inl, inr, ℕ, Bool, true, false, cond, ◌||◌, List, [], ◌∷◌, Option, Some, None}
use Rattle.std.proofs.Common.{refl, sym, ap, subst, ◌∙◌}
use Rattle.std.specs.Prelude.{IsTrue, IsUtf8, codes}
use Rattle.std.specs.List.{AllByRecursion, filter, list_any}
use Rattle.std.specs.Map.{lookup}
use Rattle.std.proofs.lemmas.Option.{same_Some}
use Rattle.jv_base.specs.Names.{is_class_name, is_member_name, is_method_name, is_primitive_or_void, is_text}
use Rattle.jv_base.proofs.Equality.{text_Decides}
use Rattle.std.proofs.lemmas.Bool.{or_right}
use Rattle.class_model.specs.WellFormed.{IsName}
use Rattle.class_model.specs.declared.class.Class.{Class}
use Rattle.fresh_names.specs.Fresh.{fresh, is_taken, name_at}
use Rattle.class_rename.specs.Names.{MethodName, Tables, is_same_method}
use Rattle.fresh_names.specs.Given.{NameTable, class_given, class_names, field_given, field_names, front_of, given_name}
use Rattle.fresh_names.specs.Given.{if_in_package, in_package, method_given, method_names, of_type, stays_for}
use Rattle.fresh_names.specs.Reserved.{reserved, type_words}
use Rattle.fresh_names.specs.declared.taken.Named.TheVariants as named
use Rattle.fresh_names.specs.declared.taken.TakenNames.{TakenNames}
use Rattle.fresh_names.proofs.Letters.{fresh_class, fresh_utf8, name_of_member, name_utf8}
use Rattle.fresh_names.proofs.Groups.{pair_taken}
use Rattle.fresh_names.proofs.Reserved.{taken_parts}
use Rattle.fresh_names.proofs.Tables.{given_cases, passes_of}
use Rattle.pair_laws.specs.RenamedForm.GivenForm.{GivenKeepsForm, HasReserved, TellNames}

-- a word that stands for another type is reserved
word_reserved : (a : List ℕ) → is_primitive_or_void a ≡ is_taken (reserved named.Class) a
unfolding is_primitive_or_void type_words
word_reserved a = refl

-- a name that isn't taken isn't one that is
not_that : (taken : List (List ℕ)) (that a : List ℕ) → is_taken taken that ≡ true → is_taken taken a ≡ false
    → is_text a that ≡ false
not_that taken that a there free = on (is_text a that) refl
  where
    on : (b : Bool) → is_text a that ≡ b → b ≡ false
    on false e = refl
    on true e = absurd (
        let w : true ≡ false = sym there ∙ ap (is_taken taken) (sym ((text_Decides a that).0 e)) ∙ free in
        cc)

-- ---- names of one group

-- a name stays, or its new one is what an earlier mapping tells, or a fresh one of its front; these don't stay
abbrev Cases : (List ℕ → Option (List ℕ)) → List (List ℕ) → List ℕ → List (List ℕ) → List ℕ → Type 0
Cases old stays front names a = (given_name old stays front names a ≡ a)
    ⊎ (((old a ≡ Some (given_name old stays front names a)) × (is_taken stays (given_name old stays front names a) ≡ false)
    × (is_taken stays a ≡ false) × (is_taken names a ≡ true))
    ⊎ ((n : ℕ) × (given_name old stays front names a ≡ fresh front n) × (is_taken stays (fresh front n) ≡ false)
    × (is_taken stays a ≡ false) × (is_taken names a ≡ true)))

module _ (old : List ℕ → Option (List ℕ)) (stays : List (List ℕ)) (front : List ℕ) (names : List (List ℕ)) where
  -- what holds of the name, of what is told and of what is fresh holds of the new one
  by_cases : (P : List ℕ → Type 0) (a : List ℕ) → P a → ((v : List ℕ) → old a ≡ Some v → P v)
      → ((n : ℕ) → is_taken stays (fresh front n) ≡ false → P (fresh front n)) → P (given_name old stays front names a)
  by_cases P a own told new = on (given_cases old stays front names a)
    where
      on : Cases old stays front names a → P (given_name old stays front names a)
      on (inl same) = subst P (sym same) own
      on (inr (inl (is, free, own_free, among))) = told (given_name old stays front names a) is
      on (inr (inr (n, is, free, own_free, among))) = subst P (sym is) (new n free)

  -- no name becomes one that stays, but itself
  that_stays : (that a : List ℕ) → is_taken stays that ≡ true
      → is_text (given_name old stays front names a) that ≡ is_text a that
  that_stays that a there = on (given_cases old stays front names a)
    where
      on : Cases old stays front names a → is_text (given_name old stays front names a) that ≡ is_text a that
      on (inl same) = ap (λ (b : List ℕ). is_text b that) same
      on (inr (inl (is, free, own, among))) =
          not_that stays that (given_name old stays front names a) there free ∙ sym (not_that stays that a there own)
      on (inr (inr (n, is, free, own, among))) =
          ap (λ (b : List ℕ). is_text b that) is
          ∙ not_that stays that (fresh front n) there free
          ∙ sym (not_that stays that a there own)

  -- a name that no item has stays
  pub unnamed_stays : (a : List ℕ) → is_taken names a ≡ false → given_name old stays front names a ≡ a
  unnamed_stays a none = on (given_cases old stays front names a)
    where
      on : Cases old stays front names a → given_name old stays front names a ≡ a
      on (inl same) = same
      on (inr (inl (is, free, own, among))) = absurd (let w : true ≡ false = sym among ∙ none in cc)
      on (inr (inr (n, is, free, own, among))) = absurd (let w : true ≡ false = sym among ∙ none in cc)

-- ---- names of each kind that no item has

not_picked : (q : List ℕ → Bool) (names : List (List ℕ)) (a : List ℕ) → is_taken names a ≡ false
    → is_taken (filter q names) a ≡ false
not_picked q names a none = on (is_taken (filter q names) a) refl
  where
    on : (b : Bool) → is_taken (filter q names) a ≡ b → b ≡ false
    on false e = refl
    on true e = absurd (let w : true ≡ false = sym (passes_of q a names e).1 ∙ none in cc)

pub other_class_stays : (old : NameTable) (stays names : List (List ℕ)) (a : List ℕ) → is_taken names a ≡ false
    → class_given old stays names a ≡ a
other_class_stays old stays names a none =
    unnamed_stays (λ b. if_in_package (front_of a) (lookup (is_text b) old)) stays (front_of a)
    (in_package (front_of a) names) a (not_picked (λ b. is_text (front_of a) (front_of b)) names a none)

pub other_field_stays : (old : NameTable) (stays names : List (List ℕ)) (a : List ℕ) → is_taken names a ≡ false
    → field_given old stays names a ≡ a
other_field_stays old stays names a none = unnamed_stays (λ b. lookup (is_text b) old) stays [] names a none

pub other_method_stays : (old : List (MethodName × List ℕ)) (fixed methods : List MethodName) (a d : List ℕ)
    → list_any (is_same_method (a, d)) methods ≡ false → method_given old fixed methods a d ≡ a
other_method_stays old fixed methods a d none =
    unnamed_stays (λ b. lookup (is_same_method (b, d)) old) (stays_for fixed d) [] (of_type d methods) a
    (sym (pair_taken methods a d) ∙ none)

-- ---- what an earlier mapping tells

told_has : {K : Type 0} (P : List ℕ → Type 0) (table : List (K × List ℕ)) (test : K → Bool) (v : List ℕ)
    → AllByRecursion (λ (e : K × List ℕ). P e.1) table → lookup test table ≡ Some v → P v
told_has P [] test v all found = absurd cc
told_has {K} P (e ∷ table) test v all found = by (test e.0) found (told_has P table test v all.1)
  where
    by : (b : Bool) → cond b (Some e.1) (lookup test table) ≡ Some v → (lookup test table ≡ Some v → P v) → P v
    by true is rest = subst P (same_Some e.1 v is) all.0
    by false is rest = rest is

inside : (front : List ℕ) (o : Option (List ℕ)) (v : List ℕ) → if_in_package front o ≡ Some v → o ≡ Some v
inside front None v is = absurd cc
inside front (Some new) v is = by (is_text front (front_of new)) is
  where
    by : (b : Bool) → cond b (Some new) None ≡ Some v → Some new ≡ Some v
    by true e = e
    by false e = absurd cc

-- ---- names of their kind

method_of_member : (a : List ℕ) → is_member_name a ≡ true → is_method_name a ≡ true
unfolding is_method_name
method_of_member a h = ap (λ (b : Bool). b || is_text a (codes "<init>") || is_text a (codes "<clinit>")) h
    ∙ on (is_text a (codes "<init>")) (is_text a (codes "<clinit>"))
  where
    on : (x y : Bool) → (true || x || y) ≡ true
    on x y = refl

no : (b c : Bool) → b ≡ c → (c ≡ true → ⊥) → b ≡ false
no false c e never = refl
no true c e never = absurd (never (sym e))

module _ (taken : TakenNames) (has : HasReserved taken) where
  no_word : (a : List ℕ) → is_taken taken.classes a ≡ false → is_primitive_or_void a ≡ false
  no_word a free = no (is_primitive_or_void a) (is_taken (reserved named.Class) a) (word_reserved a)
      (λ is. let w : true ≡ false = sym (has a is) ∙ free in cc)

module _ (taken : TakenNames) (old : Tables) (kept : List Class) where
  -- what holds of the name, of what the earlier mapping tells and of what is fresh holds of a new one
  by_class : (P : List ℕ → Type 0) (a : List ℕ) → P a
      → AllByRecursion (λ (e : List ℕ × List ℕ). P e.1) old.classes
      → ((n : ℕ) → is_taken taken.classes (fresh (front_of a) n) ≡ false → P (fresh (front_of a) n))
      → P (class_given old.classes taken.classes (class_names kept) a)
  by_class P a own all new =
      by_cases (λ b. if_in_package (front_of a) (lookup (is_text b) old.classes)) taken.classes (front_of a)
      (in_package (front_of a) (class_names kept)) P a own
      (λ v is. told_has P old.classes (is_text a) v all
      (inside (front_of a) (lookup (is_text a) old.classes) v is)) new

  by_field : (P : List ℕ → Type 0) (a : List ℕ) → P a → AllByRecursion (λ (e : List ℕ × List ℕ). P e.1) old.fields
      → ((n : ℕ) → P (fresh [] n)) → P (field_given old.fields taken.fields (field_names kept) a)
  by_field P a own all new =
      by_cases (λ b. lookup (is_text b) old.fields) taken.fields [] (field_names kept) P a own
      (λ v is. told_has P old.fields (is_text a) v all is) (λ n free. new n)

  by_method : (P : List ℕ → Type 0) (a d : List ℕ) → P a
      → AllByRecursion (λ (e : MethodName × List ℕ). P e.1) old.methods
      → ((n : ℕ) → P (fresh [] n)) → P (method_given old.methods taken.methods (method_names kept) a d)
  by_method P a d own all new =
      by_cases (λ b. lookup (is_same_method (b, d)) old.methods) (stays_for taken.methods d) []
      (of_type d (method_names kept)) P a own
      (λ v is. told_has P old.methods (is_same_method (a, d)) v all is) (λ n free. new n)

  -- initialisation methods stay, and no other becomes one
  method_stays : (that a d : List ℕ) → is_taken (reserved named.Method) that ≡ true
      → is_text (method_given old.methods taken.methods (method_names kept) a d) that ≡ is_text a that
  method_stays that a d there =
      that_stays (λ b. lookup (is_same_method (b, d)) old.methods) (stays_for taken.methods d) []
      (of_type d (method_names kept)) that a (taken_parts (of_type d taken.methods) (reserved named.Method) that
      ∙ or_right (is_taken (of_type d taken.methods) that) (is_taken (reserved named.Method) that) there)

utf8_of : (xs : NameTable) → AllByRecursion (λ (e : List ℕ × List ℕ). IsUtf8 e.1 × IsTrue (is_class_name e.1)) xs
    → AllByRecursion (λ (e : List ℕ × List ℕ). IsUtf8 e.1) xs
utf8_of [] all = tt
utf8_of (x ∷ xs) all = (all.0.0, utf8_of xs all.1)

name_of : (xs : NameTable) → AllByRecursion (λ (e : List ℕ × List ℕ). IsUtf8 e.1 × IsTrue (is_class_name e.1)) xs
    → AllByRecursion (λ (e : List ℕ × List ℕ). IsTrue (is_class_name e.1)) xs
name_of [] all = tt
name_of (x ∷ xs) all = (all.0.1, name_of xs all.1)

pub given_form : GivenKeepsForm
given_form taken old kept has told string = record {
  class_text = λ a h.
      by_class taken old kept (λ (t : List ℕ). IsUtf8 t) a h (utf8_of old.classes told.classes)
      (λ n free. fresh_utf8 a n h);
  class_name = λ a h.
      by_class taken old kept (λ (t : List ℕ). IsTrue (is_class_name t)) a h (name_of old.classes told.classes)
      (λ n free. fresh_class a n h (no_word taken has (fresh (front_of a) n) free));
  field_name = λ a h.
      by_field taken old kept (λ (t : List ℕ). IsName is_member_name t) a h told.fields
      (λ n. (name_utf8 n, name_of_member n));
  method_name = λ a d h.
      by_method taken old kept (λ (t : List ℕ). IsName is_method_name t) a d h told.methods
      (λ n. (name_utf8 n, method_of_member (name_at n) (name_of_member n)));
  init = λ a d. method_stays taken old kept (codes "<init>") a d refl;
  clinit = λ a d. method_stays taken old kept (codes "<clinit>") a d refl;
  string = other_class_stays old.classes taken.classes (class_names kept) (codes "java/lang/String") string;
}

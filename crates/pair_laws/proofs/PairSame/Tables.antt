-- Old and new names that are one to one, as a list that grows: names of fields, or those of methods with descriptors.
use Rattle.std.proofs.Common.{◌≡◌, ℕ, Bool, true, false, cond, List, [], ◌∷◌, ◌++◌, map}
use Rattle.std.proofs.Common.{Option}
use Rattle.std.proofs.Common.{Some, None, refl, sym, ap, subst, ◌∙◌}
use Rattle.std.specs.List.{AllByRecursion, flat_map}
use Rattle.std.specs.Option.{option_map, option_or, unwrap_or}
use Rattle.std.proofs.lemmas.List.{map-append}
use Rattle.std.specs.Map.{lookup}
use Rattle.std.proofs.lemmas.Option.{same_Some}
use Rattle.std.proofs.lemmas.Bool.{and_from, and_parts, not-false, or_parts}
use Rattle.require_sys.proofs.Parts.{all_map}
use Rattle.mapping_file.specs.declared.mapping.MapClass.{MapClass}
use Rattle.mapping_file.specs.declared.mapping.MapMethod.{MapMethod}
use Rattle.new_names.specs.NewNames.{NameAndType, all_method_names, is_same, method_lines}
use Rattle.jv_base.specs.Names.{is_text}
use Rattle.jv_base.proofs.Equality.{text_itself, same_text}
use Rattle.jv_base.proofs.Lists.{all_mapped}
use Rattle.pair_clauses.specs.Shape.{clashes, is_other, method_named, method_pairs, method_renamed}

-- ---- lookups

pub lookup_append : {K X : Type 0} (test : K → Bool) (xs ys : List (K × X))
    → lookup test (xs ++ ys) ≡ option_or (lookup test xs) (lookup test ys)
lookup_append test [] ys = refl
lookup_append test (x ∷ xs) ys = by (test x.0) (lookup_append test xs ys)
  where
    by : (b : Bool) → lookup test (xs ++ ys) ≡ option_or (lookup test xs) (lookup test ys)
        → cond b (Some x.1) (lookup test (xs ++ ys)) ≡ option_or (cond b (Some x.1) (lookup test xs)) (lookup test ys)
    by true r = refl
    by false r = r

-- what is found has passed, and what holds of each entry holds of it
pub record Looked {K X : Type 0} (Q : K × X → Type 0) (test : K → Bool) (x : X) : Type 0 where
  pub key : K
  pub passes : test key ≡ true
  pub holds : Q (key, x)

pub looked : {K X : Type 0} (Q : K × X → Type 0) (test : K → Bool) (xs : List (K × X)) (x : X) → AllByRecursion Q xs
    → lookup test xs ≡ Some x → Looked Q test x
looked Q test [] x all e = absurd cc
looked {K} {X} Q test (y ∷ xs) x all e = by (test y.0) refl e (looked Q test xs x all.1)
  where
    by : (b : Bool) → test y.0 ≡ b → cond b (Some y.1) (lookup test xs) ≡ Some x
        → (lookup test xs ≡ Some x → Looked Q test x) → Looked Q test x
    by true h e rest = record {
      key = y.0;
      passes = h;
      holds = subst (λ (z : X). Q (y.0, z)) (same_Some y.1 x e) all.0;
    }
    by false h e rest = rest e

-- ---- a test of being the same

pub record IsTest {K : Type 0} (same : K → K → Bool) : Type 0 where
  pub one : (a b : K) → same a b ≡ true → a ≡ b
  pub itself : (a : K) → same a a ≡ true

pub text_test : IsTest is_text
text_test = record { one = same_text; itself = text_itself }

named_one : (a b : NameAndType) → is_same a b ≡ true → a ≡ b
named_one a b is =
    let parts = and_parts (is_text a.0 b.0) (is_text a.1 b.1) is in
    let name = same_text a.0 b.0 parts.0 in
    let descriptor = same_text a.1 b.1 parts.1 in
    λ i. (name i, descriptor i)

named_itself : (a : NameAndType) → is_same a a ≡ true
named_itself a = and_from (is_text a.0 a.0) (is_text a.1 a.1) (text_itself a.0) (text_itself a.1)

pub named_test : IsTest is_same
named_test = record { one = named_one; itself = named_itself }

-- ---- pairs of old ones and new ones

module _ {K : Type 0} (same : K → K → Bool) where
  abbrev pub swapped : List (K × K) → List (K × K)
  swapped names = map (λ (p : K × K). (p.1, p.0)) names

  abbrev pub by_old : List (K × K) → K → Option K
  by_old names old = lookup (λ name. same name old) names

  abbrev pub by_new : List (K × K) → K → Option K
  by_new names new = lookup (λ name. same name new) (swapped names)

  -- the pair is found by both of its names
  pub record IsFound (names : List (K × K)) (p : K × K) : Type 0 where
    pub old : by_old names p.0 ≡ Some p.1
    pub new : by_new names p.1 ≡ Some p.0

  -- each pair is
  abbrev pub AreOne : List (K × K) → Type 0
  AreOne names = AllByRecursion (IsFound names) names

  swapped_append : (xs ys : List (K × K)) → swapped (xs ++ ys) ≡ swapped xs ++ swapped ys
  swapped_append [] ys = refl
  swapped_append (x ∷ xs) ys = ap (λ (t : List (K × K)). (x.1, x.0) ∷ t) (swapped_append xs ys)

  by_new_append : (xs ys : List (K × K)) (new : K)
      → by_new (xs ++ ys) new ≡ option_or (by_new xs new) (by_new ys new)
  by_new_append xs ys new = ap (lookup (λ name. same name new)) (swapped_append xs ys)
      ∙ lookup_append (λ name. same name new) (swapped xs) (swapped ys)

  still : (xs ys : List (K × K)) (p : K × K) → IsFound xs p → IsFound (xs ++ ys) p
  still xs ys p h = record {
    old = lookup_append (λ name. same name p.0) xs ys
        ∙ ap (λ o. option_or o (by_old ys p.0)) h.old;
    new = by_new_append xs ys p.1 ∙ ap (λ o. option_or o (by_new ys p.1)) h.new;
  }

  all_still : (xs ys zs : List (K × K)) → AllByRecursion (IsFound xs) zs → AllByRecursion (IsFound (xs ++ ys)) zs
  all_still xs ys [] all = tt
  all_still xs ys (z ∷ zs) all = (still xs ys z all.0, all_still xs ys zs all.1)

  all_more : (P : K × K → Type 0) (xs : List (K × K)) (p : K × K) → AllByRecursion P xs → P p
      → AllByRecursion P (xs ++ p ∷ [])
  all_more P [] p all h = (h, tt)
  all_more P (x ∷ xs) p all h = (all.0, all_more P xs p all.1 h)

  -- two pairs with one new name have one old name
  pub one_old : (names : List (K × K)) (p q : K × K) → IsFound names p → IsFound names q → p.1 ≡ q.1 → p.0 ≡ q.0
  one_old names p q h k e = same_Some p.0 q.0 (sym h.new ∙ ap (by_new names) e ∙ k.new)

  module _ (test : IsTest same) where
    -- a name that isn't another one is found behind
    found_behind : (o : Option K) (name : K) → is_other same o name ≡ false → option_or o (Some name) ≡ Some name
    found_behind None name h = refl
    found_behind (Some there) name h = ap Some (test.one there name (not-false (same there name) h))

    -- one pair more that doesn't clash
    pub one_more : (names : List (K × K)) (old new : K) → AreOne names → clashes same names old new ≡ false
        → AreOne (names ++ (old, new) ∷ [])
    one_more names old new all h =
        let parts = or_parts (is_other same (by_old names old) new) (is_other same (by_new names new) old) h in
        all_more (IsFound (names ++ (old, new) ∷ [])) names (old, new)
        (all_still names ((old, new) ∷ []) names all)
        (record {
          old = lookup_append (λ name. same name old) names ((old, new) ∷ [])
              ∙ ap (λ (b : Bool). option_or (by_old names old) (cond b (Some new) None)) (test.itself old)
              ∙ found_behind (by_old names old) new parts.0;
          new = by_new_append names ((old, new) ∷ []) new
              ∙ ap (λ (b : Bool). option_or (by_new names new) (cond b (Some old) None)) (test.itself new)
              ∙ found_behind (by_new names new) old parts.1;
        })

-- ---- lines of members

-- a field's new name by lines that are of the table is that of the table
pub found_among : {X : Type 0} (names : List (List ℕ × List ℕ)) (old text new : X → List ℕ) (lines : List X)
    (name ty given : List ℕ) → AllByRecursion (IsFound is_text names) (map (λ (m : X). (old m, new m)) lines)
    → lookup (λ (key : NameAndType). is_same key (name, ty)) (map (λ (m : X). ((old m, text m), new m)) lines)
    ≡ Some given → IsFound is_text names (name, given)
found_among {X} names old text new lines name ty given good e =
    let h = looked (λ (p : NameAndType × List ℕ). IsFound is_text names (p.0.0, p.1))
    (λ (key : NameAndType). is_same key (name, ty)) (map (λ (m : X). ((old m, text m), new m)) lines) given
    (all_mapped (λ (p : NameAndType × List ℕ). IsFound is_text names (p.0.0, p.1))
    (λ (m : X). ((old m, text m), new m)) lines
    (all_map (IsFound is_text names) (λ (m : X). (old m, new m)) lines good)) e in
    let parts = and_parts (is_text h.key.0 name) (is_text h.key.1 ty) h.passes in
    subst (λ (t : List ℕ). IsFound is_text names (t, given)) (same_text h.key.0 name parts.0) h.holds

-- the same of a method with its descriptor
pub method_among_lines : (names : List (NameAndType × NameAndType)) (lines : List MapMethod) (named : NameAndType)
    (given : List ℕ) → AllByRecursion (IsFound is_same names) (method_pairs lines)
    → lookup (λ (key : NameAndType). is_same key named) (method_lines lines) ≡ Some given
    → IsFound is_same names (named, (given, named.1))
method_among_lines names lines named given good e =
    let Q : NameAndType × List ℕ → Type 0 = λ (p : NameAndType × List ℕ). IsFound is_same names (p.0, (p.1, p.0.1)) in
    let h = looked Q (λ (key : NameAndType). is_same key named) (method_lines lines) given
    (all_mapped Q (λ (m : MapMethod). (method_named m, m.new)) lines
    (all_map (IsFound is_same names) (λ (m : MapMethod). (method_named m, method_renamed m)) lines good)) e in
    subst (λ (k : NameAndType). IsFound is_same names (k, (given, k.1))) (named_one h.key named h.passes) h.holds

-- ---- names of methods

-- those of all classes, with their descriptors
abbrev pub all_method_pairs : List MapClass → List (NameAndType × NameAndType)
all_method_pairs lines = flat_map (λ (l : MapClass). method_pairs l.methods) lines

abbrev renamed_only : NameAndType × NameAndType → NameAndType × List ℕ
renamed_only p = (p.0, p.1.0)

own_pairs : (ms : List MapMethod) → method_lines ms ≡ map renamed_only (method_pairs ms)
own_pairs [] = refl
own_pairs (m ∷ ms) = ap (λ (t : List (NameAndType × List ℕ)). (method_named m, m.new) ∷ t) (own_pairs ms)

all_pairs : (lines : List MapClass) → all_method_names lines ≡ map renamed_only (all_method_pairs lines)
all_pairs [] = refl
all_pairs (l ∷ lines) =
    (λ i. own_pairs l.methods i ++ all_pairs lines i)
    ∙ sym (map-append renamed_only (method_pairs l.methods) (all_method_pairs lines))

lookup_renamed : (test : NameAndType → Bool) (names : List (NameAndType × NameAndType))
    → lookup test (map renamed_only names) ≡ option_map (λ (n : NameAndType). n.0) (lookup test names)
lookup_renamed test [] = refl
lookup_renamed test (p ∷ names) = by (test p.0) (lookup_renamed test names)
  where
    by : (b : Bool)
        → lookup test (map renamed_only names) ≡ option_map (λ (n : NameAndType). n.0) (lookup test names)
        → cond b (Some p.1.0) (lookup test (map renamed_only names))
        ≡ option_map (λ (n : NameAndType). n.0) (cond b (Some p.1) (lookup test names))
    by true r = refl
    by false r = r

-- what a mapping calls a method is what the pairs tell
pub pairs_tell : (lines : List MapClass) (m : NameAndType)
    → unwrap_or (lookup (λ old. is_same old m) (all_method_names lines)) m.0
    ≡ (unwrap_or (by_old is_same (all_method_pairs lines) m) m).0
pairs_tell lines m =
    ap (λ (t : List (NameAndType × List ℕ)). unwrap_or (lookup (λ old. is_same old m) t) m.0) (all_pairs lines)
    ∙ ap (λ (o : Option (List ℕ)). unwrap_or o m.0) (lookup_renamed (λ old. is_same old m) (all_method_pairs lines))
    ∙ by (by_old is_same (all_method_pairs lines) m)
  where
    by : (o : Option NameAndType) → unwrap_or (option_map (λ (n : NameAndType). n.0) o) m.0 ≡ (unwrap_or o m).0
    by None = refl
    by (Some n) = refl

-- The classes that patterns without wildcards name.
use Rattle.std.proofs.Common.{◌≡◌, ℕ, ◌+◌, ◌<◌, zero, suc, Bool, true, false, not, ◌||◌, cond, List, [], ◌∷◌, ◌++◌}
use Rattle.std.proofs.Common.{length, map, take, get_or, slice_get, Option, Some, None, refl, sym, ap, ◌∙◌, subst}
use Rattle.std.proofs.Common.{arith, ◌⊎◌, inl, inr, codes}
use Rattle.std.specs.List.{list_any, position}
use Rattle.std.specs.Option.{MatchOption, option_map}
use Rattle.std.specs.Str.{IsUtf8, chars}
use Rattle.std.proofs.lemmas.Bool.{cases_eq, cases_order, not-true, or_cases, or_parts, or_right}
use Rattle.std.proofs.lemmas.List.{length-map, map-append, take_more}
use Rattle.std.proofs.lemmas.List.Quantifiers.{position-Some}
use Rattle.std.proofs.lemmas.Option.{slice_get-get_or, slice_get-map}
use Rattle.jv_base.specs.Names.{is_text}
use Rattle.jv_base.proofs.Equality.{text_Decides}
use Rattle.jv_base.proofs.Options.{one_value}
use Rattle.jv_base.proofs.Lists.{any_where, any_at}
use Rattle.report_text.specs.Spelled.{class_text}
use Rattle.class_model.specs.declared.class.Class.{Class}
use Rattle.class_pool.proofs.Distinct.{position_next}
use Rattle.keep_rules.specs.declared.rules.Filter.{Filter}
use Rattle.keep_match.specs.Filters.{accepts}
use Rattle.keep_match.specs.bodies.Marks.{AreLiteral, AreNames, IsLiteral, IsNumber, IsUnnamed, is_wildcard}
use Rattle.keep_match.specs.Matches.{matches_class_name}
use Rattle.keep_match.specs.Wildcards.{wild_class}
use Rattle.keep_match.proofs.Filtering.{accepts_is, decided}
use Rattle.keep_match.proofs.LiteralLaw.{literal_is, literal_matches}

-- ---- lists

get_front : {A : Type 0} (xs : List A) (n m : ℕ) → m < n → slice_get (take n xs) m ≡ slice_get xs m
get_front [] zero m lt = absurd (omega arith)
get_front [] (suc n) m lt = refl
get_front (x ∷ xs) zero m lt = absurd (omega arith)
get_front (x ∷ xs) (suc n) zero lt = refl
get_front (x ∷ xs) (suc n) (suc m) lt = get_front xs n m (omega arith)

pub get_below : {A : Type 0} (xs : List A) (n : ℕ) (x : A) → slice_get xs n ≡ Some x → n < length xs
get_below [] n x h = absurd cc
get_below (y ∷ xs) zero x h = omega arith
get_below (y ∷ xs) (suc n) x h = let r = get_below xs n x h in omega (arith, r)

get_is : {A : Type 0} (xs : List A) (n : ℕ) (x : A) → slice_get xs n ≡ Some x → get_or xs n x ≡ x
get_is [] n x h = refl
get_is (y ∷ xs) zero x h = cc
get_is (y ∷ xs) (suc n) x h = get_is xs n x h

take_whole : {A : Type 0} (xs : List A) → take (length xs) xs ≡ xs
take_whole [] = refl
take_whole (x ∷ xs) = ap (λ (t : List _). x ∷ t) (take_whole xs)

any_none : {A : Type 0} (p : A → Bool) (xs : List A) (n : ℕ) (x : A) → list_any p xs ≡ false → slice_get xs n ≡ Some x
    → p x ≡ false
any_none p [] n x h at = absurd cc
any_none p (y ∷ xs) zero x h at =
    let same : y ≡ x = one_value (Some y) y x refl at in
    ap p (sym same) ∙ (or_parts (p y) (list_any p xs) h).0
any_none p (y ∷ xs) (suc n) x h at = any_none p xs n x (or_parts (p y) (list_any p xs) h).1 at

-- ---- names of classes

name_at : (classes : List Class) (count : ℕ) (names : List (List ℕ)) → AreNames classes count names
    → (n : ℕ) (c : Class) → n < count → slice_get classes n ≡ Some c → slice_get names n ≡ Some (class_text c)
name_at classes count names h n c lt at =
    ap (λ (xs : List (List ℕ)). slice_get xs n) h.are
    ∙ slice_get-map class_text (take count classes) n
    ∙ ap (option_map class_text) (get_front classes count n lt ∙ at)

pub names_none : (classes : List Class) → AreNames classes 0 []
names_none classes = record {
  are = refl;
  texts = λ n c lt at. absurd (omega arith);
  differ = λ m n a b less lt at also same. absurd (omega arith);
}

names_more : (classes : List Class) (n : ℕ) (names more : List (List ℕ)) (c : Class) → AreNames classes n names
    → slice_get classes n ≡ Some c → IsUtf8 c.name → list_any (is_text (class_text c)) names ≡ false
    → more ≡ names ++ (class_text c ∷ []) → AreNames classes (n + 1) more
names_more classes n names more c h at u fresh e = record {
  are = e ∙ ap (λ (t : List (List ℕ)). t ++ (class_text c ∷ [])) h.are
      ∙ sym (map-append class_text (take n classes) (c ∷ []))
      ∙ ap (map class_text) (ap (λ (d : Class). take n classes ++ (d ∷ [])) (sym (get_is classes n c at))
      ∙ sym (take_more classes n c (get_below classes n c at)));
  texts = λ m d lt at_d. text m d at_d (cases_order m n) lt;
  differ = λ m k a b less lt at_a at_b same. other m k a b less lt at_a at_b same (cases_order k n);
}
  where
    text : (m : ℕ) (d : Class) → slice_get classes m ≡ Some d → (m ≡ n) ⊎ ((m < n) ⊎ (n < m)) → m < n + 1
        → IsUtf8 d.name
    text m d at_d (inl same) lt =
        let one = one_value (slice_get classes n) c d at (ap (slice_get classes) (sym same) ∙ at_d) in
        subst (λ (x : Class). IsUtf8 x.name) one u
    text m d at_d (inr (inl less)) lt = h.texts m d less at_d
    text m d at_d (inr (inr more_)) lt = absurd (omega arith)

    other : (m k : ℕ) (a b : Class) → m < k → k < n + 1 → slice_get classes m ≡ Some a → slice_get classes k ≡ Some b
        → class_text a ≡ class_text b → (k ≡ n) ⊎ ((k < n) ⊎ (n < k)) → ⊥
    other m k a b less lt at_a at_b same (inl last) =
        let one = one_value (slice_get classes n) b c (ap (slice_get classes) (sym last) ∙ at_b) at in
        let equal : class_text c ≡ class_text a = sym (same ∙ ap class_text one) in
        let holds : is_text (class_text c) (class_text a) ≡ true =
        (text_Decides (class_text c) (class_text a)).1 equal in
        let below : m < n = omega arith in
        let none = any_none (is_text (class_text c)) names m (class_text a) fresh
        (name_at classes n names h m a below at_a) in
        let f : true ≡ false = sym holds ∙ none in cc
    other m k a b less lt at_a at_b same (inr (inl before)) = h.differ m k a b less before at_a at_b same
    other m k a b less lt at_a at_b same (inr (inr behind)) = absurd (omega arith)

pub names_put : (classes : List Class) (n : ℕ) (names more : List (List ℕ)) (c : Class) (name : List ℕ)
    → AreNames classes n names → slice_get classes n ≡ Some c → IsUtf8 c.name → name ≡ class_text c
    → not (list_any (is_text name) names) ≡ true → more ≡ names ++ (name ∷ []) → AreNames classes (n + 1) more
names_put classes n names more c name h at u same fresh e =
    names_more classes n names more c h at u
    (ap (λ (t : List ℕ). list_any (is_text t) names) (sym same) ∙ not-true (list_any (is_text name) names) fresh)
    (e ∙ ap (λ (t : List ℕ). names ++ (t ∷ [])) same)

-- ---- a class by its name

position_there : (p : List ℕ → Bool) (xs : List (List ℕ)) (n : ℕ) → position p xs ≡ Some n
    → (x : List ℕ) × (slice_get xs n ≡ Some x) × (p x ≡ true)
position_there p [] n h = absurd cc
position_there p (x ∷ xs) n h =
    let found = position-Some p (x ∷ xs) n x h in
    (get_or (x ∷ xs) n x, slice_get-get_or (x ∷ xs) n x found.0, found.1)

either_some : (b : Bool) (i j : ℕ) → (k : ℕ) × (cond b (Some i) (Some j) ≡ Some k)
either_some true i j = (i, refl)
either_some false i j = (j, refl)

position_finds : (p : List ℕ → Bool) (xs : List (List ℕ)) (n : ℕ) (x : List ℕ) → slice_get xs n ≡ Some x → p x ≡ true
    → (k : ℕ) × (position p xs ≡ Some k)
position_finds p [] n x at h = absurd cc
position_finds p (y ∷ xs) zero x at h =
    let same : y ≡ x = one_value (Some y) y x refl at in
    (0, position_next p y xs ∙ ap (λ (b : Bool). cond b (Some 0) (option_map suc (position p xs))) (ap p same ∙ h))
position_finds p (y ∷ xs) (suc n) x at h =
    let r = position_finds p xs n x at h in
    let k = either_some (p y) 0 (suc r.0) in
    (k.0, position_next p y xs ∙ ap (λ (o : Option ℕ). cond (p y) (Some 0) (option_map suc o)) r.1 ∙ k.1)

module _ (classes : List Class) (names : List (List ℕ)) (name : List ℕ)
    (h : AreNames classes (length classes) names) where
  at_name : (m : ℕ) (c : Class) → slice_get classes m ≡ Some c → slice_get names m ≡ Some (class_text c)
  at_name m c at = name_at classes (length classes) names h m c (get_below classes m c at) at

  names_length : length names ≡ length classes
  names_length = ap length (h.are ∙ ap (map class_text) (take_whole classes)) ∙ length-map classes class_text

  found_is : (n : ℕ) → position (is_text name) names ≡ Some n → IsNumber classes name n
  found_is n found =
      let there = position_there (is_text name) names n found in
      let below : n < length classes =
      let b = get_below names n there.0 there.1 in let e = names_length in omega (arith, b, e) in
      record {
        there = below;
        named = λ c at. named n there.0 there.1 there.2 c at;
        only = λ m c at same. one m n c at same there.0 there.1 there.2 below (cases_order m n);
      }
    where
      named : (n : ℕ) (x : List ℕ) → slice_get names n ≡ Some x → is_text name x ≡ true → (c : Class)
          → slice_get classes n ≡ Some c → class_text c ≡ name
      named n x at_x holds c at =
          one_value (slice_get names n) (class_text c) x (at_name n c at) at_x ∙ sym ((text_Decides name x).0 holds)

      one : (m n : ℕ) (c : Class) → slice_get classes m ≡ Some c → class_text c ≡ name → (x : List ℕ)
          → slice_get names n ≡ Some x → is_text name x ≡ true → n < length classes → (m ≡ n) ⊎ ((m < n) ⊎ (n < m))
          → m ≡ n
      one m n c at same x at_x holds below (inl e) = e
      one m n c at same x at_x holds below (inr (inl less)) =
          let d = get_or classes n c in
          let at_d = slice_get-get_or classes n c below in
          absurd (h.differ m n c d less below at at_d (same ∙ sym (named n x at_x holds d at_d)))
      one m n c at same x at_x holds below (inr (inr more)) =
          let d = get_or classes n c in
          let at_d = slice_get-get_or classes n c below in
          absurd (h.differ n m d c more (get_below classes m c at) at_d at (named n x at_x holds d at_d ∙ sym same))

  found_none : position (is_text name) names ≡ None → IsUnnamed classes name
  found_none none m c at same =
      let holds : is_text name (class_text c) ≡ true = (text_Decides name (class_text c)).1 (sym same) in
      let found = position_finds (is_text name) names m (class_text c) (at_name m c at) holds in
      let f : None ≡ Some found.0 = sym none ∙ found.1 in cc

  pub number_is : (o : Option ℕ) → position (is_text name) names ≡ o
      → MatchOption o (IsUnnamed classes name) (IsNumber classes name)
  number_is None e = found_none e
  number_is (Some n) e = found_is n e

-- ---- filters without wildcards

all_positive : (f : Filter) (fs : List Filter) → AreLiteral (length (f ∷ fs)) (f ∷ fs) → AreLiteral (length fs) fs
all_positive f fs h j g lt at = h (suc j) g (omega (arith, lt)) at

decides_any : (matches : List ℕ → Bool) (fs : List Filter) → AreLiteral (length fs) fs
    → decided matches false fs ≡ list_any (λ f. matches f.pattern) fs
decides_any matches [] h = refl
decides_any matches (f ∷ fs) h =
    let plus = (h 0 f (omega arith) refl).positive in
    (λ i. cond (matches f.pattern) (not (plus i)) (decided matches (plus i) fs))
    ∙ by (matches f.pattern) (decides_any matches fs (all_positive f fs h))
  where
    by : (b : Bool) → decided matches false fs ≡ list_any (λ f. matches f.pattern) fs
        → cond b true (decided matches false fs) ≡ (b || list_any (λ f. matches f.pattern) fs)
    by true e = refl
    by false e = e

accepts_any : (matches : List ℕ → Bool) (fs : List Filter) → AreLiteral (length fs) fs
    → accepts matches fs ≡ list_any (λ f. matches f.pattern) fs
accepts_any matches fs h = accepts_is matches fs ∙ decides_any matches fs h

star_wild : list_any is_wildcard (chars (codes "*")) ≡ true
unfolding chars
star_wild = refl

pub literal_more : (fs : List Filter) (i : ℕ) (f : Filter) → AreLiteral i fs → f ≡ get_or fs i f → IsLiteral f
    → AreLiteral (i + 1) fs
literal_more fs i f h is plain j g lt at = by (cases_eq j i)
  where
    by : (j ≡ i) ⊎ (j ≡ i → ⊥) → IsLiteral g
    by (inl e) =
        let at_i : slice_get fs i ≡ Some g = ap (slice_get fs) (sym e) ∙ at in
        let there = slice_get-get_or fs i f (get_below fs i g at_i) in
        subst IsLiteral (is ∙ one_value (slice_get fs i) (get_or fs i f) g there at_i) plain
    by (inr other) = h j g (omega arith) at

-- a class that a pattern without wildcards matches has it as its name, with dots
literal_named : (f : Filter) (c : Class) → IsLiteral f → IsUtf8 c.name → matches_class_name f.pattern c.name ≡ true
    → class_text c ≡ f.pattern
literal_named f c h u matched = elim (or_cases (is_text f.pattern (codes "*")) (wild_class f.pattern c.name) matched) [
  | inl star ↦
      let same : f.pattern ≡ codes "*" = (text_Decides f.pattern (codes "*")).0 star in
      let wild : list_any is_wildcard (chars f.pattern) ≡ true =
      ap (λ (t : List ℕ). list_any is_wildcard (chars t)) same ∙ star_wild in
      let x : true ≡ false = sym wild ∙ h.free in absurd cc
  | inr wild ↦ literal_is f.pattern c.name h.free h.text u wild
]

module _ (fs : List Filter) (literal : AreLiteral (length fs) fs) (c : Class) (u : IsUtf8 c.name) where
  -- a class whose name is accepted is named by a pattern
  pub accepted_named : accepts (λ pattern. matches_class_name pattern c.name) fs ≡ true
      → (j : ℕ) × (f : Filter) × (slice_get fs j ≡ Some f) × (class_text c ≡ f.pattern)
  accepted_named holds =
      let where_ = any_where (λ (f : Filter). matches_class_name f.pattern c.name) fs
      (sym (accepts_any (λ pattern. matches_class_name pattern c.name) fs literal) ∙ holds) in
      let plain = literal where_.0 where_.1 (get_below fs where_.0 where_.1 where_.2) where_.2 in
      (where_.0, where_.1, where_.2, literal_named where_.1 c plain u where_.3)

  -- a class that a pattern names is accepted
  pub named_accepted : (j : ℕ) (f : Filter) → slice_get fs j ≡ Some f → class_text c ≡ f.pattern
      → accepts (λ pattern. matches_class_name pattern c.name) fs ≡ true
  named_accepted j f at same =
      let plain = literal j f (get_below fs j f at) at in
      accepts_any (λ pattern. matches_class_name pattern c.name) fs literal
      ∙ any_at (λ (g : Filter). matches_class_name g.pattern c.name) fs j f at
      (or_right (is_text f.pattern (codes "*")) (wild_class f.pattern c.name)
      (literal_matches f.pattern c.name plain.free plain.text u same))

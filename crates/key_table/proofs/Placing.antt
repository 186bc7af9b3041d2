-- A new key is found where it stands.
use Rattle.std.proofs.Common.{◌≡◌, ℕ, zero, suc, ◌+◌, ◌<◌, Bool, true, false, cond, List, [], ◌∷◌, ◌++◌, length, Option}
use Rattle.std.proofs.Common.{Some, None, Result, Ok, Err, refl, sym, ap, ◌∙◌, arith, subst, true≢false}
use Rattle.std.specs.Prelude.{⊤, slice_get, IfSome, OnOk, OnErr, is_ok, take}
use Rattle.std.specs.BTreeMap.{is_at}
use Rattle.std.specs.Cmp.{IsEquivalence, unsigned_Decides, unsigned_ties}
use Rattle.std.specs.List.{position_from}
use Rattle.std.specs.Map.{keys_of, lookup}
use Rattle.std.specs.Option.{option_or}
use Rattle.std.specs.Ordering.{is_eq, nat_cmp}
use Rattle.std.specs.declared.cmp.Ordering.{Ordering}
use Rattle.std.proofs.lemmas.List.{length-append}
use Rattle.key_table.specs.Tables.{ArePlaced, first_place, is_there, place_by}
use Rattle.key_table.proofs.Found.{alike, position_more}

or_none : {A : Type 0} (o : Option A) → o ≡ option_or o None
or_none None = refl
or_none (Some x) = refl

still_there : {A : Type 0} (xs : List A) (x : A) (n : ℕ) → n < length xs → slice_get (xs ++ x ∷ []) n ≡ slice_get xs n
still_there [] x n within = absurd (omega (arith, within))
still_there (y ∷ xs) x zero within = refl
still_there (y ∷ xs) x (suc n) within = still_there xs x n (omega (arith, within))

at_end : {A : Type 0} (xs : List A) (x : A) → slice_get (xs ++ x ∷ []) (length xs) ≡ Some x
at_end [] x = refl
at_end (y ∷ xs) x = at_end xs x

more_within : {A : Type 0} (xs : List A) (x : A) (o : Option ℕ) → IfSome o (λ n. n < length xs)
    → IfSome o (λ n. n < length (xs ++ x ∷ []))
more_within xs x None w = tt
more_within xs x (Some n) w = omega (arith, w, length-append xs (x ∷ []))

module _ {K : Type 0} (cmp : K → K → Ordering) (eq : K → K → Bool) (mark : K → ℕ) (laws : IsEquivalence eq)
    (ties : (x y : K) → eq x y ≡ is_eq (cmp x y)) (one_mark : (x y : K) → eq x y ≡ true → mark x ≡ mark y)
    (keys : List K) (firsts : List (ℕ × ℕ)) (others : List (K × ℕ)) (placed : ArePlaced cmp eq mark keys firsts others)
    (key : K) (missing : position_from (eq key) 0 keys ≡ None) where
  -- another key stays where it is
  same_place : (q : K) (o : Option ℕ) → first_place mark firsts q ≡ o
      → place_by cmp eq (keys ++ key ∷ []) others q o ≡ place_by cmp eq keys others q o
  same_place q None is = refl
  same_place q (Some n) is =
      let within : n < length keys = subst (λ (o : Option ℕ). IfSome o (λ m. m < length keys)) is (placed.within q) in
      ap (λ (there : Option K). cond (is_there eq q there) (Some n) (lookup (is_at (cmp q)) others))
      (still_there keys key n within)

  -- a key like the new one was nowhere
  none_alike : (q : K) → eq q key ≡ true → position_from (eq q) 0 keys ≡ None
  none_alike q same = alike (eq q) (eq key) 0 keys (λ k. laws.congr q key k same) ∙ missing

  not_alike : (q : K) → (mark q ≡ mark key → eq q key ≡ false) → eq q key ≡ false
  not_alike q differ = by (eq q key) refl
    where
      by : (b : Bool) → eq q key ≡ b → eq q key ≡ false
      by true e = differ (one_mark q key e)
      by false e = e

  more : (q : K) (b : Bool) → eq q key ≡ b → position_from (eq q) 0 (keys ++ key ∷ [])
      ≡ option_or (position_from (eq q) 0 keys) (cond b (Some (length keys)) None)
  more q b is = position_more (eq q) 0 keys key
      ∙ ap (λ n. option_or (position_from (eq q) 0 keys) (cond (eq q key) (Some n) None))
      (let e : 0 + length keys ≡ length keys = omega arith in e)
      ∙ ap (λ c. option_or (position_from (eq q) 0 keys) (cond c (Some (length keys)) None)) is

  -- the first with its mark
  module _ (grown : List (ℕ × ℕ)) (alone : first_place mark firsts key ≡ None)
      (put : (m : ℕ) → lookup (is_at (nat_cmp m)) grown
      ≡ cond (is_at (nat_cmp (mark key)) m) (Some (length keys)) (lookup (is_at (nat_cmp m)) firsts)) where
    one_of_mark : (q : K) → is_at (nat_cmp (mark key)) (mark q) ≡ true → mark key ≡ mark q
    one_of_mark q is = (unsigned_Decides (mark key) (mark q)).0 (unsigned_ties (mark key) (mark q) ∙ is)

    found_first : (q : K) (b : Bool) → is_at (nat_cmp (mark key)) (mark q) ≡ b
        → place_by cmp eq (keys ++ key ∷ []) others q (cond b (Some (length keys)) (first_place mark firsts q))
        ≡ position_from (eq q) 0 (keys ++ key ∷ [])
    found_first q true is =
        let none : first_place mark firsts q ≡ None =
        ap (λ m. lookup (is_at (nat_cmp m)) firsts) (sym (one_of_mark q is)) ∙ alone in
        let nowhere : position_from (eq q) 0 keys ≡ None =
        sym (placed.found q) ∙ ap (place_by cmp eq keys others q) none in
        ap (λ (there : Option K). cond (is_there eq q there) (Some (length keys)) (lookup (is_at (cmp q)) others))
        (at_end keys key)
        ∙ ap (λ (o : Option ℕ). cond (eq q key) (Some (length keys)) o) (placed.behind q none)
        ∙ sym (more q (eq q key) refl
        ∙ ap (λ (o : Option ℕ). option_or o (cond (eq q key) (Some (length keys)) None)) nowhere)
    found_first q false is =
        let differ : eq q key ≡ false = not_alike q (λ same. absurd (true≢false (sym (
        (unsigned_Decides (mark key) (mark q)).1 (sym same)) ∙ unsigned_ties (mark key) (mark q) ∙ is))) in
        same_place q (first_place mark firsts q) refl ∙ placed.found q ∙ or_none (position_from (eq q) 0 keys)
        ∙ sym (more q false differ)

    behind_first : (q : K) (b : Bool) → cond b (Some (length keys)) (first_place mark firsts q) ≡ None
        → lookup (is_at (cmp q)) others ≡ None
    behind_first q true is = absurd cc
    behind_first q false is = placed.behind q is

    within_first : (q : K) (b : Bool)
        → IfSome (cond b (Some (length keys)) (first_place mark firsts q)) (λ n. n < length (keys ++ key ∷ []))
    within_first q true = omega (arith, length-append keys (key ∷ []))
    within_first q false = more_within keys key (first_place mark firsts q) (placed.within q)

    pub placed_first : ArePlaced cmp eq mark (keys ++ key ∷ []) grown others
    placed_first = record {
      found = λ q. ap (place_by cmp eq (keys ++ key ∷ []) others q) (put (mark q)) ∙ found_first q _ refl;
      within = λ q. subst (λ (o : Option ℕ). IfSome o (λ n. n < length (keys ++ key ∷ []))) (sym (put (mark q)))
          (within_first q _);
      behind = λ q none. behind_first q _ (sym (put (mark q)) ∙ none);
    }

  -- behind another first with its mark
  module _ (grown : List (K × ℕ)) (first : ℕ) (shared : first_place mark firsts key ≡ Some first)
      (put : (q : K) → lookup (is_at (cmp q)) grown
      ≡ cond (is_at (cmp key) q) (Some (length keys)) (lookup (is_at (cmp q)) others)) where
    -- the test of the tree
    turned : (q : K) → is_at (cmp key) q ≡ eq q key
    turned q = sym (ties key q) ∙ laws.symm key q

    has_first : (q : K) → eq q key ≡ true → first_place mark firsts q ≡ Some first
    has_first q same = ap (λ m. lookup (is_at (nat_cmp m)) firsts) (one_mark q key same) ∙ shared

    among : (q : K) (n : ℕ) → first_place mark firsts q ≡ Some n → (b c : Bool) → eq q key ≡ b
        → is_there eq q (slice_get keys n) ≡ c
        → cond c (Some n) (cond b (Some (length keys)) (lookup (is_at (cmp q)) others))
        ≡ option_or (position_from (eq q) 0 keys) (cond b (Some (length keys)) None)
    among q n is b c e there = by b c e (sym (placed.found q ∙ refl) ∙ ap (place_by cmp eq keys others q) is
        ∙ ap (λ d. cond d (Some n) (lookup (is_at (cmp q)) others)) there)
      where
        by : (b c : Bool) → eq q key ≡ b
            → position_from (eq q) 0 keys ≡ cond c (Some n) (lookup (is_at (cmp q)) others)
            → cond c (Some n) (cond b (Some (length keys)) (lookup (is_at (cmp q)) others))
            ≡ option_or (position_from (eq q) 0 keys) (cond b (Some (length keys)) None)
        by b true e at = ap (λ (o : Option ℕ). option_or o (cond b (Some (length keys)) None)) (sym at)
        by true false e at = ap (λ (o : Option ℕ). option_or o (Some (length keys))) (sym (none_alike q e))
        by false false e at = or_none (lookup (is_at (cmp q)) others)
            ∙ ap (λ (o : Option ℕ). option_or o None) (sym at)

    found_other : (q : K) (o : Option ℕ) → first_place mark firsts q ≡ o
        → place_by cmp eq (keys ++ key ∷ []) grown q o ≡ position_from (eq q) 0 (keys ++ key ∷ [])
    found_other q None is =
        let nowhere : position_from (eq q) 0 keys ≡ None =
        sym (placed.found q) ∙ ap (place_by cmp eq keys others q) is in
        let differ : eq q key ≡ false = by (eq q key) refl in
        sym (more q false differ ∙ ap (λ (o : Option ℕ). option_or o None) nowhere)
      where
        by : (b : Bool) → eq q key ≡ b → eq q key ≡ false
        by true e = absurd (let w : None ≡ Some first = sym is ∙ has_first q e in cc)
        by false e = e
    found_other q (Some n) is =
        let within : n < length keys = subst (λ (o : Option ℕ). IfSome o (λ m. m < length keys)) is (placed.within q) in
        ap (λ (there : Option K). cond (is_there eq q there) (Some n) (lookup (is_at (cmp q)) grown))
        (still_there keys key n within)
        ∙ ap (λ (o : Option ℕ). cond (is_there eq q (slice_get keys n)) (Some n) o)
        (put q ∙ ap (λ b. cond b (Some (length keys)) (lookup (is_at (cmp q)) others)) (turned q))
        ∙ among q n is (eq q key) (is_there eq q (slice_get keys n)) refl refl
        ∙ sym (more q (eq q key) refl)

    behind_other : (q : K) → first_place mark firsts q ≡ None → lookup (is_at (cmp q)) grown ≡ None
    behind_other q none = put q ∙ by (eq q key) refl
      where
        by : (b : Bool) → eq q key ≡ b
            → cond (is_at (cmp key) q) (Some (length keys)) (lookup (is_at (cmp q)) others) ≡ None
        by true e = absurd (let w : None ≡ Some first = sym none ∙ has_first q e in cc)
        by false e = ap (λ b. cond b (Some (length keys)) (lookup (is_at (cmp q)) others)) (turned q ∙ e)
            ∙ placed.behind q none

    pub placed_other : ArePlaced cmp eq mark (keys ++ key ∷ []) firsts grown
    placed_other = record {
      found = λ q. found_other q (first_place mark firsts q) refl;
      within = λ q. more_within keys key (first_place mark firsts q) (placed.within q);
      behind = behind_other;
    }

-- ---- entries

-- one more key
pub keys_more : {K V : Type 0} (es : List (K × V)) (key : K) (value : V)
    → keys_of (es ++ (key, value) ∷ []) ≡ keys_of es ++ key ∷ []
keys_more [] key value = refl
keys_more (e ∷ es) key value = ap (λ (ks : List _). e.0 ∷ ks) (keys_more es key value)

keys_length : {K V : Type 0} (es : List (K × V)) → length (keys_of es) ≡ length es
keys_length [] = refl
keys_length (e ∷ es) = ap suc (keys_length es)

taken_back : {A : Type 0} (xs : List A) (x : A) → take (length xs) (xs ++ x ∷ []) ≡ xs
taken_back [] x = refl
taken_back (y ∷ xs) x = ap (λ (l : List _). y ∷ l) (taken_back xs x)

module _ {K V : Type 0} (cmp : K → K → Ordering) (eq : K → K → Bool) (mark : K → ℕ) (laws : IsEquivalence eq)
    (ties : (x y : K) → eq x y ≡ is_eq (cmp x y)) (one_mark : (x y : K) → eq x y ≡ true → mark x ≡ mark y)
    (es : List (K × V)) (firsts : List (ℕ × ℕ)) (others : List (K × ℕ))
    (placed : ArePlaced cmp eq mark (keys_of es) firsts others)
    (key : K) (value : V) (missing : position_from (eq key) 0 (keys_of es) ≡ None)
    (place : ℕ) (behind : place ≡ length es) where
  abbrev grown_by : Bool → List (K × V)
  grown_by b = cond b (es ++ (key, value) ∷ []) (take place (es ++ (key, value) ∷ []))

  back : take place (es ++ (key, value) ∷ []) ≡ es
  back = ap (λ n. take n (es ++ (key, value) ∷ [])) behind ∙ taken_back es (key, value)

  at_place : place ≡ length (keys_of es)
  at_place = behind ∙ sym (keys_length es)

  -- the entries with the new one, or without it
  pub entries_are : (b : Bool) (last : List (K × V)) → last ≡ grown_by b
      → last ≡ cond b (es ++ (key, value) ∷ []) es
  entries_are true last is = is
  entries_are false last is = is ∙ back

  pub placed_with_first : {E : Type 0} (r : Result ⊤ E) (grown : List (ℕ × ℕ)) (last : List (K × V))
      → first_place mark firsts key ≡ None
      → OnOk r ((m : ℕ) → lookup (is_at (nat_cmp m)) grown
      ≡ cond (is_at (nat_cmp (mark key)) m) (Some place) (lookup (is_at (nat_cmp m)) firsts))
      → OnErr r (grown ≡ firsts) → last ≡ grown_by (is_ok r) → ArePlaced cmp eq mark (keys_of last) grown others
  placed_with_first (Ok x) grown last alone put unchanged is =
      subst (λ (ks : List K). ArePlaced cmp eq mark ks grown others) (sym (ap keys_of is ∙ keys_more es key value))
      (placed_first cmp eq mark laws ties one_mark (keys_of es) firsts others placed key missing grown alone
      (λ m. put m
      ∙ ap (λ n. cond (is_at (nat_cmp (mark key)) m) (Some n) (lookup (is_at (nat_cmp m)) firsts)) at_place))
  placed_with_first (Err e) grown last alone put unchanged is =
      subst (λ (p : List (K × V) × List (ℕ × ℕ)). ArePlaced cmp eq mark (keys_of p.0) p.1 others)
      (λ i. (sym (is ∙ back) i, sym unchanged i)) placed

  pub placed_with_other : {E : Type 0} (r : Result ⊤ E) (grown : List (K × ℕ)) (last : List (K × V)) (first : ℕ)
      → first_place mark firsts key ≡ Some first
      → OnOk r ((q : K) → lookup (is_at (cmp q)) grown
      ≡ cond (is_at (cmp key) q) (Some place) (lookup (is_at (cmp q)) others))
      → OnErr r (grown ≡ others) → last ≡ grown_by (is_ok r) → ArePlaced cmp eq mark (keys_of last) firsts grown
  placed_with_other (Ok x) grown last first shared put unchanged is =
      subst (λ (ks : List K). ArePlaced cmp eq mark ks firsts grown) (sym (ap keys_of is ∙ keys_more es key value))
      (placed_other cmp eq mark laws ties one_mark (keys_of es) firsts others placed key missing grown first shared
      (λ q. put q ∙ ap (λ n. cond (is_at (cmp key) q) (Some n) (lookup (is_at (cmp q)) others)) at_place))
  placed_with_other (Err e) grown last first shared put unchanged is =
      subst (λ (p : List (K × V) × List (K × ℕ)). ArePlaced cmp eq mark (keys_of p.0) firsts p.1)
      (λ i. (sym (is ∙ back) i, sym unchanged i)) placed

-- Names by groups, and what an earlier mapping gives of them.
use Rattle.std.proofs.Common.{◌≡◌, ℕ, Bool, true, false, cond, ◌&&◌, ◌||◌, List, [], ◌∷◌, ◌++◌, map, filter}
use Rattle.std.proofs.Common.{Option, Some, None, Result, OnOk, is_some, refl, sym, ap, subst, ◌∙◌}
use Rattle.std.specs.Cmp.{IsEquivalence}
use Rattle.std.specs.List.{list_any}
use Rattle.std.specs.Map.{keys_of, lookup}
use Rattle.std.proofs.lemmas.Bool.{or_parts}
use Rattle.std.proofs.lemmas.List.{append-nil, map-append}
use Rattle.std.proofs.lemmas.List.Elements.{filter-append}
use Rattle.std.proofs.lemmas.List.Sums.{fold_push}
use Rattle.std.proofs.lemmas.Result.{on_ok_weaker}
use Rattle.indexmap.specs.IndexMap.{insert_entry}
use Rattle.key_table.proofs.Found.{found_inserted}
use Rattle.jv_base.specs.Names.{is_text}
use Rattle.jv_base.proofs.Equality.{same_text, text_is}
use Rattle.class_rename.specs.Names.{MethodName, is_same_method}
use Rattle.fresh_names.specs.Fresh.{is_taken}
use Rattle.fresh_names.specs.Given.{NameTable, applied, front_of, in_package, news_of, of_type, stays_for, taking}
use Rattle.fresh_names.specs.Given.{with_new}
use Rattle.fresh_names.specs.Reserved.{reserved}
use Rattle.fresh_names.specs.bodies.Giving.{IsApplied, first, in_group}
use Rattle.fresh_names.specs.declared.taken.Named.TheVariants as named
use Rattle.fresh_names.proofs.Found.{lookup_last, or_first}
use Rattle.fresh_names.proofs.Reserved.{taken_parts}

-- ---- names with their groups

and_true : (b : Bool) → (b && true) ≡ b
and_true true = refl
and_true false = refl

and_false : (b : Bool) → (b && false) ≡ false
and_false true = refl
and_false false = refl

-- a method is there where its name is among those of its descriptor
pub pair_taken : (ps : List MethodName) (n g : List ℕ) → list_any (is_same_method (n, g)) ps ≡ is_taken (of_type g ps) n
pair_taken [] n g = refl
pair_taken (p ∷ ps) n g = by (is_text g p.1) (pair_taken ps n g)
  where
    by : (c : Bool) → list_any (is_same_method (n, g)) ps ≡ is_taken (of_type g ps) n
        → ((is_text n p.0 && c) || list_any (is_same_method (n, g)) ps)
        ≡ is_taken (map (λ (m : MethodName). m.0) (cond c (p ∷ filter (λ (m : MethodName). is_text g m.1) ps)
        (filter (λ (m : MethodName). is_text g m.1) ps))) n
    by true rest = (λ i. and_true (is_text n p.0) i || rest i)
    by false rest = ap (λ (b : Bool). b || list_any (is_same_method (n, g)) ps) (and_false (is_text n p.0)) ∙ rest

-- what stays or was given, in parts
pub skipped_parts : (stays : List (List ℕ)) (news : List MethodName) (n g : List ℕ)
    → is_taken (stays ++ of_type g news) n ≡ (is_taken stays n || list_any (is_same_method (n, g)) news)
skipped_parts stays news n g =
    taken_parts stays (of_type g news) n ∙ ap (λ (b : Bool). is_taken stays n || b) (sym (pair_taken news n g))

-- the name of a method stays where it is fixed for its descriptor, or reserved
pub stays_by_parts : (fixed : List MethodName) (m : MethodName)
    → is_taken (stays_for fixed m.1) m.0 ≡ (list_any (is_same_method m) fixed || is_taken (reserved named.Method) m.0)
stays_by_parts fixed m =
    taken_parts (of_type m.1 fixed) (reserved named.Method) m.0
    ∙ ap (λ (b : Bool). b || is_taken (reserved named.Method) m.0) (sym (pair_taken fixed m.0 m.1))

-- one more pair
pub of_type_more : (g : List ℕ) (ps : List MethodName) (p : MethodName) (b : Bool) → is_text g p.1 ≡ b
    → of_type g (ps ++ p ∷ []) ≡ of_type g ps ++ cond b (p.0 ∷ []) []
of_type_more g ps p b e =
    ap (map (λ (m : MethodName). m.0)) (filter-append (λ (m : MethodName). is_text g m.1) ps (p ∷ []))
    ∙ map-append (λ (m : MethodName). m.0) (filter (λ (m : MethodName). is_text g m.1) ps)
    (cond (is_text g p.1) (p ∷ []) [])
    ∙ ap (λ (c : Bool). of_type g ps ++ map (λ (m : MethodName). m.0) (cond c (p ∷ []) [])) e
    ∙ ap (λ (l : List (List ℕ)). of_type g ps ++ l) (out b)
  where
    out : (c : Bool) → map (λ (m : MethodName). m.0) (cond c (p ∷ []) []) ≡ cond c (p.0 ∷ []) []
    out true = refl
    out false = refl

-- names of a package, as names with their groups
pub packaged : (front : List ℕ) (names : List (List ℕ))
    → of_type front (map (λ (a : List ℕ). (a, front_of a)) names) ≡ in_package front names
packaged front [] = refl
packaged front (a ∷ names) = by (is_text front (front_of a)) (packaged front names)
  where
    by : (b : Bool) → of_type front (map (λ (a : List ℕ). (a, front_of a)) names) ≡ in_package front names
        → map (λ (m : MethodName). m.0)
        (cond b ((a, front_of a) ∷ filter (λ (m : MethodName). is_text front m.1) (map (λ a. (a, front_of a)) names))
        (filter (λ (m : MethodName). is_text front m.1) (map (λ a. (a, front_of a)) names)))
        ≡ cond b (a ∷ in_package front names) (in_package front names)
    by true rest = ap (λ (l : List (List ℕ)). a ∷ l) rest
    by false rest = rest

-- all names, as those of one group
pub in_one_group : (names : List (List ℕ)) → of_type [] (map (λ (a : List ℕ). (a, [])) names) ≡ names
in_one_group [] = refl
in_one_group (a ∷ names) = ap (λ (l : List (List ℕ)). a ∷ l) (in_one_group names)

-- ---- tables

-- a name has an entry where it is one of the old names
pub key_found : (t : NameTable) (a : List ℕ) → is_some (lookup (is_text a) t) ≡ is_taken (keys_of t) a
key_found [] a = refl
key_found (e ∷ t) a = by (is_text a e.0) (key_found t a)
  where
    by : (b : Bool) → is_some (lookup (is_text a) t) ≡ is_taken (keys_of t) a
        → is_some (cond b (Some e.1) (lookup (is_text a) t)) ≡ (b || is_taken (keys_of t) a)
    by true rest = refl
    by false rest = rest

pub none_of : {V : Type 0} (o : Option V) → is_some o ≡ false → o ≡ None
none_of None e = refl
none_of (Some v) e = absurd cc

kept_first : {V : Type 0} (o : Option V) → or_first o None ≡ o
kept_first None = refl
kept_first (Some v) = refl

module _ {K : Type 0} (same : K → K → Bool) (laws : IsEquivalence same) (pair : K → MethodName)
    (apart : (a b : K) → same a b ≡ is_same_method (pair a) (pair b)) where
  -- a table that tells each group's is one still with an entry more, where that is a new one of its group
  pub more_found : (table : List (K × List ℕ)) (before behind : List ℕ → NameTable) (x : K) (v : List ℕ)
      → ((k : K) → lookup (same k) table ≡ lookup (is_text (pair k).0) (before (pair k).1))
      → is_some (lookup (same x) table) ≡ false
      → behind (pair x).1 ≡ before (pair x).1 ++ ((pair x).0, v) ∷ []
      → ((p : List ℕ) → is_text p (pair x).1 ≡ false → behind p ≡ before p)
      → (k : K) → lookup (same k) (insert_entry same table x v) ≡ lookup (is_text (pair k).0) (behind (pair k).1)
  more_found table before behind x v tells isnt here there k =
      found_inserted same laws table x v k
      ∙ ap (λ (b : Bool). cond b (Some v) (lookup (same k) table)) (apart k x)
      ∙ by (is_text (pair k).0 (pair x).0) refl (is_text (pair k).1 (pair x).1) refl
    where
      end : (c : Bool) → is_text (pair k).0 (pair x).0 ≡ c → (pair k).1 ≡ (pair x).1
          → cond c (Some v) (lookup (same k) table)
          ≡ or_first (lookup (is_text (pair k).0) (before (pair x).1)) (cond c (Some v) None)
      end true e g = sym (ap (λ (o : Option (List ℕ)). or_first o (Some v))
          (ap (λ (n : List ℕ). lookup (is_text n) (before (pair x).1)) (same_text (pair k).0 (pair x).0 e)
          ∙ sym (tells x) ∙ none_of (lookup (same x) table) isnt))
      end false e g = tells k ∙ ap (λ (p : List ℕ). lookup (is_text (pair k).0) (before p)) g
          ∙ sym (kept_first (lookup (is_text (pair k).0) (before (pair x).1)))

      by : (c : Bool) → is_text (pair k).0 (pair x).0 ≡ c → (b : Bool) → is_text (pair k).1 (pair x).1 ≡ b
          → cond (c && b) (Some v) (lookup (same k) table) ≡ lookup (is_text (pair k).0) (behind (pair k).1)
      by c e true f =
          let g = same_text (pair k).1 (pair x).1 f in
          ap (λ (b : Bool). cond b (Some v) (lookup (same k) table)) (and_true c) ∙ end c e g
          ∙ ap (λ (b : Bool). or_first (lookup (is_text (pair k).0) (before (pair x).1)) (cond b (Some v) None)) (sym e)
          ∙ sym (lookup_last (is_text (pair k).0) (before (pair x).1) ((pair x).0, v))
          ∙ ap (lookup (is_text (pair k).0)) (sym here)
          ∙ ap (λ (p : List ℕ). lookup (is_text (pair k).0) (behind p)) (sym g)
      by c e false f =
          ap (λ (b : Bool). cond b (Some v) (lookup (same k) table)) (and_false c) ∙ tells k
          ∙ ap (lookup (is_text (pair k).0)) (sym (there (pair k).1 f))

  -- the names of a group with one key more
  pub group_more : (g : List ℕ) (done : List K) (x : K) (b : Bool) → is_text g (pair x).1 ≡ b
      → in_group pair g (done ++ x ∷ []) ≡ in_group pair g done ++ cond b ((pair x).0 ∷ []) []
  group_more g done x b e = ap (of_type g) (map-append pair done (x ∷ [])) ∙ of_type_more g (map pair done) (pair x) b e

  -- and of another group
  pub other_group : (g : List ℕ) (done : List K) (x : K) → is_text g (pair x).1 ≡ false
      → in_group pair g (done ++ x ∷ []) ≡ in_group pair g done
  other_group g done x e = group_more g done x false e ∙ append-nil (in_group pair g done)

-- ---- what the earlier mapping gives

-- one name more, by cases
module _ (old : List ℕ → Option (List ℕ)) (stays : List (List ℕ)) (t : NameTable) (n : List ℕ) where
  pub taken_before : (is_taken stays n || is_taken (keys_of t) n) ≡ true → taking old stays t n ≡ t
  taken_before e = ap (λ (b : Bool). cond b t (with_new old stays t n (old n))) e

  pub not_told : old n ≡ None → taking old stays t n ≡ t
  not_told e = ap (λ (o : Option (List ℕ)). cond (is_taken stays n || is_taken (keys_of t) n) t
      (with_new old stays t n o)) e ∙ same (is_taken stays n || is_taken (keys_of t) n)
    where
      same : (b : Bool) → cond b t t ≡ t
      same true = refl
      same false = refl

  module _ (v : List ℕ) (told : old n ≡ Some v) where
    pub taken_new : (is_taken stays v || is_taken (news_of t) v) ≡ true → taking old stays t n ≡ t
    taken_new e =
        ap (λ (o : Option (List ℕ)). cond (is_taken stays n || is_taken (keys_of t) n) t (with_new old stays t n o)) told
        ∙ ap (λ (b : Bool). cond (is_taken stays n || is_taken (keys_of t) n) t (cond b t (t ++ (n, v) ∷ []))) e
        ∙ same (is_taken stays n || is_taken (keys_of t) n)
      where
        same : (b : Bool) → cond b t t ≡ t
        same true = refl
        same false = refl

    pub is_new : (is_taken stays n || is_taken (keys_of t) n) ≡ false
        → (is_taken stays v || is_taken (news_of t) v) ≡ false → taking old stays t n ≡ t ++ (n, v) ∷ []
    is_new e f =
        ap (λ (b : Bool). cond b t (with_new old stays t n (old n))) e
        ∙ ap (with_new old stays t n) told
        ∙ ap (λ (b : Bool). cond b t (t ++ (n, v) ∷ [])) f

module _ {K : Type 0} (same : K → K → Bool) (laws : IsEquivalence same) (pair : K → MethodName)
    (apart : (a b : K) → same a b ≡ is_same_method (pair a) (pair b))
    (told : List ℕ → List ℕ → Option (List ℕ)) (stays : List ℕ → List (List ℕ)) where
  abbrev Applied : List K → List (K × List ℕ) → List MethodName → Type 0
  Applied done table news = IsApplied same pair told stays done table news

  pub none_applied : Applied [] [] []
  none_applied = record { found = λ k. refl; taken = λ group name. refl }

  module _ (done : List K) (x : K) where
    first_other : (p : List ℕ) → is_text p (pair x).1 ≡ false
        → first pair told stays p (done ++ x ∷ []) ≡ first pair told stays p done
    first_other p e = ap (applied (told p) (stays p)) (other_group same laws pair apart p done x e)

    first_more : first pair told stays (pair x).1 (done ++ x ∷ [])
        ≡ taking (told (pair x).1) (stays (pair x).1) (first pair told stays (pair x).1 done) (pair x).0
    first_more =
        ap (applied (told (pair x).1) (stays (pair x).1))
        (group_more same laws pair apart (pair x).1 done x true (text_is (pair x).1 (pair x).1 refl))
        ∙ fold_push (taking (told (pair x).1) (stays (pair x).1)) [] (in_group pair (pair x).1 done) (pair x).0

    -- where nothing is given in its own group, nothing is given
    pub nothing_applied : (table : List (K × List ℕ)) (news : List MethodName)
        → taking (told (pair x).1) (stays (pair x).1) (first pair told stays (pair x).1 done) (pair x).0
        ≡ first pair told stays (pair x).1 done
        → Applied done table news → Applied (done ++ x ∷ []) table news
    nothing_applied table news none g = record {
      found = λ k. g.found k ∙ ap (lookup (is_text (pair k).0)) (sym (all (pair k).1));
      taken = λ p a. g.taken p a ∙ ap (λ (t : NameTable). is_taken (news_of t) a) (sym (all p));
    }
      where
        all : (p : List ℕ) → first pair told stays p (done ++ x ∷ []) ≡ first pair told stays p done
        all p = by (is_text p (pair x).1) refl
          where
            by : (b : Bool) → is_text p (pair x).1 ≡ b
                → first pair told stays p (done ++ x ∷ []) ≡ first pair told stays p done
            by true e =
                let q = same_text p (pair x).1 e in
                ap (λ (r : List ℕ). first pair told stays r (done ++ x ∷ [])) q ∙ first_more ∙ none
                ∙ ap (λ (r : List ℕ). first pair told stays r done) (sym q)
            by false e = first_other p e

    module _ (table : List (K × List ℕ)) (news : List MethodName) (g : Applied done table news) where
      -- a key is in the table where its name is in that of its group
      pub key_there : is_some (lookup (same x) table) ≡ is_taken (keys_of (first pair told stays (pair x).1 done)) (pair x).0
      key_there = ap is_some (g.found x) ∙ key_found (first pair told stays (pair x).1 done) (pair x).0

      -- a name that has an entry, or stays, gets nothing
      pub has_one : (is_some (lookup (same x) table) || is_taken (stays (pair x).1) (pair x).0) ≡ true
          → Applied (done ++ x ∷ []) table news
      has_one e = nothing_applied table news
          (taken_before (told (pair x).1) (stays (pair x).1) (first pair told stays (pair x).1 done) (pair x).0
          (sym (turned (is_some (lookup (same x) table)) (is_taken (stays (pair x).1) (pair x).0)
          (is_taken (keys_of (first pair told stays (pair x).1 done)) (pair x).0) key_there) ∙ e)) g
        where
          turned : (a b c : Bool) → a ≡ c → (a || b) ≡ (b || c)
          turned true true c is = refl
          turned true false c is = is
          turned false true c is = refl
          turned false false c is = is

      -- nor is a name given that stays, or was given
      pub not_free : (v : List ℕ) → told (pair x).1 (pair x).0 ≡ Some v
          → (is_taken (stays (pair x).1) v || list_any (is_same_method (v, (pair x).1)) news) ≡ true
          → Applied (done ++ x ∷ []) table news
      not_free v tells e = nothing_applied table news
          (taken_new (told (pair x).1) (stays (pair x).1) (first pair told stays (pair x).1 done) (pair x).0 v tells
          (ap (λ (b : Bool). is_taken (stays (pair x).1) v || b) (sym (pair_taken news v (pair x).1 ∙ g.taken (pair x).1 v))
          ∙ e)) g

      -- else the entry is one more
      pub one_applied : (v : List ℕ) → told (pair x).1 (pair x).0 ≡ Some v
          → (is_some (lookup (same x) table) || is_taken (stays (pair x).1) (pair x).0) ≡ false
          → (is_taken (stays (pair x).1) v || list_any (is_same_method (v, (pair x).1)) news) ≡ false
          → Applied (done ++ x ∷ []) (insert_entry same table x v) (news ++ (v, (pair x).1) ∷ [])
      one_applied v tells unnamed free = record {
        found = more_found same laws pair apart table (λ p. first pair told stays p done)
            (λ p. first pair told stays p (done ++ x ∷ [])) x v g.found
            (or_parts (is_some (lookup (same x) table)) (is_taken (stays (pair x).1) (pair x).0) unnamed).0
            grown first_other;
        taken = λ p a. by p a (is_text p (pair x).1) refl;
      }
        where
          settled : (is_taken (stays (pair x).1) (pair x).0
              || is_taken (keys_of (first pair told stays (pair x).1 done)) (pair x).0) ≡ false
          settled =
              let parts = or_parts (is_some (lookup (same x) table)) (is_taken (stays (pair x).1) (pair x).0) unnamed in
              (λ i. parts.1 i || is_taken (keys_of (first pair told stays (pair x).1 done)) (pair x).0)
              ∙ sym key_there ∙ parts.0

          grown : first pair told stays (pair x).1 (done ++ x ∷ [])
              ≡ first pair told stays (pair x).1 done ++ ((pair x).0, v) ∷ []
          grown = first_more
              ∙ is_new (told (pair x).1) (stays (pair x).1) (first pair told stays (pair x).1 done) (pair x).0 v tells
              settled (ap (λ (b : Bool). is_taken (stays (pair x).1) v || b)
              (sym (pair_taken news v (pair x).1 ∙ g.taken (pair x).1 v)) ∙ free)

          by : (p a : List ℕ) (b : Bool) → is_text p (pair x).1 ≡ b
              → is_taken (of_type p (news ++ (v, (pair x).1) ∷ [])) a
              ≡ is_taken (news_of (first pair told stays p (done ++ x ∷ []))) a
          by p a true e =
              let q = same_text p (pair x).1 e in
              ap (λ (l : List (List ℕ)). is_taken l a) (of_type_more p news (v, (pair x).1) true e)
              ∙ taken_parts (of_type p news) (v ∷ []) a
              ∙ ap (λ (b : Bool). b || is_taken (v ∷ []) a) (g.taken p a)
              ∙ sym (taken_parts (news_of (first pair told stays p done)) (v ∷ []) a)
              ∙ ap (λ (r : List ℕ). is_taken (news_of (first pair told stays r done) ++ v ∷ []) a) q
              ∙ ap (λ (l : List (List ℕ)). is_taken l a)
              (sym (map-append (λ (e : List ℕ × List ℕ). e.1) (first pair told stays (pair x).1 done)
              (((pair x).0, v) ∷ [])))
              ∙ ap (λ (t : NameTable). is_taken (news_of t) a) (sym grown)
              ∙ ap (λ (r : List ℕ). is_taken (news_of (first pair told stays r (done ++ x ∷ []))) a) (sym q)
          by p a false e =
              ap (λ (l : List (List ℕ)). is_taken l a)
              (of_type_more p news (v, (pair x).1) false e ∙ append-nil (of_type p news))
              ∙ g.taken p a
              ∙ ap (λ (t : NameTable). is_taken (news_of t) a) (sym (first_other p e))

-- the same by steps, as code does it
module _ {K : Type 0} (same : K → K → Bool) (laws : IsEquivalence same) (pair : K → MethodName)
    (apart : (a b : K) → same a b ≡ is_same_method (pair a) (pair b))
    (told : List ℕ → List ℕ → Option (List ℕ)) (stays : List ℕ → List (List ℕ)) (done : List K) (x : K)
    (table : List (K × List ℕ)) (news : List MethodName) (member new : MethodName)
    (is_member : member ≡ pair x) (group : new.1 ≡ member.1) (tells : told member.1 member.0 ≡ Some new.0)
    (has given : Bool) (has_is : has ≡ (is_some (lookup (same x) table) || is_taken (stays member.1) member.0))
    (given_is : given ≡ (is_taken (stays new.1) new.0 || list_any (is_same_method new) news)) where
  in_group_of : new ≡ (new.0, (pair x).1)
  in_group_of = λ i. (new.0, (group ∙ ap (λ (m : MethodName). m.1) is_member) i)

  told_so : told (pair x).1 (pair x).0 ≡ Some new.0
  told_so = ap (λ (m : MethodName). told m.1 m.0) (sym is_member) ∙ tells

  has_so : has ≡ (is_some (lookup (same x) table) || is_taken (stays (pair x).1) (pair x).0)
  has_so = has_is ∙ ap (λ (m : MethodName). is_some (lookup (same x) table) || is_taken (stays m.1) m.0) is_member

  given_so : given ≡ (is_taken (stays (pair x).1) new.0 || list_any (is_same_method (new.0, (pair x).1)) news)
  given_so = given_is
      ∙ ap (λ (m : MethodName). is_taken (stays m.1) m.0 || list_any (is_same_method m) news) in_group_of

  pub applied_or_not : (has || given) ≡ true → IsApplied same pair told stays done table news
      → IsApplied same pair told stays (done ++ x ∷ []) table news
  applied_or_not either g = by has refl
    where
      by : (b : Bool) → has ≡ b → IsApplied same pair told stays (done ++ x ∷ []) table news
      by true e = has_one same laws pair apart told stays done x table news g (sym has_so ∙ e)
      by false e = not_free same laws pair apart told stays done x table news g new.0 told_so
          (sym given_so ∙ ap (λ (b : Bool). b || given) (sym e) ∙ either)

  pub applied_by_steps : {T E : Type 0} → (has || given) ≡ false → IsApplied same pair told stays done table news
      → (grown : List (K × List ℕ)) (more : List MethodName) (r : Result T E)
      → grown ≡ insert_entry same table x new.0 → OnOk r (more ≡ news ++ new ∷ [])
      → OnOk r (IsApplied same pair told stays (done ++ x ∷ []) grown more)
  applied_by_steps neither g grown more r grows adds =
      let parts = or_parts has given neither in
      on_ok_weaker r (λ added.
      subst (λ (t : List (K × List ℕ)). IsApplied same pair told stays (done ++ x ∷ []) t more) (sym grows)
      (subst (λ (n : List MethodName). IsApplied same pair told stays (done ++ x ∷ [])
      (insert_entry same table x new.0) n)
      (ap (λ (m : MethodName). news ++ m ∷ []) (sym in_group_of) ∙ sym added)
      (one_applied same laws pair apart told stays done x table news g new.0 told_so
      (sym has_so ∙ parts.0) (sym given_so ∙ parts.1)))) adds

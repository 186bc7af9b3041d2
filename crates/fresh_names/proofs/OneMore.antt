-- One fresh name more is given.
use Rattle.std.proofs.Common.{◌≡◌, ℕ, ◌+◌, Bool, true, false, cond, ◌||◌, List, [], ◌∷◌, ◌++◌, Option, Some, None}
use Rattle.std.proofs.Common.{is_some, append_assoc, map, refl, sym, ap, subst, Result, OnOk, ◌∙◌}
use Rattle.std.specs.Prelude.{nat_eq}
use Rattle.std.specs.Cmp.{IsEquivalence}
use Rattle.std.specs.Cmp.Lexicographic.{nat_list_eq_equiv, pointwise}
use Rattle.std.specs.Map.{keys_of, lookup}
use Rattle.std.proofs.lemmas.Bool.{or_parts}
use Rattle.std.proofs.lemmas.List.{append-nil}
use Rattle.std.proofs.lemmas.Result.{on_ok_weaker}
use Rattle.indexmap.specs.IndexMap.{insert_entry}
use Rattle.key_table.proofs.Found.{found_inserted}
use Rattle.jv_base.specs.Names.{is_text}
use Rattle.jv_base.proofs.Equality.{same_text, text_is}
use Rattle.class_rename.specs.Names.{MethodName, is_same_method, or_else}
use Rattle.fresh_names.specs.Fresh.{fresh, given, is_taken, next_free}
use Rattle.fresh_names.specs.Given.{NameTable, news_of, of_type, olds}
use Rattle.fresh_names.specs.bodies.Giving.{HasAll, HasNews, IsApplied, IsGiven, after, first, in_group, number_of, others}
use Rattle.fresh_names.specs.bodies.Giving.{skipped, table_so_far}
use Rattle.fresh_names.proofs.Free.{same_next}
use Rattle.fresh_names.proofs.Found.{after_last, given_found, given_last, or_first}
use Rattle.fresh_names.proofs.Groups.{group_more, key_found, more_found, other_group}
use Rattle.fresh_names.proofs.Once.{olds_new, olds_taken, olds_there}
use Rattle.fresh_names.proofs.Reserved.{taken_parts}

-- what is found in two tables behind each other
pub lookup_parts : (a : List ℕ) (s t : NameTable)
    → lookup (is_text a) (s ++ t) ≡ or_first (lookup (is_text a) s) (lookup (is_text a) t)
lookup_parts a [] t = refl
lookup_parts a (e ∷ s) t = by (is_text a e.0) (lookup_parts a s t)
  where
    by : (b : Bool) → lookup (is_text a) (s ++ t) ≡ or_first (lookup (is_text a) s) (lookup (is_text a) t)
        → cond b (Some e.1) (lookup (is_text a) (s ++ t))
        ≡ or_first (cond b (Some e.1) (lookup (is_text a) s)) (lookup (is_text a) t)
    by true rest = refl
    by false rest = rest

pub some_first : (o p : Option (List ℕ)) → is_some (or_first o p) ≡ (is_some o || is_some p)
some_first None p = refl
some_first (Some v) p = refl

module _ {K : Type 0} (same : K → K → Bool) (laws : IsEquivalence same) (pair : K → MethodName)
    (apart : (a b : K) → same a b ≡ is_same_method (pair a) (pair b))
    (told : List ℕ → List ℕ → Option (List ℕ)) (stays : List ℕ → List (List ℕ)) (front : List ℕ → List ℕ)
    (keys : List K) where
  abbrev Given : List K → List (K × List ℕ) → List (List ℕ × ℕ) → Type 0
  Given done table next = IsGiven same pair told stays front keys done table next

  abbrev firsts : List ℕ → NameTable
  firsts p = first pair told stays p keys

  abbrev settled : List ℕ → List (List ℕ)
  settled p = stays p ++ keys_of (firsts p)

  abbrev skips : List ℕ → List (List ℕ)
  skips p = skipped pair told stays keys p

  abbrev left : List ℕ → List K → List (List ℕ)
  left p done = others pair told stays keys p done

  abbrev so_far : List K → List ℕ → NameTable
  so_far done p = table_so_far pair told stays keys front done p

  -- nothing is given yet but what the earlier mapping gives
  pub none_given : (table : List (K × List ℕ)) (news : List MethodName)
      → IsApplied same pair told stays keys table news → Given [] table []
  unfolding given after Rattle.fresh_names.specs.Given.once
  none_given table news g = record {
    found = λ k. g.found k ∙ ap (lookup (is_text (pair k).0)) (sym (append-nil (firsts (pair k).1)));
    counted = λ p. refl;
  }

  -- what was given is what is to be given
  pub all_given : (table : List (K × List ℕ)) (next : List (List ℕ × ℕ)) → Given keys table next
      → HasAll same pair told stays front keys table
  all_given table next g = g.found

  module _ (done : List K) (table : List (K × List ℕ)) (next : List (List ℕ × ℕ)) (x : K) (g : Given done table next) where
    abbrev n : List ℕ
    n = (pair x).0

    abbrev here : List ℕ
    here = (pair x).1

    -- a key is in the table where it has one from the earlier mapping, or a fresh one
    key_there : is_some (lookup (same x) table) ≡ (is_taken (keys_of (firsts here)) n || is_taken (left here done) n)
    key_there =
        ap is_some (g.found x ∙ lookup_parts n (firsts here) (given (front here) (skips here) 0 (left here done)))
        ∙ some_first (lookup (is_text n) (firsts here))
        (lookup (is_text n) (given (front here) (skips here) 0 (left here done)))
        ∙ (λ i. key_found (firsts here) n i || given_found (front here) (skips here) 0 (left here done) n i)

    grown : in_group pair here (done ++ x ∷ []) ≡ in_group pair here done ++ n ∷ []
    grown = group_more same laws pair apart here done x true (text_is here here refl)

    others_left : (p : List ℕ) → is_text p here ≡ false → left p (done ++ x ∷ []) ≡ left p done
    others_left p e = ap (olds (settled p)) (other_group same laws pair apart p done x e)

    -- a name that stays, or has a new one, changes nothing
    pub gives_nothing : (is_some (lookup (same x) table) || is_taken (stays here) n) ≡ true
        → Given (done ++ x ∷ []) table next
    gives_nothing is = record {
      found = λ k. g.found k ∙ ap (λ (l : List (List ℕ)). lookup (is_text (pair k).0)
          (firsts (pair k).1 ++ given (front (pair k).1) (skips (pair k).1) 0 l)) (sym (all (pair k).1));
      counted = λ p. g.counted p ∙ ap (λ (l : List (List ℕ)). after (front p) (skips p) 0 l) (sym (all p));
    }
      where
        three : (a b c : Bool) → ((b || c) || a) ≡ true → (a || b) ≡ false → c ≡ true
        three true b c h f = absurd cc
        three false true c h f = absurd cc
        three false false true h f = refl
        three false false false h f = h

        mine : (b : Bool) → is_taken (settled here) n ≡ b → left here (done ++ x ∷ []) ≡ left here done
        mine true e = ap (olds (settled here)) grown ∙ olds_taken (settled here) (in_group pair here done) n e
        mine false e = ap (olds (settled here)) grown
            ∙ olds_there (settled here) (in_group pair here done) n
            (three (is_taken (stays here) n) (is_taken (keys_of (firsts here)) n) (is_taken (left here done) n)
            (ap (λ (b : Bool). b || is_taken (stays here) n) (sym key_there) ∙ is)
            (sym (taken_parts (stays here) (keys_of (firsts here)) n) ∙ e))

        all : (p : List ℕ) → left p (done ++ x ∷ []) ≡ left p done
        all p = by (is_text p here) refl
          where
            by : (b : Bool) → is_text p here ≡ b → left p (done ++ x ∷ []) ≡ left p done
            by true e =
                let q = same_text p here e in
                ap (λ (r : List ℕ). left r (done ++ x ∷ [])) q ∙ mine (is_taken (settled here) n) refl
                ∙ ap (λ (r : List ℕ). left r done) (sym q)
            by false e = others_left p e

    -- another name gets the next that is free in its group
    module _ (isnt : (is_some (lookup (same x) table) || is_taken (stays here) n) ≡ false) where
      abbrev number : List ℕ → ℕ
      number p = next_free (front p) (skips p) (number_of next p)

      abbrev new : List ℕ
      new = fresh (front here) (number here)

      unnamed : (is_some (lookup (same x) table) ≡ false) × (is_taken (stays here) n ≡ false)
      unnamed = or_parts (is_some (lookup (same x) table)) (is_taken (stays here) n) isnt

      more : left here (done ++ x ∷ []) ≡ left here done ++ n ∷ []
      more =
          let parts = or_parts (is_taken (keys_of (firsts here)) n) (is_taken (left here done) n)
          (sym key_there ∙ unnamed.0) in
          ap (olds (settled here)) grown
          ∙ olds_new (settled here) (in_group pair here done) n
          (taken_parts (stays here) (keys_of (firsts here)) n
          ∙ (λ i. unnamed.1 i || parts.0 i))
          parts.1

      last : so_far (done ++ x ∷ []) here ≡ so_far done here ++ (n, new) ∷ []
      last =
          ap (λ (l : List (List ℕ)). firsts here ++ given (front here) (skips here) 0 l) more
          ∙ ap (λ (t : NameTable). firsts here ++ t) (given_last (front here) (skips here) 0 (left here done) n)
          ∙ ap (λ (k : ℕ). firsts here ++ (given (front here) (skips here) 0 (left here done)
          ++ (n, fresh (front here) (next_free (front here) (skips here) k)) ∷ [])) (sym (g.counted here))
          ∙ sym (append_assoc (firsts here) (given (front here) (skips here) 0 (left here done)) ((n, new) ∷ []))

      count_by : (p : List ℕ) (b : Bool) → is_text p here ≡ b
          → or_else (cond b (Some (number here + 1)) (lookup (is_text p) next)) 0
          ≡ after (front p) (skips p) 0 (left p (done ++ x ∷ []))
      count_by p true e =
          let q = same_text p here e in
          ap (λ (k : ℕ). next_free (front here) (skips here) k + 1) (g.counted here)
          ∙ sym (after_last (front here) (skips here) 0 (left here done) n)
          ∙ ap (λ (l : List (List ℕ)). after (front here) (skips here) 0 l) (sym more)
          ∙ ap (λ (r : List ℕ). after (front r) (skips r) 0 (left r (done ++ x ∷ []))) (sym q)
      count_by p false e =
          g.counted p ∙ ap (λ (l : List (List ℕ)). after (front p) (skips p) 0 l) (sym (others_left p e))

      pub gives : Given (done ++ x ∷ []) (insert_entry same table x new)
          (insert_entry (pointwise nat_eq) next here (number here + 1))
      gives = record {
        found = more_found same laws pair apart table (so_far done) (so_far (done ++ x ∷ [])) x new g.found unnamed.0 last
            (λ p e. ap (λ (l : List (List ℕ)). firsts p ++ given (front p) (skips p) 0 l) (others_left p e));
        counted = λ p. ap (λ (o : Option ℕ). or_else o 0)
            (found_inserted (pointwise nat_eq) nat_list_eq_equiv next here (number here + 1) p)
            ∙ count_by p (is_text p here) refl;
      }

-- the same by steps, as code does it
module _ {K : Type 0} (same : K → K → Bool) (laws : IsEquivalence same) (pair : K → MethodName)
    (apart : (a b : K) → same a b ≡ is_same_method (pair a) (pair b))
    (told : List ℕ → List ℕ → Option (List ℕ)) (stays : List ℕ → List (List ℕ)) (front : List ℕ → List ℕ)
    (keys done : List K) (table : List (K × List ℕ)) (next : List (List ℕ × ℕ)) (x : K)
    (g : IsGiven same pair told stays front keys done table next) (member : MethodName) (is_member : member ≡ pair x)
  where
    has_so : (b : Bool) → (is_some (lookup (same x) table) || is_taken (stays member.1) member.0) ≡ b
        → (is_some (lookup (same x) table) || is_taken (stays (pair x).1) (pair x).0) ≡ b
    has_so b h = ap (λ (m : MethodName). is_some (lookup (same x) table) || is_taken (stays m.1) m.0) (sym is_member) ∙ h

    pub gives_not : (is_some (lookup (same x) table) || is_taken (stays member.1) member.0) ≡ true
        → IsGiven same pair told stays front keys (done ++ x ∷ []) table next
    gives_not h = gives_nothing same laws pair apart told stays front keys done table next x g (has_so true h)

    pub given_by_steps : {T E : Type 0} → (is_some (lookup (same x) table) || is_taken (stays member.1) member.0) ≡ false
        → (news : List MethodName) → HasNews pair told stays keys news
        → (from : ℕ) → from ≡ number_of next member.1
        → (number : ℕ) → number ≡ next_free (front member.1) (stays member.1 ++ of_type member.1 news) from
        → (start : List ℕ) → start ≡ front member.1 → (name : List ℕ) → name ≡ fresh start number
        → (behind : ℕ) → behind ≡ number + 1 → (grown : List (K × List ℕ)) → grown ≡ insert_entry same table x name
        → (r : Result T E) (later : List (List ℕ × ℕ))
        → OnOk r (later ≡ insert_entry (pointwise nat_eq) next member.1 behind)
        → OnOk r (IsGiven same pair told stays front keys (done ++ x ∷ []) grown later)
    given_by_steps isnt news has from from_is number number_is start start_is name name_is behind behind_is grown grows r
        later counts =
        on_ok_weaker r (λ counted.
        subst (λ (n : List (List ℕ × ℕ)). IsGiven same pair told stays front keys (done ++ x ∷ []) grown n)
        ((λ i. insert_entry (pointwise nat_eq) next (sym here i) (number_so i + 1))
        ∙ ap (insert_entry (pointwise nat_eq) next member.1) (sym behind_is) ∙ sym counted)
        (subst (λ (t : List (K × List ℕ)). IsGiven same pair told stays front keys (done ++ x ∷ []) t
        (insert_entry (pointwise nat_eq) next (pair x).1
        (next_free (front (pair x).1) (skipped pair told stays keys (pair x).1) (number_of next (pair x).1) + 1)))
        (ap (insert_entry same table x)
        ((λ i. fresh (front (sym here i)) (number_so i)) ∙ ap (λ (p : List ℕ). fresh p number) (sym start_is) ∙ sym name_is)
        ∙ sym grows)
        (gives same laws pair apart told stays front keys done table next x g (has_so false isnt)))) counts
      where
        here : member.1 ≡ (pair x).1
        here = ap (λ (m : MethodName). m.1) is_member

        -- only what is skipped matters
        number_so : next_free (front (pair x).1) (skipped pair told stays keys (pair x).1) (number_of next (pair x).1)
            ≡ number
        number_so =
            ap (λ (p : List ℕ). next_free (front p) (skipped pair told stays keys p) (number_of next p)) (sym here)
            ∙ same_next (front member.1) (skipped pair told stays keys member.1) (stays member.1 ++ of_type member.1 news)
            (λ a. taken_parts (stays member.1) (news_of (first pair told stays member.1 keys)) a
            ∙ ap (λ (b : Bool). is_taken (stays member.1) a || b) (sym (has member.1 a))
            ∙ sym (taken_parts (stays member.1) (of_type member.1 news) a)) (number_of next member.1)
            ∙ ap (next_free (front member.1) (stays member.1 ++ of_type member.1 news)) (sym from_is)
            ∙ sym number_is

-- the names of a slice of what a class has
pub same_done : {A B : Type 0} (name : A → B) (done : List B) (slice parts : List A) (whole : List B)
    → slice ≡ parts → done ++ map name parts ≡ whole → done ++ map name slice ≡ whole
same_done name done slice parts whole same is = ap (λ l. done ++ map name l) same ∙ is

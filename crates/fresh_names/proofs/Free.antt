-- What is free is free, and no two names get one (pigeonhole: of m + 1 names one isn't among m).
use Rattle.std.proofs.Common.{◌≡◌, ℕ, zero, suc, ◌+◌, ◌<◌, ◌≤◌, Bool, true, false, cond, ◌||◌, List, [], ◌∷◌, length}
use Rattle.std.proofs.Common.{slice_get, Some, refl, sym, ap, ◌∙◌, arith, ltb-true, ltb-false}
use Rattle.std.specs.Prelude.{nat_lt, nat_eq}
use Rattle.std.specs.List.{list_any}
use Rattle.std.proofs.lemmas.Bool.{eqb-true, eqb-false}
use Rattle.std.proofs.lemmas.List.{append_cancel_left}
use Rattle.std.proofs.lemmas.Option.{same_Some}
use Rattle.jv_base.specs.Names.{is_text}
use Rattle.jv_base.proofs.Equality.{text_Decides}
use Rattle.fresh_names.specs.Fresh.{free_from, fresh, given, is_taken, name_at, next_free}
use Rattle.fresh_names.proofs.Spelling.{one_number}

-- the list without the first place of a name
abbrev without : List ℕ → List (List ℕ) → List (List ℕ)
without name [] = []
without name (t ∷ taken) = cond (is_text name t) taken (t ∷ without name taken)

shorter_step : (n m : ℕ) (b c : Bool) → (b || c) ≡ true → (c ≡ true → suc n ≡ m)
    → (taken : List (List ℕ)) (t : List ℕ) (rest : List (List ℕ)) → length taken ≡ m → length rest ≡ n
    → suc (length (cond b taken (t ∷ rest))) ≡ suc m
shorter_step n m true c is before taken t rest whole part = ap suc whole
shorter_step n m false c is before taken t rest whole part = ap suc (ap suc part ∙ before is)

shorter : (name : List ℕ) (taken : List (List ℕ)) → is_taken taken name ≡ true
    → suc (length (without name taken)) ≡ length taken
shorter name [] is = absurd cc
shorter name (t ∷ taken) is =
    shorter_step (length (without name taken)) (length taken) (is_text name t) (list_any (is_text name) taken) is
    (shorter name taken) taken t (without name taken) refl refl

-- another name is among the rest
still_step : (b c d e : Bool) (rest : List (List ℕ)) (t : List ℕ) (taken : List (List ℕ)) (other : List ℕ)
    → is_text other t ≡ c → (b ≡ true → c ≡ false) → (c || list_any (is_text other) taken) ≡ true
    → (list_any (is_text other) taken ≡ true → list_any (is_text other) rest ≡ true)
    → is_taken (cond b taken (t ∷ rest)) other ≡ true
still_step true true d e rest t taken other at differ is before = absurd (let w : true ≡ false = differ refl in cc)
still_step true false d e rest t taken other at differ is before = is
still_step false true d e rest t taken other at differ is before =
    ap (λ (b : Bool). b || list_any (is_text other) rest) at
still_step false false d e rest t taken other at differ is before =
    ap (λ (b : Bool). b || list_any (is_text other) rest) at ∙ before is

differs : (name other t : List ℕ) → is_text other name ≡ false → is_text name t ≡ true → (b : Bool)
    → is_text other t ≡ b → b ≡ false
differs name other t apart same true e = absurd (
    let p : other ≡ name = (text_Decides other t).0 e ∙ sym ((text_Decides name t).0 same) in
    let w : true ≡ false = sym ((text_Decides other name).1 p) ∙ apart in
    cc)
differs name other t apart same false e = refl

still : (name other : List ℕ) (taken : List (List ℕ)) → is_text other name ≡ false → is_taken taken other ≡ true
    → is_taken (without name taken) other ≡ true
still name other [] apart is = absurd cc
still name other (t ∷ taken) apart is =
    still_step (is_text name t) (is_text other t) true true (without name taken) t taken other refl
    (λ same. differs name other t apart same (is_text other t) refl) is (still name other taken apart)

module _ (front : List ℕ) where
  -- no two numbers have one name
  one_fresh : (m n : ℕ) → fresh front m ≡ fresh front n → m ≡ n
  one_fresh m n same = one_number m n (append_cancel_left front (name_at m) (name_at n) same)

  other_name : (m n : ℕ) → m < n → (b : Bool) → is_text (fresh front n) (fresh front m) ≡ b → b ≡ false
  other_name m n below true e =
      absurd (let same = one_fresh n m ((text_Decides (fresh front n) (fresh front m)).0 e) in
      omega (arith, same, below))
  other_name m n below false e = refl

  -- all names from n on, before n + m, are among these: then these are m at least
  many : (m n : ℕ) (taken : List (List ℕ)) → ((k : ℕ) → k < m → is_taken taken (fresh front (n + k)) ≡ true)
      → m ≤ length taken
  many zero n taken all = omega arith
  many (suc m) n taken all =
      let plain : n ≡ n + 0 = omega arith in
      let first : is_taken taken (fresh front n) ≡ true = ap (λ (k : ℕ). is_taken taken (fresh front k)) plain
      ∙ all 0 (omega arith) in
      let fewer = shorter (fresh front n) taken first in
      let rest = many m (n + 1) (without (fresh front n) taken) (λ k below.
      let next : n + 1 + k ≡ n + suc k = omega arith in
      still (fresh front n) (fresh front (n + 1 + k)) taken
      (let d = other_name n (n + 1 + k) (omega arith) (is_text (fresh front (n + 1 + k)) (fresh front n)) refl in d)
      (ap (λ (j : ℕ). is_taken taken (fresh front j)) next ∙ all (suc k) (omega (arith, below)))) in
      omega (arith, fewer, rest)

  -- what the tries found: all before it are taken, and where tries are left it is free
  pub record Tried (tries : ℕ) (taken : List (List ℕ)) (n found : ℕ) : Type 0 where
    pub from : n ≤ found
    pub within : found ≤ n + tries
    pub skipped : (k : ℕ) → n ≤ k → k < found → is_taken taken (fresh front k) ≡ true
    pub free : found < n + tries → is_taken taken (fresh front found) ≡ false

  skip : (taken : List (List ℕ)) (n found k : ℕ) → is_taken taken (fresh front n) ≡ true
      → ((k : ℕ) → n + 1 ≤ k → k < found → is_taken taken (fresh front k) ≡ true)
      → (same : Bool) → nat_eq k n ≡ same → n ≤ k → k < found → is_taken taken (fresh front k) ≡ true
  skip taken n found k e rest true s a b = ap (λ (j : ℕ). is_taken taken (fresh front j)) (eqb-true k n s) ∙ e
  skip taken n found k e rest false s a b = rest k (let d = eqb-false k n s in grind (arith, d)) b

  tried_step : (tries : ℕ) (taken : List (List ℕ)) (n found : ℕ) → Tried tries taken (n + 1) found → (b : Bool)
      → is_taken taken (fresh front n) ≡ b → Tried (suc tries) taken n (cond b found n)
  tried_step tries taken n found t false e =
      record {
        from = omega arith;
        within = omega arith;
        skipped = λ k a b. absurd (omega (arith, a, b));
        free = λ a. e;
      }
  tried_step tries taken n found t true e = record {
    from = let f = t.from in omega (arith, f);
    within = let w = t.within in omega (arith, w);
    skipped = λ k a b. skip taken n found k e t.skipped (nat_eq k n) refl a b;
    free = λ a. t.free (omega (arith, a));
  }

  pub tried : (tries : ℕ) (taken : List (List ℕ)) (n : ℕ) → Tried tries taken n (free_from front tries taken n)
  unfolding free_from
  tried zero taken n =
      record {
        from = omega arith;
        within = omega arith;
        skipped = λ k a b. absurd (omega (arith, a, b));
        free = λ a. absurd (omega (arith, a));
      }
  tried (suc tries) taken n =
      tried_step tries taken n (free_from front tries taken (n + 1)) (tried tries taken (n + 1))
      (is_taken taken (fresh front n)) refl

  -- ---- what is next is free

  all_taken : (taken : List (List ℕ)) (n found : ℕ) → Tried (length taken) taken n found → found ≡ n + length taken
      → is_taken taken (fresh front found) ≡ true
      → (k : ℕ) (b : Bool) → nat_eq k (length taken) ≡ b → k < suc (length taken)
      → is_taken taken (fresh front (n + k)) ≡ true
  all_taken taken n found t at e k true s below =
      ap (λ (j : ℕ). is_taken taken (fresh front j)) (let d = eqb-true k (length taken) s in omega (arith, d, at)) ∙ e
  all_taken taken n found t at e k false s below =
      t.skipped (n + k) (omega arith) (let d = eqb-false k (length taken) s in grind (arith, d))

  last_free : (taken : List (List ℕ)) (n found : ℕ) → Tried (length taken) taken n found → found ≡ n + length taken
      → (b : Bool) → is_taken taken (fresh front found) ≡ b → b ≡ false
  last_free taken n found t at false e = refl
  last_free taken n found t at true e = absurd (
      let h = many (suc (length taken)) n taken
      (λ k below. all_taken taken n found t at e k (nat_eq k (length taken)) refl below) in
      omega (arith, h))

  free_step : (taken : List (List ℕ)) (n found : ℕ) → Tried (length taken) taken n found → (b : Bool)
      → nat_lt found (n + length taken) ≡ b → is_taken taken (fresh front found) ≡ false
  free_step taken n found t true e = t.free (ltb-true found (n + length taken) e)
  free_step taken n found t false e =
      let h = ltb-false found (n + length taken) e in
      last_free taken n found t (let w = t.within in omega (arith, h, w)) (is_taken taken (fresh front found)) refl

  pub next_is_free : (taken : List (List ℕ)) (n : ℕ) → is_taken taken (fresh front (next_free front taken n)) ≡ false
  next_is_free taken n =
      free_step taken n (next_free front taken n) (tried (length taken) taken n)
      (nat_lt (next_free front taken n) (n + length taken)) refl

  pub next_from : (taken : List (List ℕ)) (n : ℕ) → n ≤ next_free front taken n
  next_from taken n = (tried (length taken) taken n).from

  -- ---- the one that is next

  one_of : (taken : List (List ℕ)) (n found next : ℕ) → n ≤ found → n ≤ next
      → ((k : ℕ) → n ≤ k → k < found → is_taken taken (fresh front k) ≡ true)
      → is_taken taken (fresh front found) ≡ false
      → ((k : ℕ) → n ≤ k → k < next → is_taken taken (fresh front k) ≡ true) → is_taken taken (fresh front next) ≡ false
      → (b : Bool) → nat_lt next found ≡ b → (c : Bool) → nat_lt found next ≡ c → next ≡ found
  one_of taken n found next from then_from all free then_all then_free true e c f = absurd (
      let w : true ≡ false = sym (all next then_from (ltb-true next found e)) ∙ then_free in
      cc)
  one_of taken n found next from then_from all free then_all then_free false e true f = absurd (
      let w : true ≡ false = sym (then_all found from (ltb-true found next f)) ∙ free in
      cc)
  one_of taken n found next from then_from all free then_all then_free false e false f =
      let g = ltb-false next found e in
      let h = ltb-false found next f in
      omega (arith, g, h)

  more_step : (taken : List (List ℕ)) (from number k : ℕ) → is_taken taken (fresh front number) ≡ true
      → ((k : ℕ) → from ≤ k → k < number → is_taken taken (fresh front k) ≡ true) → (b : Bool) → nat_eq k number ≡ b
      → from ≤ k → k ≤ number → is_taken taken (fresh front k) ≡ true
  more_step taken from number k here all true same above below =
      ap (λ (j : ℕ). is_taken taken (fresh front j)) (eqb-true k number same) ∙ here
  more_step taken from number k here all false same above below =
      all k above (let d = eqb-false k number same in grind (arith, d, below))

  -- what isn't taken, where all before it are, is the next
  pub first_free : (taken : List (List ℕ)) (n found : ℕ) → n ≤ found
      → ((k : ℕ) → n ≤ k → k < found → is_taken taken (fresh front k) ≡ true)
      → is_taken taken (fresh front found) ≡ false
      → next_free front taken n ≡ found
  first_free taken n found from all free =
      let t = tried (length taken) taken n in
      one_of taken n found (next_free front taken n) from t.from all free t.skipped (next_is_free taken n)
      (nat_lt (next_free front taken n) found) refl (nat_lt found (next_free front taken n)) refl

  -- one more is taken
  pub more_taken : (taken : List (List ℕ)) (from number next : ℕ) → next ≡ number + 1
      → is_taken taken (fresh front number) ≡ true
      → ((k : ℕ) → from ≤ k → k < number → is_taken taken (fresh front k) ≡ true)
      → (k : ℕ) → from ≤ k → k < next → is_taken taken (fresh front k) ≡ true
  more_taken taken from number next is here all k above below =
      more_step taken from number k here all (nat_eq k number) refl above (omega (arith, is, below))

  -- only what is taken matters, and not in which order
  pub same_next : (taken other : List (List ℕ)) → ((a : List ℕ) → is_taken taken a ≡ is_taken other a) → (n : ℕ)
      → next_free front taken n ≡ next_free front other n
  same_next taken other same n =
      let t = tried (length other) other n in
      first_free taken n (next_free front other n) t.from
      (λ k a b. same (fresh front k) ∙ t.skipped k a b)
      (same (fresh front (next_free front other n)) ∙ next_is_free other n)

  pub same_given : (taken other : List (List ℕ)) → ((a : List ℕ) → is_taken taken a ≡ is_taken other a)
      → (n : ℕ) (olds : List (List ℕ))
      → given front taken n olds ≡ given front other n olds
  unfolding given
  same_given taken other same n [] = refl
  same_given taken other same n (old ∷ olds) =
      (λ i. (old, fresh front (same_next taken other same n i)) ∷ given front taken
      (same_next taken other same n i + 1) olds)
      ∙ ap (λ (l : List (List ℕ × List ℕ)). (old, fresh front (next_free front other n)) ∷ l)
      (same_given taken other same (next_free front other n + 1) olds)

  -- ---- no two names get one, and none gets one that is taken

  -- the number of each new name is at least n, and each name isn't taken
  pub given_free : (taken : List (List ℕ)) (n : ℕ) (olds : List (List ℕ)) (k : ℕ) (e : List ℕ × List ℕ)
      → slice_get (given front taken n olds) k ≡ Some e
      → (m : ℕ) × (n ≤ m) × (e.1 ≡ fresh front m) × (is_taken taken e.1 ≡ false)
  unfolding given
  given_free taken n [] k e at = absurd cc
  given_free taken n (old ∷ olds) zero e at =
      let same : (old, fresh front (next_free front taken n)) ≡ e = same_Some _ _ at in
      let name : e.1 ≡ fresh front (next_free front taken n) = sym (ap (λ (p : List ℕ × List ℕ). p.1) same) in
      (next_free front taken n, next_from taken n, name, ap (is_taken taken) name ∙ next_is_free taken n)
  given_free taken n (old ∷ olds) (suc k) e at =
      let h = given_free taken (next_free front taken n + 1) olds k e at in
      let from = next_from taken n in
      let above = h.1 in
      (h.0, omega (arith, from, above), h.2, h.3)

  pub given_once : (taken : List (List ℕ)) (n : ℕ) (olds : List (List ℕ)) (j k : ℕ) (d e : List ℕ × List ℕ)
      → slice_get (given front taken n olds) j ≡ Some d → slice_get (given front taken n olds) k ≡ Some e
      → d.1 ≡ e.1 → j ≡ k
  unfolding given
  given_once taken n [] j k d e at then_at same = absurd cc
  given_once taken n (old ∷ olds) zero zero d e at then_at same = refl
  given_once taken n (old ∷ olds) zero (suc k) d e at then_at same = absurd (
      let here : (old, fresh front (next_free front taken n)) ≡ d = same_Some _ _ at in
      let h = given_free taken (next_free front taken n + 1) olds k e then_at in
      let one = one_fresh (next_free front taken n) h.0 (ap (λ (p : List ℕ × List ℕ). p.1) here ∙ same ∙ h.2) in
      let above = h.1 in
      omega (arith, one, above))
  given_once taken n (old ∷ olds) (suc j) zero d e at then_at same = absurd (
      let here : (old, fresh front (next_free front taken n)) ≡ e = same_Some _ _ then_at in
      let h = given_free taken (next_free front taken n + 1) olds j d at in
      let one = one_fresh (next_free front taken n) h.0 (ap (λ (p : List ℕ × List ℕ). p.1) here ∙ sym same ∙ h.2) in
      let above = h.1 in
      omega (arith, one, above))
  given_once taken n (old ∷ olds) (suc j) (suc k) d e at then_at same =
      ap suc (given_once taken (next_free front taken n + 1) olds j k d e at then_at same)

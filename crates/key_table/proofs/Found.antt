-- The entry at the place of a key.
use Rattle.std.proofs.Common.{◌≡◌, ℕ, zero, suc, ◌+◌, ◌<◌, Bool, true, false, cond, List, [], ◌∷◌, ◌++◌}
use Rattle.std.proofs.Common.{length, get_or, Option, Some, None, refl, sym, ap, ◌∙◌, arith, ◌||◌, true≢false}
use Rattle.std.specs.Prelude.{slice_get, is_some, IfSome}
use Rattle.std.specs.List.{position, position_from, list_any, slice_set}
use Rattle.std.proofs.lemmas.Iterator.Adapters.{position_from-zero}
use Rattle.std.specs.Cmp.{IsEquivalence}
use Rattle.std.specs.Map.{keys_of, lookup}
use Rattle.std.specs.Option.{option_map, option_or}
use Rattle.std.proofs.lemmas.List.{length-map}
use Rattle.std.proofs.lemmas.Option.{same_Some, slice_get-get_or}
use Rattle.indexmap.specs.IndexMap.{insert_entry}
use Rattle.indexmap.specs.IndexSet.{insert_key}

-- where the first that passes stands, counted from a later number
pub from_later : {K : Type 0} (test : K → Bool) (i : ℕ) (keys : List K)
    → position_from test (i + 1) keys ≡ option_map suc (position_from test i keys)
from_later test i [] = refl
from_later test i (k ∷ keys) = by (test k) (from_later test (i + 1) keys)
  where
    by : (b : Bool) → position_from test (i + 1 + 1) keys ≡ option_map suc (position_from test (i + 1) keys)
        → cond b (Some (i + 1)) (position_from test (i + 1 + 1) keys)
        ≡ option_map suc (cond b (Some i) (position_from test (i + 1) keys))
    by true rest = ap Some (omega arith)
    by false rest = rest

-- the entry of a place, if there is a place
abbrev pub entry_of : {A : Type 0} → List A → Option ℕ → Option A
entry_of entries None = None
entry_of entries (Some n) = slice_get entries n

entry_later : {A : Type 0} (e : A) (es : List A) (place : Option ℕ)
    → entry_of (e ∷ es) (option_map suc place) ≡ entry_of es place
entry_later e es None = refl
entry_later e es (Some n) = refl

module _ {K V : Type 0} (test : K → Bool) where
  -- the value of the first key that passes is that of its entry
  pub value_is : (es : List (K × V)) → lookup test es
      ≡ option_map (λ (e : K × V). e.1) (entry_of es (position_from test 0 (keys_of es)))
  value_is [] = refl
  value_is (e ∷ es) = by (test e.0) (value_is es)
    where
      by : (b : Bool)
          → lookup test es ≡ option_map (λ (e : K × V). e.1) (entry_of es (position_from test 0 (keys_of es)))
          → cond b (Some e.1) (lookup test es)
          ≡ option_map (λ (e : K × V). e.1) (entry_of (e ∷ es) (cond b (Some 0) (position_from test 1 (keys_of es))))
      by true rest = refl
      by false rest = rest
          ∙ ap (option_map (λ (e : K × V). e.1)) (sym (ap (entry_of (e ∷ es)) (from_later test 0 (keys_of es))
          ∙ entry_later e es (position_from test 0 (keys_of es))))

-- one more key stands behind the others
pub position_more : {K : Type 0} (test : K → Bool) (i : ℕ) (keys : List K) (key : K)
    → position_from test i (keys ++ key ∷ [])
    ≡ option_or (position_from test i keys) (cond (test key) (Some (i + length keys)) None)
position_more test i [] key = ap (λ n. cond (test key) (Some n) None) (let e : i ≡ i + 0 = omega arith in e)
position_more test i (k ∷ keys) key = by (test k) (position_more test (i + 1) keys key)
  where
    by : (b : Bool) → position_from test (i + 1) (keys ++ key ∷ [])
        ≡ option_or (position_from test (i + 1) keys) (cond (test key) (Some (i + 1 + length keys)) None)
        → cond b (Some i) (position_from test (i + 1) (keys ++ key ∷ []))
        ≡ option_or (cond b (Some i) (position_from test (i + 1) keys))
        (cond (test key) (Some (i + suc (length keys))) None)
    by true rest = refl
    by false rest = rest ∙ ap (λ n. option_or (position_from test (i + 1) keys) (cond (test key) (Some n) None))
        (let e : i + 1 + length keys ≡ i + suc (length keys) = omega arith in e)

-- a place is one of the list
pub place_within : {K : Type 0} (test : K → Bool) (i : ℕ) (keys : List K) (n : ℕ) → position_from test i keys ≡ Some n
    → n < i + length keys
place_within test i [] n is = absurd cc
place_within test i (k ∷ keys) n is = by (test k) is (place_within test (i + 1) keys n)
  where
    by : (b : Bool) → cond b (Some i) (position_from test (i + 1) keys) ≡ Some n
        → (position_from test (i + 1) keys ≡ Some n → n < i + 1 + length keys) → n < i + suc (length keys)
    by true is rest = let e : i ≡ n = same_Some i n is in omega (arith, e)
    by false is rest = let e = rest is in omega (arith, e)

-- whether one passes
pub there_is : {K : Type 0} (test : K → Bool) (i : ℕ) (keys : List K)
    → is_some (position_from test i keys) ≡ list_any test keys
there_is test i [] = refl
there_is test i (k ∷ keys) = by (test k) (there_is test (i + 1) keys)
  where
    by : (b : Bool) → is_some (position_from test (i + 1) keys) ≡ list_any test keys
        → is_some (cond b (Some i) (position_from test (i + 1) keys)) ≡ (b || list_any test keys)
    by true rest = refl
    by false rest = rest

-- tests that agree on all have one first place
pub alike : {K : Type 0} (test other : K → Bool) (i : ℕ) (keys : List K) → ((k : K) → test k ≡ other k)
    → position_from test i keys ≡ position_from other i keys
alike test other i keys same = ap (λ (t : _ → Bool). position_from t i keys) (λ j k. same k j)

module _ {K V : Type 0} (eq : K → K → Bool) (key : K) (value : V) where
  -- a key that is there takes the value in its place
  pub value_put : (es : List (K × V)) (n : ℕ) (e : K × V) → position_from (eq key) 0 (keys_of es) ≡ Some n
      → slice_get es n ≡ Some e → slice_set es n (e.0, value) ≡ insert_entry eq es key value
  value_put [] n e is there = absurd cc
  value_put (d ∷ es) n e is there = by (eq key d.0) (position_from (eq key) 0 (keys_of es)) refl
      (sym (ap (λ (o : Option ℕ). cond (eq key d.0) (Some 0) o) (from_later (eq key) 0 (keys_of es))) ∙ is)
      (λ m at t. value_put es m e at t)
    where
      by : (b : Bool) (o : Option ℕ) → position_from (eq key) 0 (keys_of es) ≡ o
          → cond b (Some 0) (option_map suc o) ≡ Some n
          → ((m : ℕ) → position_from (eq key) 0 (keys_of es) ≡ Some m → slice_get es m ≡ Some e
          → slice_set es m (e.0, value) ≡ insert_entry eq es key value)
          → slice_set (d ∷ es) n (e.0, value) ≡ cond b ((d.0, value) ∷ es) (d ∷ insert_entry eq es key value)
      by true o at h rest = at_first n (sym (same_Some 0 n h)) there
        where
          at_first : (n : ℕ) → n ≡ 0 → slice_get (d ∷ es) n ≡ Some e
              → slice_set (d ∷ es) n (e.0, value) ≡ (d.0, value) ∷ es
          at_first zero z t = ap (λ (k : K). (k, value) ∷ es) (sym (ap (λ (p : K × V). p.0) (same_Some d e t)))
          at_first (suc m) z t = absurd (omega (arith, z))
      by false None at h rest = absurd cc
      by false (Some m) at h rest = later n (sym (same_Some (suc m) n h)) there
        where
          later : (n : ℕ) → n ≡ suc m → slice_get (d ∷ es) n ≡ Some e
              → slice_set (d ∷ es) n (e.0, value) ≡ d ∷ insert_entry eq es key value
          later zero z t = absurd (omega (arith, z))
          later (suc l) z t =
              let same : m ≡ l = omega (arith, z) in
              ap (λ (xs : List (K × V)). d ∷ xs) (rest l (at ∙ ap Some same) t)

  -- a new key goes behind the others
  pub value_new : (es : List (K × V)) → position_from (eq key) 0 (keys_of es) ≡ None
      → insert_entry eq es key value ≡ es ++ (key, value) ∷ []
  value_new [] is = refl
  value_new (d ∷ es) is = by (eq key d.0) (position_from (eq key) 0 (keys_of es)) refl
      (sym (ap (λ (o : Option ℕ). cond (eq key d.0) (Some 0) o) (from_later (eq key) 0 (keys_of es))) ∙ is)
      (λ at. value_new es at)
    where
      by : (b : Bool) (o : Option ℕ) → position_from (eq key) 0 (keys_of es) ≡ o
          → cond b (Some 0) (option_map suc o) ≡ None
          → (position_from (eq key) 0 (keys_of es) ≡ None → insert_entry eq es key value ≡ es ++ (key, value) ∷ [])
          → cond b ((d.0, value) ∷ es) (d ∷ insert_entry eq es key value) ≡ d ∷ (es ++ (key, value) ∷ [])
      by true o at h rest = absurd cc
      by false None at h rest = ap (λ (xs : List (K × V)). d ∷ xs) (rest at)
      by false (Some m) at h rest = absurd cc

  -- keys stay in their places
  pub keys_stay : (es : List (K × V)) (n : ℕ) (e : K × V) → slice_get es n ≡ Some e
      → keys_of (slice_set es n (e.0, value)) ≡ keys_of es
  keys_stay [] n e there = refl
  keys_stay (d ∷ es) zero e there =
      ap (λ (k : K). k ∷ keys_of es) (sym (ap (λ (p : K × V). p.0) (same_Some d e there)))
  keys_stay (d ∷ es) (suc n) e there = ap (λ (ks : List K). d.0 ∷ ks) (keys_stay es n e there)

-- keys without values
pub keys_inserted : {K V : Type 0} (eq : K → K → Bool) (es : List (K × V)) (key : K) (value : V)
    → keys_of (insert_entry eq es key value) ≡ insert_key eq (keys_of es) key
keys_inserted eq [] key value = refl
keys_inserted {K} {V} eq (e ∷ es) key value =
    by (eq key e.0) (list_any (eq key) (keys_of es)) refl (keys_inserted eq es key value)
  where
    by : (b c : Bool) → list_any (eq key) (keys_of es) ≡ c
        → keys_of (insert_entry eq es key value) ≡ insert_key eq (keys_of es) key
        → keys_of (cond b ((e.0, value) ∷ es) (e ∷ insert_entry eq es key value))
        ≡ cond (b || list_any (eq key) (keys_of es)) (e.0 ∷ keys_of es) (e.0 ∷ (keys_of es ++ key ∷ []))
    by true c is rest = refl
    by false c is rest = ap (λ (ks : List K). e.0 ∷ ks) rest ∙ cons (list_any (eq key) (keys_of es))
      where
        cons : (c : Bool) → e.0 ∷ cond c (keys_of es) (keys_of es ++ key ∷ [])
            ≡ cond c (e.0 ∷ keys_of es) (e.0 ∷ (keys_of es ++ key ∷ []))
        cons true = refl
        cons false = refl

-- the first place, counted from 0
pub from_zero : {K : Type 0} (test : K → Bool) (keys : List K) → position test keys ≡ position_from test 0 keys
from_zero test keys = position_from-zero test keys

-- the entry that is read at a place
pub at_place : {A : Type 0} (es : List A) (n : ℕ) (e : A) → n < length es → e ≡ get_or es n e → slice_get es n ≡ Some e
at_place es n e within is = slice_get-get_or es n e within ∙ ap Some (sym is)

-- so it is one of the entries
pub if_within : {K V : Type 0} (test : K → Bool) (es : List (K × V)) (place : Option ℕ)
    → place ≡ position test (keys_of es) → IfSome place (λ n. n < length es)
if_within test es None is = tt
if_within test es (Some n) is =
    let within : n < 0 + length (keys_of es) = place_within test 0 (keys_of es) n
    (sym (from_zero test (keys_of es)) ∙ sym is) in
    omega (arith, within, length-map es (λ (e : _ × _). e.0))

-- the value of the key that stands at a place
pub value_of_place : {K V : Type 0} (test : K → Bool) (es : List (K × V)) (n : ℕ) (e : K × V) → n < length es
    → Some n ≡ position test (keys_of es) → e ≡ get_or es n e → Some e.1 ≡ lookup test es
value_of_place test es n e within is there =
    ap (option_map (λ (p : _ × _). p.1))
    (sym (at_place es n e within there) ∙ ap (entry_of es) (is ∙ from_zero test (keys_of es)))
    ∙ sym (value_is test es)

pub no_value : {K V : Type 0} (test : K → Bool) (es : List (K × V)) → None ≡ position test (keys_of es)
    → None ≡ lookup test es
no_value test es is = ap (option_map (λ (p : _ × _). p.1)) (ap (entry_of es) (is ∙ from_zero test (keys_of es)))
    ∙ sym (value_is test es)

module _ {K V : Type 0} (eq : K → K → Bool) (key : K) (value : V) (es : List (K × V)) where
  -- a key that is there is given its value
  pub inserted_there : (n : ℕ) (e : K × V) → Some n ≡ position (eq key) (keys_of es) → n < length es
      → e ≡ get_or es n e → slice_set es n (e.0, value) ≡ insert_entry eq es key value
  inserted_there n e is within there =
      value_put eq key value es n e (sym (from_zero (eq key) (keys_of es)) ∙ sym is) (at_place es n e within there)

  pub is_missing : (place : Option ℕ) → place ≡ position (eq key) (keys_of es) → place ≡ None
      → position_from (eq key) 0 (keys_of es) ≡ None
  is_missing place found none = sym (from_zero (eq key) (keys_of es)) ∙ sym found ∙ none

  -- one that is missing is put behind the others
  pub inserted_behind : (b : Bool) → position_from (eq key) 0 (keys_of es) ≡ None
      → cond b (es ++ (key, value) ∷ []) es ≡ cond b (insert_entry eq es key value) es
  inserted_behind true missing = sym (value_new eq key value es missing)
  inserted_behind false missing = refl

-- a key has a place where it is among the keys
pub any_there : {K : Type 0} (test : K → Bool) (keys : List K) (place : Option ℕ) → place ≡ position test keys
    → is_some place ≡ list_any test keys
any_there test keys place is = ap is_some (is ∙ from_zero test keys) ∙ there_is test 0 keys

module _ {K : Type 0} (test : K → Bool) (keys : List K) (key : K) where
  -- a key that is there isn't put again
  pub not_again : (n : ℕ) → Some n ≡ position test keys
      → keys ≡ cond (list_any test keys) keys (keys ++ key ∷ [])
  not_again n is = ap (λ b. cond b keys (keys ++ key ∷ [])) (any_there test keys (Some n) is)

  -- one that is missing is put, and found behind the others
  pub put_new : None ≡ position test keys → keys ++ key ∷ [] ≡ cond (list_any test keys) keys (keys ++ key ∷ [])
  put_new is = ap (λ b. cond b keys (keys ++ key ∷ [])) (any_there test keys None is)

  pub found_behind : test key ≡ true → None ≡ position test keys → Some (length keys) ≡ position test (keys ++ key ∷ [])
  found_behind passes is =
      let none : position_from test 0 keys ≡ None = sym (is ∙ from_zero test keys) in
      let at : 0 + length keys ≡ length keys = omega arith in
      sym (from_zero test (keys ++ key ∷ []) ∙ position_more test 0 keys key
      ∙ ap (λ (o : Option ℕ). option_or o (cond (test key) (Some (0 + length keys)) None)) none
      ∙ ap (λ b. cond b (Some (0 + length keys)) None) passes ∙ ap Some at)

-- what is there for a key after one was given a value
pub found_inserted : {K V : Type 0} (eq : K → K → Bool) (laws : IsEquivalence eq) (es : List (K × V)) (key : K)
    (value : V) (q : K) → lookup (eq q) (insert_entry eq es key value) ≡ cond (eq q key) (Some value) (lookup (eq q) es)
found_inserted eq laws [] key value q = refl
found_inserted {K} {V} eq laws (e ∷ es) key value q = by (eq key e.0) refl (found_inserted eq laws es key value q)
  where
    turned : eq key e.0 ≡ true → (b : Bool) → eq q e.0 ≡ b → eq q key ≡ b
    turned same b is = laws.symm q key ∙ laws.congr key e.0 q same ∙ laws.symm e.0 q ∙ is

    shadowed : (b : Bool) → eq q e.0 ≡ b
        → eq q key ≡ b → cond b (Some value) (lookup (eq q) es)
        ≡ cond (eq q key) (Some value) (cond b (Some e.1) (lookup (eq q) es))
    shadowed true is same = sym (ap (λ c. cond c (Some value) (Some e.1)) same)
    shadowed false is same = sym (ap (λ c. cond c (Some value) (lookup (eq q) es)) same)

    apart : eq key e.0 ≡ false → (b c : Bool) → eq q e.0 ≡ b → eq q key ≡ c
        → cond b (Some e.1) (cond c (Some value) (lookup (eq q) es))
        ≡ cond c (Some value) (cond b (Some e.1) (lookup (eq q) es))
    apart differ true true there same = absurd (true≢false (
        sym there ∙ sym (laws.congr key q e.0 (laws.symm key q ∙ same)) ∙ differ))
    apart differ true false there same = refl
    apart differ false true there same = refl
    apart differ false false there same = refl

    by : (b : Bool) → eq key e.0 ≡ b
        → lookup (eq q) (insert_entry eq es key value) ≡ cond (eq q key) (Some value) (lookup (eq q) es)
        → lookup (eq q) (cond b ((e.0, value) ∷ es) (e ∷ insert_entry eq es key value))
        ≡ cond (eq q key) (Some value) (cond (eq q e.0) (Some e.1) (lookup (eq q) es))
    by true same rest = shadowed (eq q e.0) refl (turned same (eq q e.0) refl)
    by false differ rest = ap (λ (o : Option V). cond (eq q e.0) (Some e.1) o) rest
        ∙ apart differ (eq q e.0) (eq q key) refl refl

-- What tables have where one line more was put.
use Rattle.std.proofs.Common.{◌≡◌, ℕ, Bool, true, false, cond, not, ◌||◌, List, [], ◌∷◌, ◌++◌, ◌⊎◌, inl, inr, map}
use Rattle.std.proofs.Common.{Option, Some, None, Result, Ok, Err, is_ok, refl, sym, ap, ◌∙◌}
use Rattle.std.specs.Prelude.{IfOk, OnOk, if◌then◌else◌}
use Rattle.std.specs.Bool.{Decides}
use Rattle.std.specs.List.{list_any}
use Rattle.std.specs.Map.{lookup}
use Rattle.std.specs.Option.{option_or}
use Rattle.std.proofs.Math.Bool.{or-false}
use Rattle.std.proofs.lemmas.Bool.{not-false}
use Rattle.indexmap.specs.IndexSet.{insert_key}
use Rattle.jv_base.specs.Names.{is_text}
use Rattle.jv_base.proofs.Lists.{any_more}
use Rattle.mapping_file.specs.declared.mapping.MapClass.{MapClass}
use Rattle.new_names.proofs.Inserted.{either_way}
use Rattle.pair_clauses.specs.Shape.{is_other}

-- what a look-up finds with one pair more
pub lookup_more : {K V : Type 0} (test : K → Bool) (xs : List (K × V)) (k : K) (v : V)
    → lookup test (xs ++ (k, v) ∷ []) ≡ option_or (lookup test xs) (cond (test k) (Some v) None)
lookup_more test [] k v = refl
lookup_more {K} {V} test (x ∷ xs) k v = by (test x.0) (lookup_more test xs k v)
  where
    by : (b : Bool) → lookup test (xs ++ (k, v) ∷ []) ≡ option_or (lookup test xs) (cond (test k) (Some v) None)
        → cond b (Some x.1) (lookup test (xs ++ (k, v) ∷ []))
        ≡ option_or (cond b (Some x.1) (lookup test xs)) (cond (test k) (Some v) None)
    by true e = refl
    by false e = e

module _ {K : Type 0} (same : K → K → Bool) (decides : (a b : K) → Decides (same a b) (a ≡ b)) where
  agrees : (there : Option K) (new : K) → is_other same there new ≡ false → (there ≡ None) ⊎ (there ≡ Some new)
  agrees None new h = inl refl
  agrees (Some old) new h = inr (ap Some ((decides old new).0 (not-false (same old new) h)))

  -- the new one of the first pair, where a pair is put that has no other new one yet
  pub first_put : (pairs : List (K × K)) (old new : K) → is_other same (lookup (λ k. same k old) pairs) new ≡ false
      → (one : K) → cond (same old one) (Some new) (lookup (λ k. same k one) pairs)
      ≡ lookup (λ k. same k one) (pairs ++ (old, new) ∷ [])
  first_put pairs old new none one =
      by (same old one) refl (lookup (λ k. same k one) pairs) refl ∙ sym (lookup_more (λ k. same k one) pairs old new)
    where
      by : (b : Bool) → same old one ≡ b → (o : Option K) → lookup (λ k. same k one) pairs ≡ o
          → cond b (Some new) o ≡ option_or o (cond b (Some new) None)
      by false is None e = refl
      by false is (Some v) e = refl
      by true is None e = refl
      by true is (Some v) e = with_agreed (agrees (lookup (λ k. same k old) pairs) new none)
        where
          with_agreed : (lookup (λ k. same k old) pairs ≡ None) ⊎ (lookup (λ k. same k old) pairs ≡ Some new)
              → Some new ≡ Some v
          with_agreed (inl missing) =
              let s : old ≡ one = (decides old one).0 is in
              let f : lookup (λ k. same k old) pairs ≡ Some v = ap (λ (t : K). lookup (λ k. same k t) pairs) s ∙ e in
              absurd cc
          with_agreed (inr present) =
              let s : old ≡ one = (decides old one).0 is in
              let f : lookup (λ k. same k old) pairs ≡ Some v = ap (λ (t : K). lookup (λ k. same k t) pairs) s ∙ e in
              sym present ∙ f

  -- what a table finds where a pair was put
  pub put_there : (pairs : List (K × K)) (old new key value : K) (there here : Option K) (one : K)
      → is_other same (lookup (λ k. same k old) pairs) new ≡ false → key ≡ old → value ≡ new
      → here ≡ cond (same key one) (Some value) there → there ≡ lookup (λ k. same k one) pairs
      → here ≡ lookup (λ k. same k one) (pairs ++ (old, new) ∷ [])
  put_there pairs old new key value there here one none k v put told =
      put ∙ ap (λ (t : K). cond (same t one) (Some value) there) k
      ∙ ap (λ (t : K). cond (same old one) (Some t) there) v
      ∙ ap (λ (o : Option K). cond (same old one) (Some new) o) told
      ∙ first_put pairs old new none one

-- ---- names that were put

-- a name that is put is there, besides the others
any_inserted : {K : Type 0} (eq : K → K → Bool) → ((a b : K) → Decides (eq a b) (a ≡ b)) → (keys : List K) (k asked : K)
    → list_any (eq asked) (insert_key eq keys k) ≡ (list_any (eq asked) keys || eq k asked)
any_inserted {K} eq decides keys k asked = by (list_any (eq k) keys) refl
  where
    there : (b : Bool) → eq k asked ≡ b → list_any (eq k) keys ≡ true
        → list_any (eq asked) keys ≡ (list_any (eq asked) keys || b)
    there false e has = sym (or-false (list_any (eq asked) keys))
    there true e has =
        let same : list_any (eq asked) keys ≡ true =
        ap (λ (x : K). list_any (eq x) keys) (sym ((decides k asked).0 e)) ∙ has in
        same ∙ sym (ap (λ (b : Bool). b || true) same)

    by : (b : Bool) → list_any (eq k) keys ≡ b
        → list_any (eq asked) (cond b keys (keys ++ k ∷ [])) ≡ (list_any (eq asked) keys || eq k asked)
    by true has = there (eq k asked) refl has
    by false has = any_more (eq asked) keys k
        ∙ ap (λ (b : Bool). list_any (eq asked) keys || b) (either_way eq decides asked k)

-- whether a name is new, where the same names were seen as are there
pub is_new_among : {K E : Type 0} (eq : K → K → Bool) (r : Result Bool E) (keys seen : List K) (k key : K)
    → IfOk r (λ is_new. is_new ≡ not (list_any (eq key) keys)) → key ≡ k
    → ((asked : K) → list_any (eq asked) keys ≡ list_any (λ there. eq there asked) seen)
    → IfOk r (λ is_new. is_new ≡ not (list_any (λ there. eq there k) seen))
is_new_among {K} eq (Ok b) keys seen k key is same has =
    is ∙ ap (λ (x : K). not (list_any (eq x) keys)) same ∙ ap not (has k)
is_new_among eq (Err e) keys seen k key is same has = tt

-- what is there where a name was put, if it was
pub seen_more : {K T E : Type 0} (eq : K → K → Bool) → ((a b : K) → Decides (eq a b) (a ≡ b)) → (r : Result T E)
    (keys grown seen : List K) (k key : K) → grown ≡ (if is_ok r then insert_key eq keys key else keys) → key ≡ k
    → ((asked : K) → list_any (eq asked) keys ≡ list_any (λ there. eq there asked) seen)
    → OnOk r ((asked : K) → list_any (eq asked) grown ≡ list_any (λ there. eq there asked) (seen ++ k ∷ []))
seen_more {K} eq decides (Ok x) keys grown seen k key put same has = λ asked.
    ap (list_any (eq asked)) (put ∙ ap (insert_key eq keys) same) ∙ any_inserted eq decides keys k asked
    ∙ ap (λ (b : Bool). b || eq k asked) (has asked) ∙ sym (any_more (λ (there : K). eq there asked) seen k)
seen_more eq decides (Err e) keys grown seen k key put same has = tt

-- ---- lines

pub map_last : {A B : Type 0} (f : A → B) (xs : List A) (x : A) → map f xs ++ f x ∷ [] ≡ map f (xs ++ x ∷ [])
map_last f [] x = refl
map_last {A} {B} f (y ∷ ys) x = ap (λ (zs : List B). f y ∷ zs) (map_last f ys x)

-- pairs the other way round, with one more
pub swapped_more : {K : Type 0} (same : K → K → Bool) (pairs : List (K × K)) (old new one : K)
    → lookup (λ k. same k one) (map (λ (p : K × K). (p.1, p.0)) pairs ++ (new, old) ∷ [])
    ≡ lookup (λ k. same k one) (map (λ (p : K × K). (p.1, p.0)) (pairs ++ (old, new) ∷ []))
swapped_more {K} same pairs old new one =
    ap (lookup (λ k. same k one)) (map_last (λ (p : K × K). (p.1, p.0)) pairs (old, new))

-- a name among those of others
pub any_map : {A B : Type 0} (test : B → Bool) (f : A → B) (xs : List A)
    → list_any test (map f xs) ≡ list_any (λ x. test (f x)) xs
any_map test f [] = refl
any_map test f (x ∷ xs) = ap (λ (b : Bool). test (f x) || b) (any_map test f xs)

pub twice : (b : Bool) → not (not b) ≡ b
twice true = refl
twice false = refl

-- whether a class has a line, by the names that were seen
pub unlined : (lines : List MapClass) (name : List ℕ) (there answer : Bool)
    → there ≡ list_any (λ (seen : List ℕ). is_text seen name) (map (λ (l : MapClass). l.new) lines) → there ≡ answer
    → not (list_any (λ (l : MapClass). is_text l.new name) lines) ≡ not answer
unlined lines name there answer is e =
    ap not (sym (any_map (λ (seen : List ℕ). is_text seen name) (λ (l : MapClass). l.new) lines) ∙ sym is ∙ e)

-- a class that a set doesn't have, or a name that isn't new
pub class_wrong : {A : Type 0} (has is_new wrong : Bool) (name_of : A → List ℕ) (name : List ℕ) (lines : List A)
    → wrong ≡ (not has || not is_new)
    → is_new ≡ not (list_any (λ (seen : List ℕ). is_text seen name) (map name_of lines))
    → wrong ≡ (not has || list_any (λ (l : A). is_text (name_of l) name) lines)
class_wrong has is_new wrong name_of name lines e f =
    e ∙ ap (λ (b : Bool). not has || b) (ap not f
    ∙ twice (list_any (λ (seen : List ℕ). is_text seen name) (map name_of lines))
    ∙ any_map (λ (seen : List ℕ). is_text seen name) name_of lines)

-- A key and the constant that it tells.
use Rattle.std.proofs.Common.{◌≡◌, ℕ, zero, suc, ◌+◌, ◌<◌, Bool, true, false, cond, not, ◌||◌, List, [], ◌∷◌, ◌++◌, map}
use Rattle.std.proofs.Common.{length, refl, sym, ap, subst, ◌∙◌, Decides, arith, append_assoc, Result, Ok, Err}
use Rattle.std.specs.Prelude.{is_ok, OnOk}
use Rattle.std.specs.List.{position_or_len, list_any, IsDistinct, AllByRecursion}
use Rattle.std.proofs.lemmas.List.{get_or_append_left, length-append}
use Rattle.std.proofs.lemmas.List.Sums.{passes_at_first}
use Rattle.std.proofs.lemmas.Bool.Decides.{same_from_decides}
use Rattle.indexmap.specs.IndexSet.{insert_key}
use Rattle.jv_base.proofs.Equality.{text_Decides}
use Rattle.class_model.specs.declared.constant.PoolConstant.{PoolConstant}
use Rattle.class_model.specs.declared.constant.PoolConstant.TheVariants.{Utf8, Integer, Long, SecondOfLong, Class, Str}
use Rattle.class_model.specs.declared.constant.PoolConstant.TheVariants.{NameAndType, Fieldref, Methodref}
use Rattle.class_model.specs.declared.constant.PoolConstant.TheVariants.{InterfaceMethodref}
use Rattle.class_model.specs.CanonicalPool.{same, same_text, index_of, methodref, type_name}
use Rattle.class_model.specs.declared.op.MemberRef.{MemberRef}
use Rattle.jv_base.specs.Utf16.{units_of}
use Rattle.constant_table.specs.bodies.Members.{numbers_of, method_key}
use Rattle.constant_table.specs.declared.key.Key.{Key}
use Rattle.constant_table.specs.declared.key.Key.TheVariants as key
use Rattle.constant_table.specs.bodies.Keys.{same_key, index_in, number_of, text_of, constant_of, key_of, IsKeyIn}
use Rattle.constant_table.specs.bodies.Keys.{AreKeysOf}
use Rattle.constant_table.specs.bodies.Keys.{constants_of}
use Rattle.constant_table.specs.bodies.Texts.{HasText, Grows}
use Rattle.constant_table.proofs.Alike.{same_Decides}
use Rattle.constant_table.proofs.SameKey.{key_Decides}

-- ---- a text and its number

-- a text that is there is that of its number
pub text_at : (texts : List (List ℕ)) (text : List ℕ) → number_of texts text < length texts
    → text_of texts (number_of texts text) ≡ text
text_at texts text h = sym
    ((text_Decides text (text_of texts (number_of texts text))).0 (passes_at_first (same_text text) texts [] h))

differs : (x y : List ℕ) → same_text x y ≡ false → same_text y x ≡ false
differs x y h = by (same_text y x) refl
  where
    by : (b : Bool) → same_text y x ≡ b → b ≡ false
    by false e = refl
    by true e = let same : y ≡ x = (text_Decides y x).0 e in sym ((text_Decides x y).1 (sym same)) ∙ h

first_by : (b : Bool) (m n : ℕ) → b ≡ false → n ≡ m → cond (not b) (1 + n) 0 ≡ suc m
first_by false m n e h = let f : 1 + n ≡ suc m = omega (arith, h) in f
first_by true m n e h = absurd cc

apart_at : (x : List ℕ) (xs : List (List ℕ)) (n : ℕ) → n < length xs → AllByRecursion (λ y. same_text x y ≡ false) xs
    → same_text x (text_of xs n) ≡ false
apart_at x [] n l h = absurd (omega (arith, l))
apart_at x (y ∷ ys) zero l h = h.0
apart_at x (y ∷ ys) (suc n) l h = apart_at x ys n (omega (arith, l)) h.1

-- of distinct texts each has its number
pub number_at : (texts : List (List ℕ)) (n : ℕ) → IsDistinct same_text texts → n < length texts
    → number_of texts (text_of texts n) ≡ n
unfolding IsDistinct
number_at [] n d l = absurd (omega (arith, l))
number_at (x ∷ xs) zero d l = let e : same_text x x ≡ true = (text_Decides x x).1 refl in rw e refl
number_at (x ∷ xs) (suc n) d l =
    let m : n < length xs = omega (arith, l) in
    first_by (same_text (text_of xs n) x) n (number_of xs (text_of xs n))
    (differs x (text_of xs n) (apart_at x xs n m d.0)) (number_at xs n d.1 m)

-- ---- a key and its constant

-- the key of the constant that a key tells
pub key_there : (texts : List (List ℕ)) (k : Key) → IsDistinct same_text texts → IsKeyIn (length texts) k
    → key_of texts (constant_of texts k) ≡ k
key_there texts (key.Utf8 a1) d h = ap (λ n. key.Utf8 n) (number_at texts a1 d h)
key_there texts (key.Integer a1) d h = refl
key_there texts (key.Long a1) d h = refl
key_there texts (key.SecondOfLong a1) d h = refl
key_there texts (key.Class a1) d h = ap (λ n. key.Class n) (number_at texts a1 d h)
key_there texts (key.Str a1) d h = ap (λ n. key.Str n) (number_at texts a1 d h)
key_there texts (key.NameAndType a1 a2) d h = λ i. key.NameAndType (number_at texts a1 d h.0 i)
    (number_at texts a2 d h.1 i)
key_there texts (key.Fieldref a1 a2 a3) d h = λ i. key.Fieldref (number_at texts a1 d h.0 i)
    (number_at texts a2 d h.1 i) (number_at texts a3 d h.2 i)
key_there texts (key.Methodref a1 a2 a3) d h = λ i. key.Methodref (number_at texts a1 d h.0 i)
    (number_at texts a2 d h.1 i) (number_at texts a3 d h.2 i)
key_there texts (key.InterfaceMethodref a1 a2 a3) d h = λ i. key.InterfaceMethodref (number_at texts a1 d h.0 i)
    (number_at texts a2 d h.1 i) (number_at texts a3 d h.2 i)

-- the constant that its key tells
pub constant_there : (texts : List (List ℕ)) (k : PoolConstant) → IsKeyIn (length texts) (key_of texts k)
    → constant_of texts (key_of texts k) ≡ k
constant_there texts (Utf8 a1) h = ap (λ t. Utf8 t) (text_at texts a1 h)
constant_there texts (Integer a1) h = refl
constant_there texts (Long a1) h = refl
constant_there texts (SecondOfLong a1) h = refl
constant_there texts (Class a1) h = ap (λ t. Class t) (text_at texts a1 h)
constant_there texts (Str a1) h = ap (λ t. Str t) (text_at texts a1 h)
constant_there texts (NameAndType a1 a2) h = λ i. NameAndType (text_at texts a1 h.0 i) (text_at texts a2 h.1 i)
constant_there texts (Fieldref a1 a2 a3) h = λ i. Fieldref (text_at texts a1 h.0 i) (text_at texts a2 h.1 i)
    (text_at texts a3 h.2 i)
constant_there texts (Methodref a1 a2 a3) h = λ i. Methodref (text_at texts a1 h.0 i) (text_at texts a2 h.1 i)
    (text_at texts a3 h.2 i)
constant_there texts (InterfaceMethodref a1 a2 a3) h = λ i. InterfaceMethodref (text_at texts a1 h.0 i)
    (text_at texts a2 h.1 i) (text_at texts a3 h.2 i)

-- a constant is the one that a key tells exactly where its key is this one
pub told_alike : (texts : List (List ℕ)) (k : PoolConstant) (q : Key) → IsDistinct same_text texts
    → IsKeyIn (length texts) q
    → same k (constant_of texts q) ≡ same_key (key_of texts k) q
told_alike texts k q d h = same_from_decides _ _ (same_Decides k (constant_of texts q)) decides
  where
    there : key_of texts k ≡ q → k ≡ constant_of texts q
    there e = sym (constant_there texts k (subst (λ x. IsKeyIn (length texts) x) (sym e) h)) ∙ ap (constant_of texts) e

    decides : Decides (same_key (key_of texts k) q) (k ≡ constant_of texts q)
    decides = let d' = key_Decides (key_of texts k) q in
        (λ e. there (d'.0 e), λ e. d'.1 (ap (key_of texts) e ∙ key_there texts q d h))

-- ---- lists of keys

module _ (texts : List (List ℕ)) (distinct : IsDistinct same_text texts) where
  -- a constant stands where its key does
  position_told : (keys : List Key) (k : PoolConstant) → AllByRecursion (IsKeyIn (length texts)) keys
      → position_or_len (same k) (map (constant_of texts) keys) ≡ position_or_len (same_key (key_of texts k)) keys
  position_told [] k h = refl
  position_told (q ∷ qs) k h = λ i. cond (not (told_alike texts k q distinct h.0 i)) (1 + position_told qs k h.1 i) 0

  -- and is there where its key is
  any_told : (keys : List Key) (k : PoolConstant) → AllByRecursion (IsKeyIn (length texts)) keys
      → list_any (same k) (map (constant_of texts) keys) ≡ list_any (same_key (key_of texts k)) keys
  any_told [] k h = refl
  any_told (q ∷ qs) k h = λ i. told_alike texts k q distinct h.0 i || any_told qs k h.1 i

  within_push : (keys : List Key) (q : Key) → AllByRecursion (IsKeyIn (length texts)) keys → IsKeyIn (length texts) q
      → AllByRecursion (IsKeyIn (length texts)) (keys ++ q ∷ [])
  within_push [] q h k = (k, tt)
  within_push (x ∷ xs) q h k = (h.0, within_push xs q h.1 k)

-- the index of a constant is that of its key
pub index_told : (texts : List (List ℕ)) (keys : List Key) (k : PoolConstant) → AreKeysOf texts keys
    → index_in keys (key_of texts k) ≡ index_of (constants_of texts keys) k
index_told texts keys k h = ap (λ n. 1 + n) (sym (position_told texts h.distinct keys k h.within))

-- one more, whether or not it is there
pub pushed_is : (texts : List (List ℕ)) (keys : List Key) (q : Key)
    → constants_of texts (keys ++ q ∷ []) ≡ constants_of texts keys ++ constant_of texts q ∷ []
pushed_is texts [] q = refl
pushed_is texts (x ∷ xs) q = ap (λ (ks : List PoolConstant). constant_of texts x ∷ ks) (pushed_is texts xs q)

pub pushed_within : (texts : List (List ℕ)) (keys : List Key) (q : Key) → AreKeysOf texts keys
    → IsKeyIn (length texts) q → AreKeysOf texts (keys ++ q ∷ [])
pushed_within texts keys q h k = record {
  distinct = h.distinct;
  within = within_push texts h.distinct keys q h.within
      k;
}

-- one more, unless it is there
module _ (texts : List (List ℕ)) (keys : List Key) (q : Key) (h : AreKeysOf texts keys)
    (k : IsKeyIn (length texts) q) where
  any_is : list_any (same (constant_of texts q)) (constants_of texts keys) ≡ list_any (same_key q) keys
  any_is = any_told texts h.distinct keys (constant_of texts q) h.within
      ∙ ap (λ x. list_any (same_key x) keys) (key_there texts q h.distinct k)

  is_by : (b : Bool) → constants_of texts (cond b keys (keys ++ q ∷ []))
      ≡ cond b (constants_of texts keys) (constants_of texts keys ++ constant_of texts q ∷ [])
  is_by true = refl
  is_by false = pushed_is texts keys q

  within_by : (b : Bool) → AreKeysOf texts (cond b keys (keys ++ q ∷ []))
  within_by true = h
  within_by false = pushed_within texts keys q h k

  pub added_is : constants_of texts (insert_key same_key keys q)
      ≡ insert_key same (constants_of texts keys) (constant_of texts q)
  added_is = is_by (list_any (same_key q) keys)
      ∙ ap (λ b. cond b (constants_of texts keys) (constants_of texts keys ++ constant_of texts q ∷ [])) (sym any_is)

  -- so it is where the keys are put in
  pub on_added : {A E : Type 0} (r : Result A E) (new : List Key)
      → new ≡ cond (is_ok r) (insert_key same_key keys q) keys
      → OnOk r (constants_of texts new ≡ insert_key same (constants_of texts keys) (constant_of texts q))
  on_added (Ok x) new e = ap (constants_of texts) e ∙ added_is
  on_added (Err x) new e = tt

  pub added_within : AreKeysOf texts (insert_key same_key keys q)
  added_within = within_by (list_any (same_key q) keys)

-- the key of a method
method_by : (texts : List (List ℕ)) (c n d : List ℕ) (b : Bool)
    → method_key (record { class = number_of texts c; name = number_of texts n; descriptor = number_of texts d }) b
    ≡ key_of texts (cond b (InterfaceMethodref c n d) (Methodref c n d))
method_by texts c n d true = refl
method_by texts c n d false = refl

pub method_key_is : (texts : List (List ℕ)) (m : MemberRef)
    → method_key (numbers_of texts m) m.of_interface ≡ key_of texts (methodref m)
method_key_is texts m = method_by texts (units_of (type_name m.class)) (units_of m.name) (units_of m.ty) m.of_interface

-- ---- more texts

text_kept : (old more : List (List ℕ)) (n : ℕ) → n < length old → text_of (old ++ more) n ≡ text_of old n
text_kept old more n h = get_or_append_left old more [] n h

more_texts : (old more : List (List ℕ)) (n : ℕ) → n < length old → n < length (old ++ more)
more_texts old more n h = omega (arith, h, length-append old more)

-- a key tells the same, with more texts behind those that were there
told_kept : (old more : List (List ℕ)) (q : Key) → IsKeyIn (length old) q
    → constant_of (old ++ more) q ≡ constant_of old q
told_kept old more (key.Utf8 a1) h = ap (λ t. Utf8 t) (text_kept old more a1 h)
told_kept old more (key.Integer a1) h = refl
told_kept old more (key.Long a1) h = refl
told_kept old more (key.SecondOfLong a1) h = refl
told_kept old more (key.Class a1) h = ap (λ t. Class t) (text_kept old more a1 h)
told_kept old more (key.Str a1) h = ap (λ t. Str t) (text_kept old more a1 h)
told_kept old more (key.NameAndType a1 a2) h = λ i. NameAndType (text_kept old more a1 h.0 i)
    (text_kept old more a2 h.1 i)
told_kept old more (key.Fieldref a1 a2 a3) h = λ i. Fieldref (text_kept old more a1 h.0 i) (text_kept old more a2 h.1 i)
    (text_kept old more a3 h.2 i)
told_kept old more (key.Methodref a1 a2 a3) h = λ i. Methodref (text_kept old more a1 h.0 i)
    (text_kept old more a2 h.1 i) (text_kept old more a3 h.2 i)
told_kept old more (key.InterfaceMethodref a1 a2 a3) h = λ i. InterfaceMethodref (text_kept old more a1 h.0 i)
    (text_kept old more a2 h.1 i) (text_kept old more a3 h.2 i)

in_kept : (old more : List (List ℕ)) (q : Key) → IsKeyIn (length old) q → IsKeyIn (length (old ++ more)) q
in_kept old more (key.Utf8 a1) h = more_texts old more a1 h
in_kept old more (key.Integer a1) h = tt
in_kept old more (key.Long a1) h = tt
in_kept old more (key.SecondOfLong a1) h = tt
in_kept old more (key.Class a1) h = more_texts old more a1 h
in_kept old more (key.Str a1) h = more_texts old more a1 h
in_kept old more (key.NameAndType a1 a2) h = (more_texts old more a1 h.0, more_texts old more a2 h.1)
in_kept old more (key.Fieldref a1 a2 a3) h =
    (more_texts old more a1 h.0, more_texts old more a2 h.1, more_texts old more a3 h.2)
in_kept old more (key.Methodref a1 a2 a3) h =
    (more_texts old more a1 h.0, more_texts old more a2 h.1, more_texts old more a3 h.2)
in_kept old more (key.InterfaceMethodref a1 a2 a3) h =
    (more_texts old more a1 h.0, more_texts old more a2 h.1, more_texts old more a3 h.2)

all_told : (old more : List (List ℕ)) (keys : List Key) → AllByRecursion (IsKeyIn (length old)) keys
    → constants_of (old ++ more) keys ≡ constants_of old keys
all_told old more [] h = refl
all_told old more (q ∷ qs) h = λ i. told_kept old more q h.0 i ∷ all_told old more qs h.1 i

all_in : (old more : List (List ℕ)) (keys : List Key) → AllByRecursion (IsKeyIn (length old)) keys
    → AllByRecursion (IsKeyIn (length (old ++ more))) keys
all_in old more [] h = tt
all_in old more (q ∷ qs) h = (in_kept old more q h.0, all_in old more qs h.1)

module _ (old new : List (List ℕ)) (keys : List Key) (g : Grows old new) (h : AreKeysOf old keys) where
  pub told_grown : constants_of new keys ≡ constants_of old keys
  told_grown = ap (λ ts. constants_of ts keys) g.is ∙ all_told old g.more keys h.within

  pub within_grown : AreKeysOf new keys
  within_grown = record {
    distinct = g.distinct h.distinct;
    within = subst
        (λ (ts : List (List ℕ)). AllByRecursion (IsKeyIn (length ts)) keys) (sym g.is)
        (all_in old g.more keys h.within);
  }

-- a text stays that of its number
pub text_grown : (old new : List (List ℕ)) (n : ℕ) (text : List ℕ) → Grows old new → HasText old n text
    → HasText new n text
text_grown old new n text g h =
    let w : n < length new = subst (λ (ts : List (List ℕ)). n < length ts) (sym g.is)
    (more_texts old g.more n h.within) in
    record { within = w; is = ap (λ ts. text_of ts n) g.is ∙ text_kept old g.more n h.within ∙ h.is }

pub grows_twice : (a b c : List (List ℕ)) → Grows a b → Grows b c → Grows a c
grows_twice a b c g h = record {
  more = g.more ++ h.more;
  is = h.is ∙ ap (λ ts. ts ++ h.more) g.is ∙ append_assoc a g.more h.more;
  distinct = λ d. h.distinct (g.distinct d);
}

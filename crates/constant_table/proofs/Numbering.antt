-- Numbers of texts: those that are kept stay when texts are put behind the others.
use Rattle.std.proofs.Common.{◌≡◌, ℕ, suc, ◌+◌, ◌<◌, Bool, true, false, cond, not, List, [], ◌∷◌, ◌++◌, length}
use Rattle.std.proofs.Common.{Option, Some, None, Result, Ok, Err, refl, sym, ap, subst, ◌∙◌, arith}
use Rattle.std.specs.Prelude.{⊤, IfSome, IfOk, OnOk, is_ok}
use Rattle.std.specs.Cmp.Lexicographic.{nat_list_eq_equiv}
use Rattle.std.specs.List.{list_any, position, position_from, position_or_len}
use Rattle.std.specs.Option.{unwrap_or}
use Rattle.std.proofs.Common.{nat_lt}
use Rattle.std.proofs.lemmas.List.{append-nil}
use Rattle.std.proofs.lemmas.List.Quantifiers.{position-Some}
use Rattle.std.proofs.lemmas.Map.Keys.{IsDistinct-push}
use Rattle.std.proofs.lemmas.Option.{same_Some}
use Rattle.indexmap.specs.IndexMap.{insert_entry}
use Rattle.indexmap.specs.IndexSet.{insert_key}
use Rattle.key_table.proofs.Found.{found_inserted, from_zero}
use Rattle.std.specs.Map.{lookup}
use Rattle.std.proofs.lemmas.List.{length-append}
use Rattle.jv_base.proofs.Equality.{text_Decides}
use Rattle.jv_base.specs.Utf16.{units_of}
use Rattle.class_model.specs.CanonicalPool.{same_text}
use Rattle.constant_table.specs.bodies.Keys.{number_of, text_of}
use Rattle.constant_table.specs.bodies.Texts.{HasNumber, HasText, AreNumbers, Grows}
use Rattle.constant_table.proofs.Indexed.{index_is}
use Rattle.constant_table.proofs.Told.{text_at}

first_by : (b : Bool) (m n l : ℕ) → cond (not b) (1 + m) 0 < suc l → (m < l → n ≡ m)
    → cond (not b) (1 + n) 0 ≡ cond (not b) (1 + m) 0
first_by true m n l h f = refl
first_by false m n l h f = ap (λ k. 1 + k) (f (omega (arith, h)))

-- the first that passes stays the first
first_kept : {X : Type 0} (p : X → Bool) (xs ys : List X) → position_or_len p xs < length xs
    → position_or_len p (xs ++ ys) ≡ position_or_len p xs
first_kept p [] ys h = omega (arith, h)
first_kept p (x ∷ xs) ys h = first_by (p x) (position_or_len p xs) (position_or_len p (xs ++ ys)) (length xs) h
    (first_kept p xs ys)

pub number_grown : (old new : List (List ℕ)) (n : ℕ) (text : List ℕ) → Grows old new → HasNumber old n text
    → HasNumber new n text
number_grown old new n text g h =
    let l : number_of old text < length old = subst (λ k. k < length old) h.is h.within in
    let e : number_of new text ≡ number_of old text = ap (λ ts. number_of ts text) g.is
    ∙ first_kept (same_text text) old g.more l in
    let w : n < length new = let s = ap (λ (ts : List (List ℕ)). length ts) g.is in omega
    (arith, h.within, s, length-append old g.more) in
    record { within = w; is = h.is ∙ sym e }

module _ (old new : List (List ℕ)) (numbers : List (List ℕ × ℕ)) where
  grown_by : (text : List ℕ) (o : Option ℕ) → Grows old new → IfSome o (λ n. HasNumber old n (units_of text))
      → IfSome o (λ n. HasNumber new n (units_of text))
  grown_by text (Some n) g h = number_grown old new n (units_of text) g h
  grown_by text None g h = h

  -- the numbers that are kept stay
  pub numbers_grown : Grows old new → AreNumbers old numbers → AreNumbers new numbers
  numbers_grown g kept text = grown_by text (lookup (same_text text) numbers) g (kept text)

module _ (texts : List (List ℕ)) (old new : List (List ℕ × ℕ)) (name : List ℕ) (number : ℕ) where
  put_by : (text : List ℕ) (b : Bool) → same_text text name ≡ b → HasNumber texts number (units_of name)
      → IfSome (lookup (same_text text) old) (λ n. HasNumber texts n (units_of text))
      → IfSome (cond b (Some number) (lookup (same_text text) old)) (λ n. HasNumber texts n (units_of text))
  put_by text true e h kept =
      subst (λ t. HasNumber texts number (units_of t)) (sym ((text_Decides text name).0 e)) h
  put_by text false e h kept = kept

  -- one more is kept
  pub number_put : AreNumbers texts old → HasNumber texts number (units_of name)
      → ((t : List ℕ) → lookup (same_text t) new ≡ cond (same_text t name) (Some number) (lookup (same_text t) old))
      → AreNumbers texts new
  number_put kept h updates text =
      subst (λ o. IfSome o (λ n. HasNumber texts n (units_of text))) (sym (updates text))
      (put_by text (same_text text name) refl h (kept text))

-- what is kept is a number
pub number_told : (texts : List (List ℕ)) (numbers : List (List ℕ × ℕ)) (text : List ℕ) (n : ℕ)
    → AreNumbers texts numbers
    → Some n ≡ lookup (same_text text) numbers → HasNumber texts n (units_of text)
number_told texts numbers text n kept is =
    subst (λ o. IfSome o (λ m. HasNumber texts m (units_of text))) (sym is) (kept text)

-- a text that has a number is that of its number
pub text_there : (texts : List (List ℕ)) (n : ℕ) (text : List ℕ) → HasNumber texts n text → HasText texts n text
text_there texts n text h =
    let l : number_of texts text < length texts = subst (λ k. k < length texts) h.is h.within in
    record { within = h.within; is = ap (text_of texts) h.is ∙ text_at texts text l }

pub if_text : {E : Type 0} (texts : List (List ℕ)) (text : List ℕ) (r : Result ℕ E)
    → IfOk r (λ n. HasNumber texts n text) → IfOk r (λ n. HasText texts n text)
if_text texts text (Ok n) h = text_there texts n text h
if_text texts text (Err e) h = tt

-- the place of a text is its number
pub number_is : (texts : List (List ℕ)) (text : List ℕ) (n : ℕ) → Some n ≡ position (same_text text) texts
    → HasNumber texts n text
number_is texts text n is =
    let at = position-Some (same_text text) texts n [] (sym is) in
    record { within = at.0; is = by (nat_lt (number_of texts text) (length texts)) is }
  where
    by : (b : Bool) → Some n ≡ cond b (Some (number_of texts text)) None → n ≡ number_of texts text
    by true e = same_Some n (number_of texts text) e
    by false e = absurd cc

-- one that has no place would have the number of all
pub number_behind : (texts : List (List ℕ)) (text : List ℕ) → None ≡ position (same_text text) texts
    → length texts ≡ number_of texts text
number_behind texts text is =
    let none : position_from (same_text text) 0 texts ≡ None = sym (is ∙ from_zero (same_text text) texts) in
    let at : 0 + number_of texts text ≡ number_of texts text = omega arith in
    let all : length texts ≡ 0 + length texts = omega arith in
    all ∙ ap (λ (o : Option ℕ). unwrap_or o (0 + length texts)) (sym none) ∙ index_is (same_text text) 0 texts ∙ at

-- texts grow by one that is kept
pub grows_kept : {E : Type 0} (old new : List (List ℕ)) (text : List ℕ) (r : Result ℕ E)
    → new ≡ cond (is_ok r) (insert_key same_text old text) old → Grows old new
grows_kept old new text r is = subst (Grows old) (sym is) (by (is_ok r) (list_any (same_text text) old) refl)
  where
    same : Grows old old
    same = record { more = []; is = sym (append-nil old); distinct = λ d. d }

    by : (b c : Bool) → list_any (same_text text) old ≡ c
        → Grows old (cond b (cond c old (old ++ text ∷ [])) old)
    by true true e = same
    by true false e =
        record { more = text ∷ []; is = refl; distinct = λ d. IsDistinct-push nat_list_eq_equiv old text d e }
    by false c e = same

pub if_number : {E : Type 0} (texts : List (List ℕ)) (text : List ℕ) (r : Result ℕ E)
    → IfOk r (λ n. Some n ≡ position (same_text text) texts) → IfOk r (λ n. HasNumber texts n text)
if_number texts text (Ok n) is = number_is texts text n is
if_number texts text (Err e) is = tt

-- the number that was put with a text is found, and the others as before
pub number_found : {E : Type 0} (r : Result ⊤ E) (old new : List (List ℕ × ℕ)) (text copy : List ℕ) (number : ℕ)
    → copy ≡ text → new ≡ cond (is_ok r) (insert_entry same_text old copy number) old
    → OnOk r ((other : List ℕ) → lookup (same_text other) new
    ≡ cond (same_text other text) (Some number) (lookup (same_text other) old))
number_found (Ok x) old new text copy number same is = λ other.
    ap (lookup (same_text other)) is ∙ found_inserted same_text nat_list_eq_equiv old copy number other
    ∙ ap (λ t. cond (same_text other t) (Some number) (lookup (same_text other) old)) same
number_found (Err e) old new text copy number same is = tt

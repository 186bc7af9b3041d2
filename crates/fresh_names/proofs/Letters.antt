-- New names are names as the format wants them (JVMS 4.2).
use Rattle.std.proofs.Common.{◌≡◌, ℕ, zero, suc, ◌+◌, ◌-◌, ◌/◌, ◌%◌, ◌<◌, ◌==◌, Bool, true, false, cond, not, ◌&&◌}
use Rattle.std.proofs.Common.{◌||◌, List, [], ◌∷◌, ◌++◌, length, refl, sym, ap, subst, ◌∙◌, append_assoc}
use Rattle.std.proofs.Common.{arith, ltb-true, ◌⊎◌, inl, inr}
use Rattle.std.specs.Prelude.{IsUtf8, nat_le, nat_lt}
use Rattle.std.specs.Int.{is_in_range}
use Rattle.std.specs.List.{list_all}
use Rattle.std.specs.Str.{IsAscii}
use Rattle.std.proofs.Math.Seq.{get_or-append_seam, take-append-add}
use Rattle.std.proofs.lemmas.Bool.{eqb-true, le-leb, leb-true, and_parts}
use Rattle.std.proofs.lemmas.List.{length-append}
use Rattle.std.proofs.lemmas.List.Folds.{list_all-append}
use Rattle.std.proofs.lemmas.Str.{IsCharBoundary-after_ascii, IsUtf8-append, IsUtf8-from_ascii, IsUtf8-nil, IsUtf8-take}
use Rattle.jv_base.specs.Names.{is_class_name, is_member_name, is_name_byte, is_primitive_or_void, parts_whole}
use Rattle.jv_base.proofs.FieldLaw.{class_parts}
use Rattle.jv_base.proofs.Naming.{class_name_is}
use Rattle.fresh_names.specs.Fresh.{fresh, letter, name_at, spelled}
use Rattle.fresh_names.specs.Given.{front_of}
use Rattle.fresh_names.proofs.Fronts.{front_cases}

-- ---- letters

abbrev pub is_letter : ℕ → Bool
is_letter b = is_in_range 97 122 b

letter_is : (n : ℕ) → n < 26 → is_letter (letter n) ≡ true
letter_is n few =
    (λ i. le-leb 97 (97 + n) (omega arith) i && nat_le (97 + n) 122) ∙ le-leb (97 + n) 122 (omega (arith, few))

low : (b : ℕ) → is_letter b ≡ true → b < 128
low b is = let h = leb-true b 122 (and_parts (nat_le 97 b) (nat_le b 122) is).1 in omega (arith, h)

no_slash : (b : ℕ) → is_letter b ≡ true → (e : Bool) → (b == 47) ≡ e → e ≡ false
no_slash b is false e = refl
no_slash b is true e = absurd (
    let h = leb-true 97 b (and_parts (nat_le 97 b) (nat_le b 122) is).0 in
    let same = eqb-true b 47 e in
    omega (arith, h, same))

byte_of_name : (b : ℕ) → is_letter b ≡ true → is_name_byte b ≡ true
unfolding is_name_byte
byte_of_name b is =
    ap (λ (t : Bool). nat_le 128 b ||
    ((is_in_range 48 57 b || is_in_range 65 90 b) || t) || b == 95 || b == 36 || b == 45) is
    ∙ on (nat_le 128 b) (is_in_range 48 57 b) (is_in_range 65 90 b) (b == 95) (b == 36) (b == 45)
  where
    on : (x y z u v w : Bool) → (x || ((y || z) || true) || u || v || w) ≡ true
    on true y z u v w = refl
    on false true z u v w = refl
    on false false true u v w = refl
    on false false false u v w = refl

-- ---- names of letters

module _ (xs : List ℕ) where
  one_more : (x : ℕ) → list_all is_letter xs ≡ true → is_letter x ≡ true → list_all is_letter (xs ++ x ∷ []) ≡ true
  one_more x all is = list_all-append is_letter xs (x ∷ []) ∙ (λ i. all i && (is i && true))

some_more : (xs : List ℕ) (x : ℕ) → (length (xs ++ x ∷ []) == 0) ≡ false
some_more xs x = on (length (xs ++ x ∷ []) == 0) refl
  where
    on : (b : Bool) → (length (xs ++ x ∷ []) == 0) ≡ b → b ≡ false
    on false e = refl
    on true e = absurd (
        let none = eqb-true (length (xs ++ x ∷ [])) 0 e in
        let long = length-append xs (x ∷ []) in
        omega (arith, none, long))

spelled_letters : (letters n : ℕ) → list_all is_letter (spelled letters n) ≡ true
unfolding spelled
spelled_letters zero n = refl
spelled_letters (suc letters) n = on (nat_lt n 26) refl (spelled_letters letters (n / 26 - 1))
  where
    on : (b : Bool) → nat_lt n 26 ≡ b → list_all is_letter (spelled letters (n / 26 - 1)) ≡ true
        → list_all is_letter (cond b (letter n ∷ []) (spelled letters (n / 26 - 1) ++ letter (n % 26) ∷ [])) ≡ true
    on true e before = ap (λ (b : Bool). b && true) (letter_is n (ltb-true n 26 e))
    on false e before =
        one_more (spelled letters (n / 26 - 1)) (letter (n % 26)) before (letter_is (n % 26) (omega arith))

name_letters : (n : ℕ) → list_all is_letter (name_at n) ≡ true
name_letters n = spelled_letters (suc n) n

name_some : (n : ℕ) → (length (name_at n) == 0) ≡ false
unfolding spelled
name_some n = on (nat_lt n 26)
  where
    on : (b : Bool) → (length (cond b (letter n ∷ []) (spelled n (n / 26 - 1) ++ letter (n % 26) ∷ [])) == 0) ≡ false
    on true = refl
    on false = some_more (spelled n (n / 26 - 1)) (letter (n % 26))

ascii : (xs : List ℕ) → list_all is_letter xs ≡ true → IsAscii xs
ascii [] all i = omega arith
ascii (x ∷ xs) all zero = low x (and_parts (is_letter x) (list_all is_letter xs) all).0
ascii (x ∷ xs) all (suc i) = ascii xs (and_parts (is_letter x) (list_all is_letter xs) all).1 i

pub name_utf8 : (n : ℕ) → IsUtf8 (name_at n)
name_utf8 n = IsUtf8-from_ascii (name_at n) (ascii (name_at n) (name_letters n))

bytes_of_name : (xs : List ℕ) → list_all is_letter xs ≡ true → list_all is_name_byte xs ≡ true
bytes_of_name [] all = refl
bytes_of_name (x ∷ xs) all =
    let h = and_parts (is_letter x) (list_all is_letter xs) all in
    λ i. byte_of_name x h.0 i && bytes_of_name xs h.1 i

-- a name of a field, or of a method
pub name_of_member : (n : ℕ) → is_member_name (name_at n) ≡ true
unfolding is_member_name
name_of_member n = λ i. not (name_some n i) && bytes_of_name (name_at n) (name_letters n) i

-- ---- names of classes

whole : (xs : List ℕ) (c : Bool) → list_all is_letter xs ≡ true → (c || not (length xs == 0)) ≡ true
    → parts_whole c xs ≡ true
whole [] true all some = refl
whole [] false all some = absurd cc
whole (x ∷ xs) c all some =
    let h = and_parts (is_letter x) (list_all is_letter xs) all in
    ap (λ (s : Bool). cond s (c && parts_whole false xs) (is_name_byte x && parts_whole true xs))
    (no_slash x h.0 (x == 47) refl)
    ∙ (λ i. byte_of_name x h.0 i && whole xs true h.1 refl i)

-- behind a `/` another part that is whole may stand
behind_slash : (xs ys zs : List ℕ) (c : Bool) → parts_whole c (xs ++ 47 ∷ ys) ≡ true → parts_whole false zs ≡ true
    → parts_whole c (xs ++ 47 ∷ zs) ≡ true
behind_slash [] ys zs true h k = k
behind_slash [] ys zs false h k = absurd cc
behind_slash (x ∷ xs) ys zs c h k = on (x == 47) c (is_name_byte x) h (λ c h. behind_slash xs ys zs c h k)
  where
    on : (s c f : Bool) → cond s (c && parts_whole false (xs ++ 47 ∷ ys)) (f && parts_whole true (xs ++ 47 ∷ ys)) ≡ true
        → ((c : Bool) → parts_whole c (xs ++ 47 ∷ ys) ≡ true → parts_whole c (xs ++ 47 ∷ zs) ≡ true)
        → cond s (c && parts_whole false (xs ++ 47 ∷ zs)) (f && parts_whole true (xs ++ 47 ∷ zs)) ≡ true
    on true true f h more = more false h
    on true false f h more = absurd cc
    on false c true h more = more true h
    on false c false h more = absurd cc

module _ (a : List ℕ) (n : ℕ) where
  fresh_parts : parts_whole false a ≡ true → parts_whole false (fresh (front_of a) n) ≡ true
  fresh_parts h = on (front_cases a)
    where
      new : parts_whole false (name_at n) ≡ true
      new = whole (name_at n) false (name_letters n) (ap not (name_some n))

      on : (front_of a ≡ []) ⊎ ((xs : List ℕ) × (ys : List ℕ) × (front_of a ≡ xs ++ 47 ∷ []) × (a ≡ xs ++ 47 ∷ ys))
          → parts_whole false (fresh (front_of a) n) ≡ true
      on (inl none) = ap (λ (f : List ℕ). parts_whole false (f ++ name_at n)) none ∙ new
      on (inr (xs, ys, front, is)) =
          ap (λ (f : List ℕ). parts_whole false (f ++ name_at n)) front
          ∙ ap (parts_whole false) (append_assoc xs (47 ∷ []) (name_at n))
          ∙ behind_slash xs ys (name_at n) false (ap (parts_whole false) (sym is) ∙ h) new

  -- one that isn't a word which stands for another type names a class where the old one does
  pub fresh_class : is_class_name a ≡ true → is_primitive_or_void (fresh (front_of a) n) ≡ false
      → is_class_name (fresh (front_of a) n) ≡ true
  fresh_class is other = class_name_is (fresh (front_of a) n) ∙ (λ i. fresh_parts (class_parts a is) i && not (other i))

  pub fresh_utf8 : IsUtf8 a → IsUtf8 (fresh (front_of a) n)
  fresh_utf8 h = IsUtf8-append (front_of a) (name_at n) (on (front_cases a)) (name_utf8 n)
    where
      on : (front_of a ≡ []) ⊎ ((xs : List ℕ) × (ys : List ℕ) × (front_of a ≡ xs ++ 47 ∷ []) × (a ≡ xs ++ 47 ∷ ys))
          → IsUtf8 (front_of a)
      on (inl none) = subst (λ (l : List ℕ). IsUtf8 l) (sym none) IsUtf8-nil
      on (inr (xs, ys, front, is)) =
          let text = xs ++ 47 ∷ ys in
          let whole_text : IsUtf8 text = subst (λ (l : List ℕ). IsUtf8 l) is h in
          let here = get_or-append_seam xs 47 ys 0 in
          let seam =
          IsCharBoundary-after_ascii text (length xs) whole_text (omega (arith, length-append xs (47 ∷ ys)))
          (omega (arith, here)) in
          subst (λ (l : List ℕ). IsUtf8 l) (take-append-add xs (47 ∷ ys) 1 ∙ sym front)
          (IsUtf8-take text (length xs + 1) whole_text seam)

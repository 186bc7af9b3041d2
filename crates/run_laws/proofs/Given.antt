-- What words spell is what an entry may be given: typed strings and arrays, and values of the parameters' types.
use Rattle.std.proofs.Common.{◌≡◌, ◌≤◌, ◌<◌, ◌^◌, ◌+◌, ◌-◌, ◌==◌, ◌&&◌, ℕ, suc, Bool, true, false, cond, List, [], ◌∷◌, ◌++◌}
use Rattle.std.proofs.Common.{length, length-append, map, Option, Some, None, refl, sym, ap, subst, ◌∙◌, arith}
use Rattle.std.proofs.Common.{ltb}
use Rattle.std.specs.Prelude.{ℤ, pos, neg_ℤ, codes, nat_lt, slice_get}
use Rattle.std.specs.Int.{w8, w16, w32, w64, int_rem_euclid, int_wrap}
use Rattle.std.specs.Int.RustNames.{FitsSigned}
use Rattle.std.specs.List.{AllZip, list_all, range_with_len}
use Rattle.std.specs.Option.{option_map, option_map_or}
use Rattle.std.specs.Ordering.{int_eq}
use Rattle.std.specs.Str.Parse.{digits_value}
use Rattle.std.proofs.Math.Nat.{mod-eq_of_lt}
use Rattle.std.proofs.Math.Seq.{get_or-append_seam}
use Rattle.std.proofs.lemmas.Bool.{and_from, and_parts, eqb-true, ltb-true}
use Rattle.std.proofs.lemmas.Bool.Decides.{Decides-int_eq}
use Rattle.std.proofs.lemmas.Int.{int_wrap_fits, ints}
use Rattle.std.proofs.lemmas.List.{append_assoc, length-map}
use Rattle.std.proofs.lemmas.List.Folds.{list_all-append, list_all-map}
use Rattle.std.proofs.lemmas.List.FromFn.{length-map-range_with_len}
use Rattle.std.proofs.lemmas.Option.{same_Some, slice_get-get_or}
use Rattle.jv_base.specs.Names.{is_text}
use Rattle.jv_base.specs.Utf16.{units_of}
use Rattle.jv_base.specs.declared.types.Base.{Base}
use Rattle.jv_base.specs.declared.types.Base.TheVariants as base
use Rattle.jv_base.specs.declared.types.FieldType.{FieldType}
use Rattle.jv_base.proofs.Equality.{same_text, text_is, text_itself}
use Rattle.text_lines.specs.Cut.{after, where_true}
use Rattle.text_lines.specs.Numbers.{is_numeral, number_below}
use Rattle.class_run.specs.Started.{Started, started, started_from}
use Rattle.class_run.specs.declared.ended.Arg.{Arg}
use Rattle.class_run.specs.declared.ended.Arg.TheVariants as arg
use Rattle.jvm_model.specs.Heap.{Array, Object, Str, string, type_of}
use Rattle.jvm_model.specs.Start.{are_units, is_number_of, is_plain, is_same_type, is_typed, is_value_of}
use Rattle.jvm_model.specs.Types.{array_of, class_type, kind_of}
use Rattle.jvm_model.specs.Value.{Int, Long, Ref, is_of}
use Rattle.run_command.specs.Arguments.{arg_in, arg_of_base, args_in, as_texts, before, int, is_string}
use Rattle.run_command.specs.Arguments.{is_texts, long, signed, signed_by, strings_in, texts_in}

-- ---- numbers

-- the number is below its limit
below_limit : (limit : ℕ) (word : List ℕ) (n : ℕ) → number_below limit word ≡ Some n → n < limit
unfolding number_below
below_limit limit word n e = by (is_numeral word && ltb (digits_value 10 word) limit) refl e
  where
    by : (b : Bool) → (is_numeral word && ltb (digits_value 10 word) limit) ≡ b
        → where_true b (digits_value 10 word) ≡ Some n → n < limit
    by false h e = absurd cc
    by true h e =
        subst (λ (m : ℕ). m < limit) (same_Some (digits_value 10 word) n e)
        (ltb-true (digits_value 10 word) limit (and_parts (is_numeral word) (ltb (digits_value 10 word) limit) h).1)

-- it lies within the limit on both sides
data Lies (limit : ℕ) (z : ℤ) : Type 0 where
  above : (n : ℕ) → z ≡ pos n → n < limit → Lies limit z
  below : (n : ℕ) → z ≡ neg_ℤ (pos n) → n ≤ limit → Lies limit z

lies : (limit : ℕ) (word : List ℕ) (z : ℤ) → signed limit word ≡ Some z → Lies limit z
unfolding signed
lies limit word z e = by (after (codes "~") word) e
  where
    whole : (o : Option ℕ) → number_below limit word ≡ o → option_map (λ n. pos n) o ≡ Some z → Lies limit z
    whole None is e = absurd cc
    whole (Some n) is e = above n (sym (same_Some (pos n) z e)) (below_limit limit word n is)

    behind : (digits : List ℕ) (o : Option ℕ) → number_below (limit + 1) digits ≡ o
        → option_map (λ n. neg_ℤ (pos n)) o ≡ Some z → Lies limit z
    behind digits None is e = absurd cc
    behind digits (Some n) is e =
        let low = below_limit (limit + 1) digits n is in
        below n (sym (same_Some (neg_ℤ (pos n)) z e)) (omega (arith, low))

    by : (o : Option (List ℕ)) → signed_by limit word o ≡ Some z → Lies limit z
    by None e = whole (number_below limit word) refl e
    by (Some digits) e = behind digits (number_below (limit + 1) digits) refl e

fits8 : (z : ℤ) → Lies 128 z → FitsSigned w8 z
fits8 z (above n e low) = subst (λ (y : ℤ). FitsSigned w8 y) (sym e) (record { sfits = omega (arith, ints, low) })
fits8 z (below n e low) = subst (λ (y : ℤ). FitsSigned w8 y) (sym e) (record { sfits = omega (arith, ints, low) })

fits16 : (z : ℤ) → Lies 32768 z → FitsSigned w16 z
fits16 z (above n e low) = subst (λ (y : ℤ). FitsSigned w16 y) (sym e) (record { sfits = omega (arith, ints, low) })
fits16 z (below n e low) = subst (λ (y : ℤ). FitsSigned w16 y) (sym e) (record { sfits = omega (arith, ints, low) })

fits32 : (z : ℤ) → Lies 2147483648 z → FitsSigned w32 z
fits32 z (above n e low) = subst (λ (y : ℤ). FitsSigned w32 y) (sym e) (record { sfits = omega (arith, ints, low) })
fits32 z (below n e low) = subst (λ (y : ℤ). FitsSigned w32 y) (sym e) (record { sfits = omega (arith, ints, low) })

fits64 : (z : ℤ) → Lies 9223372036854775808 z → FitsSigned w64 z
fits64 z (above n e low) = subst (λ (y : ℤ). FitsSigned w64 y) (sym e) (record { sfits = omega (arith, ints, low) })
fits64 z (below n e low) = subst (λ (y : ℤ). FitsSigned w64 y) (sym e) (record { sfits = omega (arith, ints, low) })

same_number : (x y : ℤ) → x ≡ y → int_eq x y ≡ true
same_number x y e = (Decides-int_eq x y).1 e

-- ---- what an argument has to be

abbrev IsRight : FieldType → Arg → Type 0
IsRight ty (arg.Int z) = (is_plain ty ≡ true) × ((is_of (kind_of ty) (Int z) && is_number_of ty.base z) ≡ true)
IsRight ty (arg.Long z) = (is_plain ty ≡ true) × ((is_of (kind_of ty) (Long z) && is_number_of ty.base z) ≡ true)
IsRight ty (arg.Text units) =
    (is_plain ty ≡ true) × (is_same_type (class_type string) ty ≡ true) × (are_units units ≡ true)
IsRight ty (arg.Texts texts) =
    (is_plain ty ≡ true) × (is_same_type (array_of (class_type string)) ty ≡ true)
    × (list_all are_units texts ≡ true) × (nat_lt (length texts) (2 ^ 31) ≡ true)

turned : (a b : List ℕ) → is_text a b ≡ true → is_text b a ≡ true
turned a b h = text_is b a (sym (same_text a b h))

abbrev plain_type : Base → FieldType
plain_type b = record { dims = 0; base = b }

int_right : (b : Base) (limit : ℕ) (word : List ℕ) (a : Arg) → int limit word ≡ Some a
    → ((z : ℤ) → Lies limit z → IsRight (plain_type b) (arg.Int z)) → IsRight (plain_type b) a
int_right b limit word a e h = by (signed limit word) refl e
  where
    by : (o : Option ℤ) → signed limit word ≡ o → option_map (λ z. arg.Int z) o ≡ Some a → IsRight (plain_type b) a
    by None is e = absurd cc
    by (Some z) is e =
        subst (IsRight (plain_type b)) (same_Some (arg.Int z) a e) (h z (lies limit word z is))

of_base : (b : Base) (word : List ℕ) (a : Arg) → arg_of_base b word ≡ Some a → IsRight (plain_type b) a
unfolding arg_of_base
of_base base.Boolean word a e = by (is_text word (codes "true")) (is_text word (codes "false")) e
  where
    by : (b c : Bool) → cond b (Some (arg.Int (pos 1))) (cond c (Some (arg.Int (pos 0))) None) ≡ Some a
        → IsRight (plain_type base.Boolean) a
    by true c e = subst (IsRight (plain_type base.Boolean)) (same_Some (arg.Int (pos 1)) a e) (refl, refl)
    by false true e = subst (IsRight (plain_type base.Boolean)) (same_Some (arg.Int (pos 0)) a e) (refl, refl)
    by false false e = absurd cc
of_base base.Byte word a e = int_right base.Byte 128 word a e
    (λ z l. (refl, same_number (int_wrap w8 z) z (int_wrap_fits w8 z (fits8 z l))))
of_base base.Char word a e = by (number_below 65536 word) refl e
  where
    by : (o : Option ℕ) → number_below 65536 word ≡ o → option_map (λ n. arg.Int (pos n)) o ≡ Some a
        → IsRight (plain_type base.Char) a
    by None is e = absurd cc
    by (Some n) is e = subst (IsRight (plain_type base.Char)) (same_Some (arg.Int (pos n)) a e) (
      refl,
      same_number (int_rem_euclid (pos n) (pos 65536)) (pos n)
          (ap pos (mod-eq_of_lt (below_limit 65536 word n is))),
    )
of_base base.Short word a e = int_right base.Short 32768 word a e
    (λ z l. (refl, same_number (int_wrap w16 z) z (int_wrap_fits w16 z (fits16 z l))))
of_base base.Int word a e = int_right base.Int 2147483648 word a e
    (λ z l. (refl, same_number (int_wrap w32 z) z (int_wrap_fits w32 z (fits32 z l))))
of_base base.Long word a e = by (signed 9223372036854775808 word) refl e
  where
    by : (o : Option ℤ) → signed 9223372036854775808 word ≡ o → option_map (λ z. arg.Long z) o ≡ Some a
        → IsRight (plain_type base.Long) a
    by None is e = absurd cc
    by (Some z) is e = subst (IsRight (plain_type base.Long)) (same_Some (arg.Long z) a e)
        (refl, same_number (int_wrap w64 z) z (int_wrap_fits w64 z (fits64 z (lies 9223372036854775808 word z is))))
of_base (base.Class name) word a e = by (is_text name string) refl (are_units (units_of word)) refl e
  where
    by : (b : Bool) → is_text name string ≡ b → (c : Bool) → are_units (units_of word) ≡ c
        → cond b (option_map (λ units. arg.Text units) (cond c (Some (units_of word)) None)) None ≡ Some a
        → IsRight (plain_type (base.Class name)) a
    by false h c k e = absurd cc
    by true h false k e = absurd cc
    by true h true k e = subst (IsRight (plain_type (base.Class name))) (same_Some (arg.Text (units_of word)) a e)
        (h, turned name string h, k)
of_base base.Float word a e = absurd cc
of_base base.Double word a e = absurd cc

pub one_right : (ty : FieldType) (word : List ℕ) (a : Arg) → arg_in ty word ≡ Some a → IsRight ty a
one_right ty word a e = by (ty.dims == 0) refl e
  where
    by : (b : Bool) → (ty.dims == 0) ≡ b → cond b (arg_of_base ty.base word) None ≡ Some a → IsRight ty a
    by false h e = absurd cc
    by true h e =
        let flat = eqb-true ty.dims 0 h in
        subst (λ (d : ℕ). IsRight (record { dims = d; base = ty.base }) a) (sym flat) (of_base ty.base word a e)

-- ---- strings

strings_right : (words texts : List (List ℕ)) → strings_in words ≡ Some texts
    → (list_all are_units texts ≡ true) × (length texts ≡ length words)
unfolding strings_in
strings_right [] texts e = subst (λ (t : List (List ℕ)). (list_all are_units t ≡ true) × (length t ≡ 0))
    (same_Some [] texts e) (refl, refl)
strings_right (word ∷ words) texts e =
    by (are_units (units_of word)) refl (strings_in words) refl e (strings_right words)
  where
    by : (b : Bool) → are_units (units_of word) ≡ b → (o : Option (List (List ℕ))) → strings_in words ≡ o
        → before (cond b (Some (units_of word)) None) o ≡ Some texts
        → ((others : List (List ℕ)) → strings_in words ≡ Some others
        → (list_all are_units others ≡ true) × (length others ≡ length words))
        → (list_all are_units texts ≡ true) × (length texts ≡ length (word ∷ words))
    by false h o is e behind = absurd cc
    by true h None is e behind = absurd cc
    by true h (Some others) is e behind =
        let r = behind others is in
        subst (λ (t : List (List ℕ)). (list_all are_units t ≡ true) × (length t ≡ length (word ∷ words)))
        (same_Some (units_of word ∷ others) texts e)
        (and_from (are_units (units_of word)) (list_all are_units others) h r.0, ap suc r.1)

texts_right : (ty : FieldType) (words texts : List (List ℕ)) → is_texts ty ≡ true → texts_in words ≡ Some texts
    → IsRight ty (arg.Texts texts)
texts_right ty words texts h e =
    let p = and_parts (ty.dims == 1) (is_string ty.base) h in
    let one = eqb-true ty.dims 1 p.0 in
    subst (λ (d : ℕ). IsRight (record { dims = d; base = ty.base }) (arg.Texts texts)) (sym one)
    (of_class ty.base p.1 (nat_lt (length words) (2 ^ 31)) refl e)
  where
    of_class : (b : Base) → is_string b ≡ true → (short : Bool) → nat_lt (length words) (2 ^ 31) ≡ short
        → cond short (strings_in words) None ≡ Some texts
        → IsRight (record { dims = 1; base = b }) (arg.Texts texts)
    of_class (base.Class name) h false short e = absurd cc
    of_class (base.Class name) h true short e =
        let r = strings_right words texts e in
        (h, turned name string h, r.0, ap (λ (n : ℕ). nat_lt n (2 ^ 31)) r.1 ∙ short)
    of_class base.Boolean h b short e = absurd cc
    of_class base.Byte h b short e = absurd cc
    of_class base.Char h b short e = absurd cc
    of_class base.Short h b short e = absurd cc
    of_class base.Int h b short e = absurd cc
    of_class base.Long h b short e = absurd cc
    of_class base.Float h b short e = absurd cc
    of_class base.Double h b short e = absurd cc

-- ---- a heap behind what is there

-- what is given is typed, in a heap that has all objects
record IsGiven (all : List Object) (types : List FieldType) (s : Started) : Type 0 where
  pub heap : list_all (is_typed all) s.heap ≡ true
  pub args : AllZip (λ t v. (is_plain t ≡ true) × (is_value_of all t v ≡ true)) types s.args

there : {X : Type 0} (xs : List X) (y : X) (ys : List X) (n : ℕ) → length xs ≡ n
    → slice_get (xs ++ y ∷ ys) n ≡ Some y
there {X} xs y ys n e =
    let long = length-append xs (y ∷ ys) in
    let within : length xs < length (xs ++ y ∷ ys) = omega (arith, long) in
    ap (slice_get (xs ++ y ∷ ys)) (sym e) ∙ slice_get-get_or (xs ++ y ∷ ys) (length xs) y within
    ∙ ap (λ (z : X). let o : Option X = Some z in o) (get_or-append_seam xs y ys y)

-- references to strings that follow one another
references_right : (front : List Object) (texts : List (List ℕ)) (behind : List Object) (n : ℕ) → length front ≡ n
    → list_all (is_value_of (front ++ (map Str texts ++ behind)) (class_type string))
    (map Ref (range_with_len n (length texts))) ≡ true
references_right front [] behind n e = refl
references_right front (units ∷ texts) behind n e =
    let all = front ++ (map Str (units ∷ texts) ++ behind) in
    let here : slice_get all n ≡ Some (Str units) = there front (Str units) (map Str texts ++ behind) n e in
    let first : is_value_of all (class_type string) (Ref n) ≡ true =
    ap (λ o. option_map_or (λ x. is_same_type (type_of x) (class_type string)) o false) here
    ∙ text_itself string in
    let long = length-append front (Str units ∷ []) in
    let next : length (front ++ Str units ∷ []) ≡ n + 1 = omega (arith, long, e) in
    let rest = references_right (front ++ Str units ∷ []) texts behind (n + 1) next in
    and_from (is_value_of all (class_type string) (Ref n)) _ first
    (subst (λ (h : List Object). list_all (is_value_of h (class_type string))
    (map Ref (range_with_len (n + 1) (length texts))) ≡ true)
    (append_assoc front (Str units ∷ []) (map Str texts ++ behind)) rest)

-- the strings and their array
abbrev array_at : ℕ → List (List ℕ) → Object
array_at n texts = Array (class_type string) (map Ref (range_with_len n (length texts)))

strings_typed : (all : List Object) (texts : List (List ℕ)) → list_all are_units texts ≡ true
    → list_all (is_typed all) (map Str texts) ≡ true
strings_typed all texts h = list_all-map (is_typed all) Str texts ∙ h

module _ (types : List FieldType) (rest : List Arg)
    (given : (front : List Object) (n : ℕ) → length front ≡ n
    → IsGiven (front ++ (started_from n rest).heap) types (started_from n rest)) where
  text_given : (ty : FieldType) (units : List ℕ) → IsRight ty (arg.Text units) → (front : List Object) (n : ℕ)
      → length front ≡ n
      → IsGiven (front ++ (started_from n (arg.Text units ∷ rest)).heap) (ty ∷ types)
      (started_from n (arg.Text units ∷ rest))
  text_given ty units right front n e =
      let long = length-append front (Str units ∷ []) in
      let next : length (front ++ Str units ∷ []) ≡ n + 1 = omega (arith, long, e) in
      let s = started_from (n + 1) rest in
      let all = front ++ (Str units ∷ s.heap) in
      let g : IsGiven all types s = subst (λ (h : List Object). IsGiven h types s)
      (append_assoc front (Str units ∷ []) s.heap) (given (front ++ Str units ∷ []) (n + 1) next) in
      record {
        heap = and_from (are_units units) (list_all (is_typed all) s.heap) right.2 g.heap;
        args = (
          (
            right.0,
            ap (λ o. option_map_or (λ x. is_same_type (type_of x) ty) o false) (there front (Str units) s.heap n e)
                ∙ right.1,
          ),
          g.args,
        );
      }

  texts_given : (ty : FieldType) (texts : List (List ℕ)) → IsRight ty (arg.Texts texts) → (front : List Object)
      (n : ℕ) → length front ≡ n
      → IsGiven (front ++ (started_from n (arg.Texts texts ∷ rest)).heap) (ty ∷ types)
      (started_from n (arg.Texts texts ∷ rest))
  texts_given ty texts right front n e =
      let array = array_at n texts in
      let strings = map Str texts in
      let s = started_from (n + length texts + 1) rest in
      let all = front ++ (strings ++ array ∷ s.heap) in
      let many = length-map texts Str in
      let put : (strings ++ array ∷ []) ++ s.heap ≡ strings ++ array ∷ s.heap =
      append_assoc strings (array ∷ []) s.heap in
      let whole : front ++ (strings ++ array ∷ s.heap) ≡ front ++ ((strings ++ array ∷ []) ++ s.heap) =
      ap (λ (h : List Object). front ++ h) (sym put) in
      let one = length-append strings (array ∷ []) in
      let long = length-append front (strings ++ array ∷ []) in
      let next : length (front ++ (strings ++ array ∷ [])) ≡ n + length texts + 1 =
      omega (arith, long, one, many, e) in
      let g : IsGiven all types s = subst (λ (h : List Object). IsGiven h types s)
      (append_assoc front (strings ++ array ∷ []) s.heap ∙ sym whole)
      (given (front ++ (strings ++ array ∷ [])) (n + length texts + 1) next) in
      let typed : is_typed all array ≡ true = and_from
      (is_plain (class_type string)
      && list_all (is_value_of all (class_type string)) (map Ref (range_with_len n (length texts))))
      (nat_lt (length (map Ref (range_with_len n (length texts)))) (2 ^ 31))
      (and_from (is_plain (class_type string)) _ (text_itself string)
      (references_right front texts (array ∷ s.heap) n e))
      (ap (λ (k : ℕ). nat_lt k (2 ^ 31)) (length-map-range_with_len Ref n (length texts)) ∙ right.3) in
      let objects : list_all (is_typed all) (strings ++ array ∷ s.heap) ≡ true =
      list_all-append (is_typed all) strings (array ∷ s.heap)
      ∙ and_from (list_all (is_typed all) strings) _ (strings_typed all texts right.2)
      (and_from (is_typed all array) (list_all (is_typed all) s.heap) typed g.heap) in
      let before_array = length-append front strings in
      let place : length (front ++ strings) ≡ n + length texts = omega (arith, before_array, many, e) in
      let here : slice_get all (n + length texts) ≡ Some array =
      ap (λ (h : List Object). slice_get h (n + length texts)) (sym (append_assoc front strings (array ∷ s.heap)))
      ∙ there (front ++ strings) array s.heap (n + length texts) place in
      subst (λ (h : List Object). IsGiven h (ty ∷ types) (started_from n (arg.Texts texts ∷ rest))) whole
      (record {
        heap = ap (list_all (is_typed all)) put ∙ objects;
        args = (
          (right.0, ap (λ o. option_map_or (λ x. is_same_type (type_of x) ty) o false) here ∙ right.1),
          g.args,
        );
      })

  one_given : (ty : FieldType) (a : Arg) → IsRight ty a → (front : List Object) (n : ℕ) → length front ≡ n
      → IsGiven (front ++ (started_from n (a ∷ rest)).heap) (ty ∷ types) (started_from n (a ∷ rest))
  one_given ty (arg.Int z) right front n e =
      let g = given front n e in record { heap = g.heap; args = (right, g.args) }
  one_given ty (arg.Long z) right front n e =
      let g = given front n e in record { heap = g.heap; args = (right, g.args) }
  one_given ty (arg.Text units) right front n e = text_given ty units right front n e
  one_given ty (arg.Texts texts) right front n e = texts_given ty texts right front n e

-- ---- all arguments

abbrev AreGiven : List FieldType → List Arg → Type 0
AreGiven types args = (front : List Object) (n : ℕ) → length front ≡ n
    → IsGiven (front ++ (started_from n args).heap) types (started_from n args)

none_given : AreGiven [] []
none_given front n e = record { heap = refl; args = tt }

last_given : (ty : FieldType) (types : List FieldType) (words : List (List ℕ)) (args : List Arg)
    → (length types == 0 && is_texts ty) ≡ true → as_texts (texts_in words) ≡ Some args
    → AreGiven (ty ∷ types) args
last_given ty types words args h e = by types (and_parts (length types == 0) (is_texts ty) h) (texts_in words) refl e
  where
    by : (types : List FieldType) → ((length types == 0) ≡ true) × (is_texts ty ≡ true)
        → (o : Option (List (List ℕ))) → texts_in words ≡ o → as_texts o ≡ Some args → AreGiven (ty ∷ types) args
    by types p None is e = absurd cc
    by [] p (Some texts) is e = subst (AreGiven (ty ∷ [])) (same_Some (arg.Texts texts ∷ []) args e)
        (one_given [] [] none_given ty (arg.Texts texts) (texts_right ty words texts p.1 is))
    by (t ∷ types) p (Some texts) is e = let q = eqb-true (length (t ∷ types)) 0 p.0 in absurd (omega (arith, q))

all_given : (types : List FieldType) (words : List (List ℕ)) (args : List Arg) → args_in types words ≡ Some args
    → AreGiven types args
unfolding args_in
all_given [] [] args e = subst (AreGiven []) (same_Some [] args e) none_given
all_given [] (word ∷ words) args e = absurd cc
all_given (ty ∷ types) [] args e = by (length types == 0 && is_texts ty) refl e
  where
    by : (b : Bool) → (length types == 0 && is_texts ty) ≡ b → cond b (as_texts (texts_in [])) None ≡ Some args
        → AreGiven (ty ∷ types) args
    by false h e = absurd cc
    by true h e = last_given ty types [] args h e
all_given (ty ∷ types) (word ∷ words) args e =
    by (length types == 0 && is_texts ty) refl e (all_given types words)
  where
    more : (o : Option Arg) → arg_in ty word ≡ o → (p : Option (List Arg)) → args_in types words ≡ p
        → before o p ≡ Some args
        → ((rest : List Arg) → args_in types words ≡ Some rest → AreGiven types rest)
        → AreGiven (ty ∷ types) args
    more None is p are e behind = absurd cc
    more (Some a) is None are e behind = absurd cc
    more (Some a) is (Some rest) are e behind = subst (AreGiven (ty ∷ types)) (same_Some (a ∷ rest) args e)
        (one_given types rest (behind rest are) ty a (one_right ty word a is))

    by : (b : Bool) → (length types == 0 && is_texts ty) ≡ b
        → cond b (as_texts (texts_in (word ∷ words))) (before (arg_in ty word) (args_in types words)) ≡ Some args
        → ((rest : List Arg) → args_in types words ≡ Some rest → AreGiven types rest)
        → AreGiven (ty ∷ types) args
    by true h e behind = last_given ty types (word ∷ words) args h e
    by false h e behind = more (arg_in ty word) refl (args_in types words) refl e behind

-- behind the stream
pub heap_typed : (types : List FieldType) (words : List (List ℕ)) (args : List Arg) (stream : Object)
    → args_in types words ≡ Some args
    → list_all (is_typed (stream ∷ (started args).heap)) (started args).heap ≡ true
heap_typed types words args stream e = (all_given types words args e (stream ∷ []) 1 refl).heap

pub args_right : (types : List FieldType) (words : List (List ℕ)) (args : List Arg) (stream : Object)
    → args_in types words ≡ Some args
    → AllZip (λ t v. (is_plain t ≡ true) × (is_value_of (stream ∷ (started args).heap) t v ≡ true)) types
    (started args).args
args_right types words args stream e = (all_given types words args e (stream ∷ []) 1 refl).args

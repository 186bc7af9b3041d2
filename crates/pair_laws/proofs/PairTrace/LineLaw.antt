-- The line of a frame tells the frame.
use Rattle.std.proofs.Common.{◌≡◌, inl, inr, ℕ, suc, ◌+◌, ◌-◌, not, ◌&&◌, ◌==◌, ◌||◌, Bool, true, false, cond}
use Rattle.std.proofs.Common.{List, [], ◌∷◌, ◌++◌, length, take, drop, Some, None, refl, sym, ap, ◌∙◌, arith}
use Rattle.std.proofs.Common.{codes}
use Rattle.std.specs.List.{list_any, position, slice_index}
use Rattle.std.specs.Option.{option_map}
use Rattle.std.specs.Str.{is_utf8}
use Rattle.std.proofs.lemmas.Bool.{eq-eqb, ne_eqb}
use Rattle.std.proofs.lemmas.List.{append-nil}
use Rattle.jv_base.specs.Names.{is_method_name}
use Rattle.class_pool.proofs.Distinct.{position_next}
use Rattle.text_lines.specs.Cut.{◌>>=◌, where_true}
use Rattle.text_lines.specs.Lines.{is_blank}
use Rattle.text_lines.specs.Numbers.{are_digits}
use Rattle.retrace_core.specs.Cut.{behind, last_of, last_place_of, place_of}
use Rattle.retrace_core.specs.Frames.{Frame, class_and_method, closed, frame_behind, frame_of, lacks_end, number_from}
use Rattle.retrace_core.specs.Frames.{number_in, number_of, numbered}
use Rattle.retrace_core.specs.Retraced.{frame_text}
use Rattle.pair_laws.specs.PairTrace.FrameLines.{HasNone, IsNumber}

-- ---- places

place_at : (byte : ℕ) (xs tail : List ℕ) → HasNone byte xs → place_of byte (xs ++ byte ∷ tail) ≡ Some (length xs)
place_at byte [] tail none =
    position_next (λ b. b == byte) byte tail
    ∙ ap (λ (b : Bool). cond b (Some 0) (option_map suc (position (λ b. b == byte) tail))) (eq-eqb byte byte refl)
place_at byte (x ∷ xs) tail none =
    position_next (λ b. b == byte) x (xs ++ byte ∷ tail)
    ∙ ap (λ (b : Bool). cond b (Some 0) (option_map suc (position (λ b. b == byte) (xs ++ byte ∷ tail)))) none.0
    ∙ ap (option_map suc) (place_at byte xs tail none.1)

place_none : (byte : ℕ) (xs : List ℕ) → HasNone byte xs → place_of byte xs ≡ None
place_none byte [] none = refl
place_none byte (x ∷ xs) none =
    position_next (λ b. b == byte) x xs
    ∙ ap (λ (b : Bool). cond b (Some 0) (option_map suc (position (λ b. b == byte) xs))) none.0
    ∙ ap (option_map suc) (place_none byte xs none.1)

last_none : (byte : ℕ) (xs : List ℕ) → HasNone byte xs → last_place_of byte xs ≡ None
unfolding last_place_of
last_none byte [] none = refl
last_none byte (x ∷ xs) none =
    ap (last_of (x == byte)) (last_none byte xs none.1) ∙ ap (λ (b : Bool). cond b (Some 0) None) none.0

last_at : (byte : ℕ) (xs ys : List ℕ) → HasNone byte ys → last_place_of byte (xs ++ byte ∷ ys) ≡ Some (length xs)
unfolding last_place_of
last_at byte [] ys none =
    ap (last_of (byte == byte)) (last_none byte ys none)
    ∙ ap (λ (b : Bool). cond b (Some 0) None) (eq-eqb byte byte refl)
last_at byte (x ∷ xs) ys none =
    ap (last_of (x == byte)) (last_at byte xs ys none) ∙ ap (λ (n : ℕ). Some n) (omega arith)

taken : (xs ys : List ℕ) → take (length xs) (xs ++ ys) ≡ xs
taken [] [] = refl
taken [] (y ∷ ys) = refl
taken (x ∷ xs) ys = ap (λ (t : List ℕ). x ∷ t) (taken xs ys)

dropped : (xs ys : List ℕ) → drop (length xs) (xs ++ ys) ≡ ys
dropped [] [] = refl
dropped [] (y ∷ ys) = refl
dropped (x ∷ xs) ys = dropped xs ys

behind_one : (xs ys : List ℕ) (x : ℕ) → drop (length xs + 1) (xs ++ x ∷ ys) ≡ ys
behind_one [] ys x = dropped [] ys
behind_one (y ∷ xs) ys x =
    let next : length (y ∷ xs) + 1 ≡ suc (length xs + 1) = omega arith in
    ap (λ (n : ℕ). drop n (y ∷ (xs ++ x ∷ ys))) next ∙ behind_one xs ys x

at_end : (xs ys : List ℕ) (x : ℕ) → slice_index (xs ++ x ∷ ys) (length xs) ≡ x
at_end [] ys x = refl
at_end (y ∷ xs) ys x = at_end xs ys x

long : (xs : List ℕ) (x : ℕ) → length (xs ++ x ∷ []) - 1 ≡ length xs
long [] x = refl
long (y ∷ xs) x = let rest = long xs x in let more = one xs x in omega (arith, rest, more)
  where
    one : (xs : List ℕ) (x : ℕ) → length (xs ++ x ∷ []) ≡ length xs + 1
    one [] x = refl
    one (y ∷ xs) x = let rest = one xs x in omega (arith, rest)

append_assoc : (xs ys zs : List ℕ) → (xs ++ ys) ++ zs ≡ xs ++ (ys ++ zs)
append_assoc [] ys zs = refl
append_assoc (x ∷ xs) ys zs = ap (λ (t : List ℕ). x ∷ t) (append_assoc xs ys zs)

none_append : (byte : ℕ) (xs ys : List ℕ) → HasNone byte xs → HasNone byte ys → HasNone byte (xs ++ ys)
none_append byte [] ys h k = k
none_append byte (x ∷ xs) ys h k = (h.0, none_append byte xs ys h.1 k)

no_byte : (byte : ℕ) (xs : List ℕ) → HasNone byte xs → list_any (λ b. b == byte) xs ≡ false
no_byte byte [] none = refl
no_byte byte (x ∷ xs) none =
    ap (λ (b : Bool). b || list_any (λ b. b == byte) xs) none.0 ∙ no_byte byte xs none.1

-- ---- what stands between the parentheses

number_read : (source number : List ℕ) → HasNone 58 source → HasNone 41 source → IsNumber number
    → number_in (source ++ number) ≡ Some number
unfolding number_in
number_read source number colon end (inl empty) =
    let plain : source ++ number ≡ source = ap (λ (t : List ℕ). source ++ t) empty ∙ append-nil source in
    ap (λ (t : List ℕ). number_from (place_of 58 t) t) plain
    ∙ ap (λ o. number_from o source) (place_none 58 source colon)
    ∙ ap (λ (b : Bool). where_true (not b) []) (no_byte 41 source end) ∙ ap (λ (t : List ℕ). Some t) (sym empty)
number_read source number colon end (inr (d, ds, digits, is)) =
    ap (λ (t : List ℕ). number_from (place_of 58 (source ++ t)) (source ++ t)) is
    ∙ ap (λ o. number_from o (source ++ (58 ∷ (d ∷ ds)))) (place_at 58 source (d ∷ ds) colon)
    ∙ (λ i. numbered (taken source (58 ∷ (d ∷ ds)) i) (dropped source (58 ∷ (d ∷ ds)) i))
    ∙ ap (λ (b : Bool). cond b None (cond (are_digits (d ∷ ds)) (lacks_end source (58 ∷ (d ∷ ds))) None))
    (ne_eqb (length (58 ∷ (d ∷ ds))) 1 (λ e. omega (arith, e)))
    ∙ ap (λ (b : Bool). cond b (lacks_end source (58 ∷ (d ∷ ds))) None) digits
    ∙ ap (λ (b : Bool). where_true (not b) (58 ∷ (d ∷ ds))) (no_byte 41 source end)
    ∙ ap (λ (t : List ℕ). Some t) (sym is)

number_told : (source number : List ℕ) → HasNone 58 source → HasNone 41 source → IsNumber number
    → number_of ((source ++ number) ++ 41 ∷ []) ≡ Some number
number_told source number colon end is =
    let body = source ++ number in
    let last = long body 41 in
    let shut : closed (body ++ 41 ∷ []) ≡ Some body =
    ap (λ (n : ℕ). cond (slice_index (body ++ 41 ∷ []) n == 41) (Some (take n (body ++ 41 ∷ []))) None) last
    ∙ ap (λ (b : ℕ). cond (b == 41) (Some (take (length body) (body ++ 41 ∷ []))) None) (at_end body [] 41)
    ∙ ap (λ (t : List ℕ). Some t) (taken body (41 ∷ [])) in
    ap (λ o. o >>= number_in) shut ∙ number_read source number colon end is

-- ---- a class and a method

named_read : (class method : List ℕ) → HasNone 46 method → (is_utf8 method && is_method_name method) ≡ true
    → class_and_method (class ++ 46 ∷ method) ≡ Some (class, method)
unfolding class_and_method
named_read class method dot good =
    ap (λ o. o >>= (λ dot. where_true (is_utf8 (drop (dot + 1) (class ++ 46 ∷ method))
    && is_method_name (drop (dot + 1) (class ++ 46 ∷ method)))
    (take dot (class ++ 46 ∷ method), drop (dot + 1) (class ++ 46 ∷ method)))) (last_at 46 class method dot)
    ∙ (λ i. where_true (is_utf8 (behind_one class method 46 i) && is_method_name (behind_one class method 46 i))
    (taken class (46 ∷ method) i, behind_one class method 46 i))
    ∙ ap (λ (b : Bool). where_true b (class, method)) good

-- ---- the line

blanks_read : (rest : List ℕ) → position (λ b. not (is_blank b)) (32 ∷ (32 ∷ (32 ∷ (32 ∷ (97 ∷ rest))))) ≡ Some 4
blanks_read rest =
    let test = λ (b : ℕ). not (is_blank b) in
    let five : position test (97 ∷ rest) ≡ Some 0 = position_next test 97 rest in
    let four : position test (32 ∷ (97 ∷ rest)) ≡ Some 1 = position_next test 32 (97 ∷ rest) ∙ ap
    (option_map suc) five in
    let three : position test (32 ∷ (32 ∷ (97 ∷ rest))) ≡ Some 2 =
    position_next test 32 (32 ∷ (97 ∷ rest)) ∙ ap (option_map suc) four in
    let two : position test (32 ∷ (32 ∷ (32 ∷ (97 ∷ rest)))) ≡ Some 3 =
    position_next test 32 (32 ∷ (32 ∷ (97 ∷ rest))) ∙ ap (option_map suc) three in
    position_next test 32 (32 ∷ (32 ∷ (32 ∷ (97 ∷ rest)))) ∙ ap (option_map suc) two

abbrev pub frame_with : List ℕ → List ℕ → List ℕ → Frame
frame_with class method number = record { blanks = codes "    "; class = class; method = method; number = number }

pub frame_read : (class method source number : List ℕ) → HasNone 40 class → HasNone 40 method → HasNone 46 method
    → (is_utf8 method && is_method_name method) ≡ true → HasNone 58 source → HasNone 41 source → IsNumber number
    → frame_of (frame_text (frame_with class method number) source) ≡ Some (frame_with class method number)
unfolding frame_of frame_behind
frame_read class method source number open_class open_method dot good colon end is =
    let tail = (source ++ number) ++ 41 ∷ [] in
    let head = class ++ 46 ∷ method in
    let text : class ++ (46 ∷ (method ++ (40 ∷ (source ++ (number ++ 41 ∷ []))))) ≡ head ++ (40 ∷ tail) =
    ap (λ (t : List ℕ). class ++ (46 ∷ (method ++ (40 ∷ t)))) (sym (append_assoc source number (41 ∷ [])))
    ∙ sym (append_assoc class (46 ∷ method) (40 ∷ tail)) in
    let none : HasNone 40 head = none_append 40 class (46 ∷ method) open_class (refl, open_method) in
    ap (λ o. o >>= (λ n. behind (codes "at ") (drop n (frame_text (frame_with class method number) source))
    >>= (λ text. frame_behind (take n (frame_text (frame_with class method number) source)) text)))
    (blanks_read (116 ∷ (32 ∷ (class ++ (46 ∷ (method ++ (40 ∷ (source ++ (number ++ 41 ∷ [])))))))))
    ∙ ap (λ (t : List ℕ). frame_behind (codes "    ") t) text
    ∙ ap (λ o. o >>= (λ paren. class_and_method (take paren (head ++ (40 ∷ tail)))
    >>= (λ named. number_of (drop (paren + 1) (head ++ (40 ∷ tail)))
    >>= (λ number. Some (record { blanks = codes "    "; class = named.0; method = named.1; number = number })))))
    (place_at 40 head tail none)
    ∙ (λ i. class_and_method (taken head (40 ∷ tail) i)
    >>= (λ named. number_of (behind_one head tail 40 i)
    >>= (λ number. Some (record { blanks = codes "    "; class = named.0; method = named.1; number = number }))))
    ∙ ap (λ o. o >>= (λ named. number_of tail
    >>= (λ number. Some (record { blanks = codes "    "; class = named.0; method = named.1; number = number }))))
    (named_read class method dot good)
    ∙ ap (λ o. o >>= (λ number. Some (record {
      blanks = codes "    ";
      class = class;
      method = method;
      number = number;
    })))
    (number_told source number colon end is)

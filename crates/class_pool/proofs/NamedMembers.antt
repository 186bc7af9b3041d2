-- Members by their names.
use Rattle.std.proofs.Common.{◌≡◌, ℕ, zero, suc, ◌+◌, ◌-◌, ◌<◌, ◌&&◌, Bool, true, false}
use Rattle.std.proofs.Common.{cond, not, nat_lt, List, [], ◌∷◌, ◌++◌, length, get_or, take, slice_get, Option, Some}
use Rattle.std.proofs.Common.{None, refl, sym, ap, subst, ◌∙◌, arith}
use Rattle.std.specs.List.{AllZip, position, position_or_len}
use Rattle.std.specs.Option.{option_map}
use Rattle.std.proofs.lemmas.Bool.{lt-ltb, le-ltb, ltb-true, ltb-false}
use Rattle.std.proofs.lemmas.List.{take_more}
use Rattle.std.proofs.lemmas.Option.{same_Some, slice_get_within}
use Rattle.std.proofs.lemmas.Slice.Zip.{all_zipped_more}
use Rattle.jv_base.specs.Names.{is_text}
use Rattle.jv_base.specs.Types.{field_text, method_text}
use Rattle.class_model.specs.declared.class.Class.{Class}
use Rattle.class_model.specs.declared.class.Field.{Field}
use Rattle.class_model.specs.declared.class.Method.{Method}
use Rattle.class_model.specs.InstructionMeaning.{or_else}
use Rattle.class_model.proofs.FirstOfTwo.{or_cond}
use Rattle.class_pool.specs.bodies.ByName.{IsIndexOf, named_in}
use Rattle.class_pool.specs.Members.{is_field, is_method, member_named, or_method}
use Rattle.class_pool.specs.declared.set.members.MemberIndex.{MemberIndex}

-- ---- the first member of a name and a descriptor

-- the least number below n that passes, else what was found behind
abbrev pub first_below : (ℕ → Bool) → ℕ → Option ℕ → Option ℕ
first_below test zero found = found
first_below test (suc n) found = first_below test n (cond (test n) (Some n) found)

first_else : (q : ℕ → Bool) (n : ℕ) (found : Option ℕ) → first_below q n found ≡ or_else (first_below q n None) found
first_else q zero found = refl
first_else q (suc n) found =
    first_else q n (cond (q n) (Some n) found) ∙ or_cond (first_below q n None) (q n) n found
    ∙ ap (λ o. or_else o found) (sym (first_else q n (cond (q n) (Some n) None)))

abbrev behind : ℕ → Option ℕ → Option ℕ
behind m found = option_map (λ k. m + k) found

put_behind : (m n : ℕ) (b : Bool) (found : Option ℕ)
    → cond b (Some (m + n)) (behind m found) ≡ behind m (cond b (Some n) found)
put_behind m n true found = refl
put_behind m n false found = refl

first_behind : (q : ℕ → Bool) (m n : ℕ) (found : Option ℕ)
    → first_below q (m + n) (behind m found) ≡ first_below q m (behind m (first_below (λ k. q (m + k)) n found))
first_behind q m zero found = ap (λ j. first_below q j (behind m found)) (none m)
  where
    none : (m : ℕ) → m + zero ≡ m
    none m = omega arith
first_behind q m (suc n) found =
    ap (λ j. first_below q j (behind m found)) (more m n)
    ∙ ap (first_below q (m + n)) (put_behind m n (q (m + n)) found)
    ∙ first_behind q m n (cond (q (m + n)) (Some n) found)
  where
    more : (m n : ℕ) → m + suc n ≡ suc (m + n)
    more m n = omega arith

same_below : (n m : ℕ) (b : Bool) → nat_lt n m ≡ b → nat_lt (1 + n) (suc m) ≡ b
same_below n m true e = let h = ltb-true n m e in lt-ltb (1 + n) (suc m) (omega (arith, h))
same_below n m false e = let h = ltb-false n m e in le-ltb (1 + n) (suc m) (omega (arith, h))

kept_behind : (t : Bool) (n : ℕ) → cond t (Some (1 + n)) None ≡ behind 1 (cond t (Some n) None)
kept_behind true n = refl
kept_behind false n = refl

pub position_step : (b : Bool) (n m : ℕ)
    → cond (nat_lt (cond (not b) (1 + n) 0) (suc m)) (Some (cond (not b) (1 + n) 0)) None
    ≡ cond b (Some 0) (behind 1 (cond (nat_lt n m) (Some n) None))
position_step true n m = ap (λ t. cond t (Some 0) None) (lt-ltb 0 (suc m) (omega arith))
position_step false n m = ap (λ t. cond t (Some (1 + n)) None) (same_below n m (nat_lt n m) refl)
    ∙ kept_behind (nat_lt n m) n

-- the first element that passes
pub first_is : {X : Type 0} (p : X → Bool) (xs : List X) (q : ℕ → Bool)
    → ((k : ℕ) (x : X) → slice_get xs k ≡ Some x → q k ≡ p x) → first_below q (length xs) None ≡ position p xs
first_is p [] q same = refl
first_is p (x ∷ xs) q same =
    ap (λ j. first_below q j None) (one_more (length xs)) ∙ first_behind q 1 (length xs) None
    ∙ ap (λ t. cond t (Some 0) (behind 1 (first_below (λ k. q (1 + k)) (length xs) None))) (same 0 x refl)
    ∙ ap (λ o. cond (p x) (Some 0) (behind 1 o))
    (first_is p xs (λ k. q (1 + k)) (λ k y is. ap q (sym (one_more k)) ∙ same (suc k) y is))
    ∙ sym (position_step (p x) (position_or_len p xs) (length xs))
  where
    one_more : (n : ℕ) → suc n ≡ 1 + n
    one_more n = omega arith

field_there : (c : Class) (k : ℕ) (f : Field) → slice_get c.fields k ≡ Some f → named_in c k ≡ (f.name, field_text f.ty)
field_there c k f is = rw (lt-ltb k (length c.fields) (slice_get_within c.fields k f is), is) refl

method_there : (c : Class) (k : ℕ) (m : Method) → slice_get c.methods k ≡ Some m
    → named_in c (length c.fields + k) ≡ (m.name, method_text m.ty)
method_there c k m is = rw
    (le-ltb (length c.fields + k) (length c.fields) (omega arith), less (length c.fields) k, is) refl
  where
    less : (n k : ℕ) → n + k - n ≡ k
    less n k = omega arith

-- the member has this name and this descriptor
abbrev pub is_wanted : Class → List ℕ → List ℕ → ℕ → Bool
is_wanted c name descriptor k = is_text (named_in c k).0 name && is_text descriptor (named_in c k).1

or_is : (c : Class) (name descriptor : List ℕ) (o : Option ℕ)
    → or_else o (behind (length c.fields) (position (is_method name descriptor) c.methods))
    ≡ or_method c name descriptor o
or_is c name descriptor (Some n) = refl
or_is c name descriptor None = refl

pub member_first : (c : Class) (name descriptor : List ℕ)
    → first_below (is_wanted c name descriptor) (length c.fields + length c.methods) None
    ≡ member_named c name descriptor
member_first c name descriptor =
    let q : ℕ → Bool = is_wanted c name descriptor in
    let n : ℕ = length c.fields in
    let tested : List ℕ × List ℕ → Bool = λ s. is_text s.0 name && is_text descriptor s.1 in
    first_behind q n (length c.methods) None
    ∙ ap (λ o. first_below q n (behind n o))
    (first_is (is_method name descriptor) c.methods (λ k. q (n + k)) (λ k m is. ap tested (method_there c k m is)))
    ∙ first_else q n (behind n (position (is_method name descriptor) c.methods))
    ∙ ap (λ o. or_else o (behind n (position (is_method name descriptor) c.methods)))
    (first_is (is_field name descriptor) c.fields q (λ k f is. ap tested (field_there c k f is)))
    ∙ or_is c name descriptor (position (is_field name descriptor) c.fields)

-- ---- an index for each class

pub has_index : (classes : List Class) (members : List MemberIndex) (n : ℕ) → AllZip IsIndexOf classes members
    → n < length classes → n < length members
has_index [] members n all within = absurd (omega (arith, within))
has_index (c ∷ classes) [] n all within = absurd all
has_index (c ∷ classes) (index ∷ members) zero all within = omega arith
has_index (c ∷ classes) (index ∷ members) (suc n) all within = let h = has_index classes members n all.1
    (omega (arith, within)) in omega (arith, h)

pub index_is : (classes : List Class) (members : List MemberIndex) (n : ℕ) (c : Class) (index : MemberIndex)
    → AllZip IsIndexOf classes members
    → slice_get classes n ≡ Some c → slice_get members n ≡ Some index → IsIndexOf c index
index_is [] members n c index all at there = absurd cc
index_is (d ∷ classes) [] n c index all at there = absurd all
index_is (d ∷ classes) (i ∷ members) zero c index all at there = subst (λ (x : Class). IsIndexOf x index)
    (same_Some d c at) (subst (IsIndexOf d) (same_Some i index there) all.0)
index_is (d ∷ classes) (i ∷ members) (suc n) c index all at there = index_is classes members n c index all.1 at there

pub index_more : (classes : List Class) (members : List MemberIndex) (n : ℕ) (c : Class) (index : MemberIndex)
    → AllZip IsIndexOf (take n classes) members
    → n < length classes → c ≡ get_or classes n c → IsIndexOf c index
    → AllZip IsIndexOf (take (n + 1) classes) (members ++ index ∷ [])
index_more classes members n c index all within is indexed =
    subst (λ (cs : List Class). AllZip IsIndexOf cs (members ++ index ∷ []))
    (sym (take_more classes n c within ∙ ap (λ (x : Class). take n classes ++ x ∷ []) (sym is)))
    (all_zipped_more IsIndexOf (take n classes) members c index all indexed)

-- The marks of a class and its members.
use Rattle.std.proofs.Common.{◌≡◌, ℕ, ◌+◌, ◌<◌, zero, suc, Bool, true, false, ◌&&◌, ◌||◌, cond, List, [], ◌∷◌, ◌++◌}
use Rattle.std.proofs.Common.{drop, slice_get, Some, length, map, set, take, get_or, replicate, refl, sym, ap, ◌∙◌}
use Rattle.std.proofs.Common.{arith, length-append}
use Rattle.std.specs.List.{list_any}
use Rattle.std.proofs.lemmas.List.{at_drop_more, length-set, replicate-append-replicate, take_more}
use Rattle.std.proofs.lemmas.List.Folds.{list_any-append}
use Rattle.std.proofs.Math.Bool.{or-false, or-true}
use Rattle.class_model.specs.declared.class.Class.{Class}
use Rattle.class_model.specs.declared.class.Field.{Field}
use Rattle.class_model.specs.declared.class.Method.{Method}
use Rattle.class_pool.specs.Count.{items_of}
use Rattle.keep_rules.specs.declared.rules.Keep.{Keep}
use Rattle.keep_rules.specs.declared.rules.MemberSpec.{MemberSpec}
use Rattle.keep_match.specs.bodies.Marks.{marked, members_kept, or_each}
use Rattle.keep_match.specs.Matches.{matches_field, matches_method}
use Rattle.keep_match.specs.Seeds.{are_kept, keeps_class, keeps_field, keeps_method}

-- ---- one value or the other

or_again : (b c : Bool) → ((b || c) || c) ≡ (b || c)
or_again true c = refl
or_again false true = refl
or_again false false = refl

pub or_none : (xs : List Bool) → or_each xs [] ≡ xs
or_none [] = refl
or_none (x ∷ xs) = refl

pub or_length : (xs ys : List Bool) → length (or_each xs ys) ≡ length xs
or_length [] ys = refl
or_length (x ∷ xs) [] = refl
or_length (x ∷ xs) (y ∷ ys) = ap suc (or_length xs ys)

pub or_twice : (xs ys : List Bool) → or_each (or_each xs ys) ys ≡ or_each xs ys
or_twice [] ys = refl
or_twice (x ∷ xs) [] = refl
or_twice (x ∷ xs) (y ∷ ys) = λ i. or_again x y i ∷ or_twice xs ys i

-- one more value that is true is a mark
pub or_marks : (xs ys : List Bool) → length ys < length xs
    → set (or_each xs ys) (length ys) true ≡ or_each xs (ys ++ (true ∷ []))
or_marks [] ys lt = absurd (omega arith)
or_marks (x ∷ xs) [] lt = λ i. sym (or-true x) i ∷ sym (or_none xs) i
or_marks (x ∷ xs) (y ∷ ys) lt =
    ap (λ (zs : List Bool). (x || y) ∷ zs) (or_marks xs ys (omega arith))

-- one that is false is none
pub or_stays : (xs ys : List Bool) → or_each xs ys ≡ or_each xs (ys ++ (false ∷ []))
or_stays [] ys = refl
or_stays (x ∷ xs) [] = λ i. sym (or-false x) i ∷ sym (or_none xs) i
or_stays (x ∷ xs) (y ∷ ys) = ap (λ (zs : List Bool). (x || y) ∷ zs) (or_stays xs ys)

-- ---- one member after the other

-- the values of the first members
abbrev pub so_far : ℕ → List Bool → List Bool
so_far n kept = true ∷ take n kept

so_far_more : (kept : List Bool) (n : ℕ) (b : Bool) → n < length kept → get_or kept n b ≡ b
    → so_far (n + 1) kept ≡ so_far n kept ++ (b ∷ [])
so_far_more kept n b lt is =
    ap (λ (t : List Bool). true ∷ t) (take_more kept n b lt)
    ∙ ap (λ (c : Bool). so_far n kept ++ (c ∷ [])) is

length_front : (xs : List Bool) (k : ℕ) → k < length xs → length (take k xs) ≡ k
length_front [] k lt = absurd (omega arith)
length_front (x ∷ xs) zero lt = refl
length_front (x ∷ xs) (suc k) lt = ap suc (length_front xs k (omega arith))

so_far_length : (kept : List Bool) (n : ℕ) → n < length kept → length (so_far n kept) ≡ 1 + n
so_far_length kept n lt = let e = length_front kept n lt in omega (arith, e)

row_marks : (row kept : List Bool) (n : ℕ) (now : List Bool) → now ≡ or_each row (so_far n kept) → n < length kept
    → length row ≡ 1 + length kept → get_or kept n true ≡ true
    → set now (1 + n) true ≡ or_each row (so_far (n + 1) kept)
row_marks row kept n now h lt width is =
    let e = so_far_length kept n lt in
    ap (λ (r : List Bool). set r (1 + n) true) h
    ∙ ap (λ (k : ℕ). set (or_each row (so_far n kept)) k true) (sym e)
    ∙ or_marks row (so_far n kept) (omega (arith, e))
    ∙ ap (or_each row) (sym (so_far_more kept n true lt is))

row_stays : (row kept : List Bool) (n : ℕ) (now : List Bool) → now ≡ or_each row (so_far n kept) → n < length kept
    → get_or kept n false ≡ false → now ≡ or_each row (so_far (n + 1) kept)
row_stays row kept n now h lt is =
    h ∙ or_stays row (so_far n kept) ∙ ap (or_each row) (sym (so_far_more kept n false lt is))

value_at : (xs : List Bool) (n : ℕ) (b : Bool) → slice_get xs n ≡ Some b → (n < length xs) × (get_or xs n b ≡ b)
value_at [] n b h = absurd cc
value_at (x ∷ xs) zero b h = (omega arith, cc)
value_at (x ∷ xs) (suc n) b h = let r = value_at xs n b h in (omega (arith, r.0), r.1)

pub row_more : (row kept : List Bool) (n : ℕ) (now next : List Bool) (b : Bool) → now ≡ or_each row (so_far n kept)
    → length row ≡ 1 + length kept → slice_get kept n ≡ Some b → next ≡ cond b (set now (1 + n) true) now
    → next ≡ or_each row (so_far (n + 1) kept)
row_more row kept n now next true h width is e =
    let at = value_at kept n true is in e ∙ row_marks row kept n now h at.0 width at.1
row_more row kept n now next false h width is e =
    let at = value_at kept n false is in e ∙ row_stays row kept n now h at.0 at.1

pub next_length : (now next : List Bool) (n : ℕ) (b : Bool) → next ≡ cond b (set now n true) now
    → length next ≡ length now
next_length now next n true e = ap length e ∙ length-set now n true
next_length now next n false e = ap length e

-- one member after the other of those that are asked about
pub any_step : (bs : List Bool) (i : ℕ) (b : Bool) → Some b ≡ slice_get bs i
    → list_any (λ c. c) (drop i bs) ≡ (b || list_any (λ c. c) (drop (i + 1) bs))
any_step bs i b e =
    let at = value_at bs i b (sym e) in
    at_drop_more (list_any (λ c. c)) bs i b at.0 ∙ ap (λ (c : Bool). c || list_any (λ d. d) (drop (i + 1) bs)) at.1

pub row_starts : (bits kept : List Bool) → 0 < length bits → set bits 0 true ≡ or_each bits (so_far 0 kept)
row_starts [] kept lt = absurd (omega arith)
row_starts (x ∷ bits) kept lt = λ i. sym (or-true x) i ∷ sym (or_none bits) i

length_mapped : {A : Type 0} (f : A → Bool) (xs : List A) → length (map f xs) ≡ length xs
length_mapped f [] = refl
length_mapped f (x ∷ xs) = ap suc (length_mapped f xs)

pub kept_length : (specs : List MemberSpec) (c : Class)
    → length (members_kept specs c) ≡ length c.fields + length c.methods
kept_length specs c =
    let a = length-append (map (λ (f : Field). list_any (λ spec. matches_field spec f) specs) c.fields)
    (map (λ (m : Method). list_any (λ spec. matches_method spec m) specs) c.methods) in
    let b = length_mapped (λ (f : Field). list_any (λ spec. matches_field spec f) specs) c.fields in
    let d = length_mapped (λ (m : Method). list_any (λ spec. matches_method spec m) specs) c.methods in
    omega (arith, a, b, d)

-- ---- one more rule

map_same : {A : Type 0} (f g : A → Bool) (xs : List A) → ((x : A) → f x ≡ g x) → map f xs ≡ map g xs
map_same f g [] h = refl
map_same f g (x ∷ xs) h = λ i. h x i ∷ map_same f g xs h i

or_maps : {A : Type 0} (f g : A → Bool) (xs : List A) (ys zs : List Bool)
    → or_each (map f xs ++ ys) (map g xs ++ zs) ≡ map (λ x. f x || g x) xs ++ or_each ys zs
or_maps f g [] ys zs = refl
or_maps f g (x ∷ xs) ys zs = ap (λ (rest : List Bool). (f x || g x) ∷ rest) (or_maps f g xs ys zs)

or_map : {A : Type 0} (f g : A → Bool) (xs : List A) → or_each (map f xs) (map g xs) ≡ map (λ x. f x || g x) xs
or_map f g [] = refl
or_map f g (x ∷ xs) = ap (λ (rest : List Bool). (f x || g x) ∷ rest) (or_map f g xs)

any_last : (p : Keep → Bool) (ks : List Keep) (k : Keep) → list_any p (ks ++ (k ∷ [])) ≡ (list_any p ks || p k)
any_last p ks k = list_any-append p ks (k ∷ []) ∙ ap (λ (b : Bool). list_any p ks || b) (or-false (p k))

-- what a rule adds at a member, if it keeps the class
added : (p : Keep → Bool) (ks : List Keep) (k : Keep) (b t : Bool) → p k ≡ (b && t)
    → list_any p (ks ++ (k ∷ [])) ≡ (list_any p ks || (b && t))
added p ks k b t e = any_last p ks k ∙ ap (λ (u : Bool). list_any p ks || u) e

module _ (classes : List Class) (n : ℕ) (c : Class) (ks : List Keep) (k : Keep) where
  spread : (b : Bool) → keeps_class classes n c k ≡ b → are_kept (ks ++ (k ∷ [])) classes (n, c)
      ≡ (list_any (keeps_class classes n c) ks || b)
      ∷ (map (λ (f : Field). list_any (keeps_field classes n c f) ks
      || (b && list_any (λ spec. matches_field spec f) k.spec.members)) c.fields
      ++ map (λ (m : Method). list_any (keeps_method classes n c m) ks
      || (b && list_any (λ spec. matches_method spec m) k.spec.members)) c.methods)
  spread b e =
      let here = any_last (keeps_class classes n c) ks k
      ∙ ap (λ (u : Bool). list_any (keeps_class classes n c) ks || u) e in
      let fields = map_same (λ (f : Field). list_any (keeps_field classes n c f) (ks ++ (k ∷ [])))
      (λ f. list_any (keeps_field classes n c f) ks || (b && list_any (λ spec. matches_field spec f) k.spec.members))
      c.fields (λ f. added (keeps_field classes n c f) ks k b (list_any (λ spec. matches_field spec f) k.spec.members)
      (ap (λ (u : Bool). u && list_any (λ spec. matches_field spec f) k.spec.members) e)) in
      let methods = map_same (λ (m : Method). list_any (keeps_method classes n c m) (ks ++ (k ∷ [])))
      (λ m. list_any (keeps_method classes n c m) ks || (b && list_any (λ spec. matches_method spec m) k.spec.members))
      c.methods (λ m. added (keeps_method classes n c m) ks k b
      (list_any (λ spec. matches_method spec m) k.spec.members)
      (ap (λ (u : Bool). u && list_any (λ spec. matches_method spec m) k.spec.members) e)) in
      λ i. here i ∷ (fields i ++ methods i)

  -- by the rule's answer at the class
  by_answer : (b : Bool) → keeps_class classes n c k ≡ b → are_kept (ks ++ (k ∷ [])) classes (n, c)
      ≡ cond b (or_each (are_kept ks classes (n, c)) (true ∷ members_kept k.spec.members c))
      (are_kept ks classes (n, c))
  by_answer true e =
      let members = or_maps (λ (f : Field). list_any (keeps_field classes n c f) ks)
      (λ f. list_any (λ spec. matches_field spec f) k.spec.members) c.fields
      (map (λ (m : Method). list_any (keeps_method classes n c m) ks) c.methods)
      (map (λ (m : Method). list_any (λ spec. matches_method spec m) k.spec.members) c.methods)
      ∙ ap (λ (t : List Bool). map (λ (f : Field). list_any (keeps_field classes n c f) ks
      || list_any (λ spec. matches_field spec f) k.spec.members) c.fields ++ t)
      (or_map (λ (m : Method). list_any (keeps_method classes n c m) ks)
      (λ m. list_any (λ spec. matches_method spec m) k.spec.members) c.methods) in
      spread true e ∙ ap (λ (t : List Bool). (list_any (keeps_class classes n c) ks || true) ∷ t) (sym members)
  by_answer false e =
      let fields = map_same (λ (f : Field). list_any (keeps_field classes n c f) ks || false)
      (λ f. list_any (keeps_field classes n c f) ks) c.fields
      (λ f. or-false (list_any (keeps_field classes n c f) ks)) in
      let methods = map_same (λ (m : Method). list_any (keeps_method classes n c m) ks || false)
      (λ m. list_any (keeps_method classes n c m) ks) c.methods
      (λ m. or-false (list_any (keeps_method classes n c m) ks)) in
      spread false e ∙ (λ i. or-false (list_any (keeps_class classes n c) ks) i ∷ (fields i ++ methods i))

  pub kept_more : are_kept (ks ++ (k ∷ [])) classes (n, c) ≡ marked classes n c k (are_kept ks classes (n, c))
  kept_more = by_answer (keeps_class classes n c k) refl

-- ---- no rule

all_false : {A : Type 0} (xs : List A) → map (λ (x : A). false) xs ≡ replicate (length xs) false
all_false [] = refl
all_false (x ∷ xs) = ap (λ (t : List Bool). false ∷ t) (all_false xs)

pub kept_none : (classes : List Class) (n : ℕ) (c : Class) → are_kept [] classes (n, c) ≡ replicate (items_of c) false
kept_none classes n c =
    let e : suc (length c.fields + length c.methods) ≡ items_of c = omega arith in
    (λ i. false ∷ (all_false c.fields i ++ all_false c.methods i))
    ∙ ap (λ (t : List Bool). false ∷ t) (replicate-append-replicate (length c.fields) (length c.methods) false)
    ∙ ap (λ (m : ℕ). replicate m false) e

pub kept_width : (ks : List Keep) (classes : List Class) (n : ℕ) (c : Class)
    → length (are_kept ks classes (n, c)) ≡ items_of c
kept_width ks classes n c =
    let a = length-append (map (λ (f : Field). list_any (keeps_field classes n c f) ks) c.fields)
    (map (λ (m : Method). list_any (keeps_method classes n c m) ks) c.methods) in
    let b = length_mapped (λ (f : Field). list_any (keeps_field classes n c f) ks) c.fields in
    let d = length_mapped (λ (m : Method). list_any (keeps_method classes n c m) ks) c.methods in
    omega (arith, a, b, d)

-- ---- a row that is marked

module _ (classes : List Class) (n : ℕ) (c : Class) (k : Keep) (row : List Bool) where
  pub marked_width : length (marked classes n c k row) ≡ length row
  marked_width = by (keeps_class classes n c k)
    where
      by : (b : Bool) → length (cond b (or_each row (true ∷ members_kept k.spec.members c)) row) ≡ length row
      by true = or_length row (true ∷ members_kept k.spec.members c)
      by false = refl

  pub marked_twice : marked classes n c k (marked classes n c k row) ≡ marked classes n c k row
  marked_twice = by (keeps_class classes n c k)
    where
      by : (b : Bool) → cond b (or_each (cond b (or_each row (true ∷ members_kept k.spec.members c)) row)
          (true ∷ members_kept k.spec.members c)) (cond b (or_each row (true ∷ members_kept k.spec.members c)) row)
          ≡ cond b (or_each row (true ∷ members_kept k.spec.members c)) row
      by true = or_twice row (true ∷ members_kept k.spec.members c)
      by false = refl

  pub not_marked : keeps_class classes n c k ≡ false → marked classes n c k row ≡ row
  not_marked e = ap (λ (b : Bool). cond b (or_each row (true ∷ members_kept k.spec.members c)) row) e

  pub is_marked : keeps_class classes n c k ≡ true
      → marked classes n c k row ≡ or_each row (true ∷ members_kept k.spec.members c)
  is_marked e = ap (λ (b : Bool). cond b (or_each row (true ∷ members_kept k.spec.members c)) row) e

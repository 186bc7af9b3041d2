-- The members of a class, gone over one by one.
use Rattle.std.proofs.Common.{◌≡◌, ℕ, zero, suc, ◌+◌, ◌<◌, ◌≤◌, Bool, true, false, cond, List, [], ◌∷◌, ◌++◌, length}
use Rattle.std.proofs.Common.{map, take, Option, refl, ap, ◌∙◌, arith}
use Rattle.std.specs.List.{cons_option, enumerate_from, filter, filter_map}
use Rattle.std.proofs.lemmas.List.{map_push}
use Rattle.std.proofs.lemmas.List.Elements.{filter-append, filter_map-append}
use Rattle.jv_base.proofs.Lists.{found_at}
use Rattle.class_model.specs.declared.class.Class.{Class}
use Rattle.class_pool.specs.Found.{MemberRow, rows_in}
use Rattle.class_pool.specs.declared.id.ClassId.{ClassId}
use Rattle.class_pool.specs.declared.id.MemberAt.{MemberAt}
use Rattle.require_sys.specs.Requires.{members_of}
use Rattle.require_sys.proofs.Steps.{enumerated_more}

-- what the first members of a class give that pass a test
abbrev pub of_first : {Y : Type 0} → List Class → ClassId → (MemberAt → Bool) → (MemberAt → Option Y) → ℕ → List Y
of_first classes x p f n = filter_map f (filter p
    (map (λ q. record { class = x; index = q.0 }) (enumerate_from 0 (take n (rows_in classes x)))))

pub passed_one : {X Y : Type 0} (f : X → Option Y) (p : X → Bool) (x : X)
    → filter_map f (filter p (x ∷ [])) ≡ cond (p x) (cons_option (f x) []) []
passed_one f p x = by (p x)
  where
    by : (b : Bool) → filter_map f (cond b (x ∷ []) []) ≡ cond b (cons_option (f x) []) []
    by true = refl
    by false = refl

module _ {Y : Type 0} (classes : List Class) (x : ClassId) (p : MemberAt → Bool) (f : MemberAt → Option Y) where
  abbrev member : ℕ → MemberAt
  member k = record { class = x; index = k }

  pub one_more : (i : ℕ) → i < length (rows_in classes x)
      → of_first classes x p f (i + 1)
      ≡ of_first classes x p f i ++ cond (p (member i)) (cons_option (f (member i)) []) []
  one_more i within =
      let row = found_at (rows_in classes x) i within in
      let e : 0 + i ≡ i = omega arith in
      let front : List MemberAt = map (λ q. record { class = x; index = q.0 }) (enumerate_from 0 (take i
      (rows_in classes x))) in
      ap (λ (es : List (ℕ × MemberRow)). filter_map f (filter p (map (λ q. record { class = x; index = q.0 }) es)))
      (enumerated_more 0 (rows_in classes x) i row.0 row.1)
      ∙ ap (λ (ms : List MemberAt). filter_map f (filter p ms))
      (map_push (λ (q : ℕ × MemberRow). record { class = x; index = q.0 }) (enumerate_from 0 (take i
      (rows_in classes x)))
      (0 + i, row.0))
      ∙ ap (filter_map f) (filter-append p front (member (0 + i) ∷ []))
      ∙ filter_map-append f (filter p front) (filter p (member (0 + i) ∷ []))
      ∙ ap (λ (t : List Y). filter_map f (filter p front) ++ t) (passed_one f p (member (0 + i)))
      ∙ ap (λ (k : ℕ). filter_map f (filter p front) ++ cond (p (member k)) (cons_option (f (member k)) []) []) e

  pub all_taken : (i : ℕ) → length (rows_in classes x) ≤ i
      → of_first classes x p f i ≡ filter_map f (filter p (members_of classes x))
  all_taken i all =
      ap (λ (rows : List MemberRow). filter_map f (filter p
      (map (λ q. record { class = x; index = q.0 }) (enumerate_from 0 rows)))) (take_long (rows_in classes x) i all)
    where
      take_long : (rows : List MemberRow) (k : ℕ) → length rows ≤ k → take k rows ≡ rows
      take_long [] zero h = refl
      take_long [] (suc k) h = refl
      take_long (r ∷ rows) zero h = absurd (omega (arith, h))
      take_long (r ∷ rows) (suc k) h = ap (λ (t : List MemberRow). r ∷ t) (take_long rows k (omega (arith, h)))

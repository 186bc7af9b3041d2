-- Where the test of an act tells whether it is legal, the first that it refuses is told.
use Rattle.std.proofs.Common.{ℕ, suc, ◌+◌, ◌<◌, ◌≤◌, List, [], ◌∷◌, ◌++◌, Some, Bool, true}
use Rattle.std.proofs.Common.{false, ◌≡◌, ◌⊎◌, inl, inr, refl, sym, ap, ◌∙◌, subst, arith}
use Rattle.std.proofs.Common.{append_assoc, length-append}
use Rattle.std.specs.Prelude.{length, nat_le, not, slice_get, if◌then◌else◌}
use Rattle.std.specs.List.{list_any}
use Rattle.std.proofs.lemmas.Bool.Decides.{leb_tells}
use Rattle.jv_base.proofs.Lists.{all_from, any_at, any_where, got_left, got_right}
use Rattle.class_model.specs.declared.code.Code.{Code}
use Rattle.code_edit.specs.declared.act.Act.{Act}
use Rattle.code_edit.specs.declared.act.Pass.{Pass}
use Rattle.code_edit.specs.Legal.{AreLegal, AreRightActs, IsLegalAt, IsRightAct, share_place}
use Rattle.edit_premises.proofs.Places.{get_below}
use Rattle.edit_legal.specs.Fault.{IsFault, fault_after}
use Rattle.edit_tables.proofs.Telling.{Tells, is_false, is_not, tells, un_not}

nothing_more : (xs : List Act) → xs ++ [] ≡ xs
nothing_more [] = refl
nothing_more (x ∷ xs) = ap (λ (t : List Act). x ∷ t) (nothing_more xs)

-- what stands behind some acts is at their number
pub got_next : (xs ys : List Act) (y : Act) → slice_get (xs ++ y ∷ ys) (length xs) ≡ Some y
got_next xs ys y =
    let z : length xs ≡ length xs + 0 = omega arith in
    ap (slice_get (xs ++ y ∷ ys)) z ∙ got_right xs (y ∷ ys) 0

-- acts before are legal
abbrev pub Prior : Pass → List Act → Code → List Act → Type 0
Prior p acts code before =
    (j : ℕ) (b : Act) → slice_get before j ≡ Some b → IsLegalAt p acts code j b

module _ (p : Pass) (acts : List Act) (code : Code) (test : List Act → Act → Bool) where
  module _ (tells : (before rest : List Act) (a : Act) → acts ≡ before ++ a ∷ rest → Prior p acts code before
      → Tells (test before a) (IsLegalAt p acts code (length before) a)) where
    more : (before : List Act) (a : Act) → Prior p acts code before
        → IsLegalAt p acts code (length before) a → Prior p acts code (before ++ a ∷ [])
    more before a prior legal j b e = by (leb_tells (suc j) (length before))
      where
        by : ((nat_le (suc j) (length before) ≡ true) × (suc j ≤ length before))
            ⊎ ((nat_le (suc j) (length before) ≡ false) × (length before < suc j))
            → IsLegalAt p acts code j b
        by (inl q) = prior j b (sym (got_left before (a ∷ []) j (omega (arith, q.1))) ∙ e)
        by (inr q) =
            let below = get_below (before ++ a ∷ []) j b e in
            let long = length-append before (a ∷ []) in
            let last : j ≡ length before = omega (arith, below, long, q.1) in
            let one : Some a ≡ Some b =
            sym (got_next before [] a) ∙ ap (slice_get (before ++ a ∷ [])) (sym last) ∙ e in
            let same : a ≡ b = cc in
            subst (λ (x : Act). IsLegalAt p acts code j x) same
            (subst (λ k. IsLegalAt p acts code k a) (sym last) legal)

    go : (rest before : List Act) (k : ℕ) → k ≡ length before → acts ≡ before ++ rest
        → Prior p acts code before → IsFault p acts code (fault_after test k before rest)
    go [] before k n e prior = λ j b x.
        prior j b (ap (λ (xs : List Act). slice_get xs j) (sym (e ∙ nothing_more before)) ∙ x)
    go (a ∷ rest) before k n e prior =
        by (test before a) (tells before rest a e prior)
        (λ legal. go rest (before ++ a ∷ []) (suc k)
        (let long = length-append before (a ∷ []) in omega (arith, long, n))
        (e ∙ sym (append_assoc before (a ∷ []) rest))
        (more before a prior legal))
      where
        here : slice_get acts k ≡ Some a
        here = ap (λ m. slice_get acts m) n ∙ ap (λ (xs : List Act). slice_get xs (length before)) e
            ∙ got_next before rest a

        earlier : (j : ℕ) (b : Act) → j < k → slice_get acts j ≡ Some b → IsLegalAt p acts code j b
        earlier j b lt x =
            prior j b (sym (got_left before (a ∷ rest) j (omega (arith, lt, n)))
            ∙ ap (λ (xs : List Act). slice_get xs j) (sym e) ∙ x)

        by : (c : Bool) → Tells c (IsLegalAt p acts code (length before) a)
            → (IsLegalAt p acts code (length before) a
            → IsFault p acts code (fault_after test (suc k) (before ++ a ∷ []) rest))
            → IsFault p acts code
            (if c then fault_after test (suc k) (before ++ a ∷ []) rest else Some k)
        by true (inl q) rest_is = rest_is q.1
        by true (inr q) rest_is = absurd (let no = q.0 in cc)
        by false (inl q) rest_is = absurd (let no = q.0 in cc)
        by false (inr q) rest_is = (
          earlier,
          a,
          here,
          λ legal. q.1 (subst (λ m. IsLegalAt p acts code m a) n legal),
        )

    pub faults : IsFault p acts code (fault_after test 0 [] acts)
    faults = go acts [] 0 refl refl (λ j b e. absurd cc)

-- ---- what else is asked

pub legal_are_right : (p : Pass) (acts : List Act) (code : Code) → AreLegal p acts code
    → AreRightActs p acts code
legal_are_right p acts code legal =
    all_from (IsRightAct p acts code) acts (λ k a e. (legal k a e).0)

-- ---- places

-- no act before names the place of an act
abbrev pub none_shares : List Act → Act → Bool
none_shares before a = not (list_any (λ (b : Act). share_place b a) before)

-- what that is of all the acts
pub shares_tells : (acts before rest : List Act) (a : Act) → acts ≡ before ++ a ∷ rest
    → Tells (none_shares before a)
    ((j : ℕ) (b : Act) → j < length before → slice_get acts j ≡ Some b → share_place b a ≡ false)
shares_tells acts before rest a e =
    tells (none_shares before a)
    ((j : ℕ) (b : Act) → j < length before → slice_get acts j ≡ Some b → share_place b a ≡ false)
    (λ n j b lt x. is_false (share_place b a) (λ s.
    let in_front = front j b lt x in
    let any = any_at (λ (b : Act). share_place b a) before j b in_front s in
    let no : true ≡ false = sym any ∙ un_not _ n in cc))
    (λ f. is_not _ (is_false _ (λ s.
    let x = any_where (λ (b : Act). share_place b a) before s in
    let free = f x.0 x.1 (get_below before x.0 x.1 x.2) (there x.0 x.1 x.2) in
    let no : true ≡ false = sym x.3 ∙ free in cc)))
  where
    front : (j : ℕ) (b : Act) → j < length before → slice_get acts j ≡ Some b
        → slice_get before j ≡ Some b
    front j b lt x =
        sym (got_left before (a ∷ rest) j lt) ∙ ap (λ (xs : List Act). slice_get xs j) (sym e) ∙ x

    there : (j : ℕ) (b : Act) → slice_get before j ≡ Some b → slice_get acts j ≡ Some b
    there j b x =
        ap (λ (xs : List Act). slice_get xs j) e
        ∙ got_left before (a ∷ rest) j (get_below before j b x) ∙ x

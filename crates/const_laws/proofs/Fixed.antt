-- A code has one list of acts of the pass on constants.
use Rattle.std.proofs.Common.{ℕ, zero, suc, ◌+◌, ◌-◌, ◌<◌, get_or, List, [], ◌∷◌, ◌++◌, Option}
use Rattle.std.proofs.Common.{Some, None, Bool, true, false, ◌≡◌, ◌⊎◌, inl, inr}
use Rattle.std.proofs.Common.{refl, sym, ap, ◌∙◌, subst, arith, length}
use Rattle.std.specs.Prelude.{ℤ, AllPairs, slice_get, nat_lt, ◌||◌, if◌then◌else◌}
use Rattle.std.specs.List.{Contains, flat_map}
use Rattle.std.specs.Option.{option_and_then, unwrap_or}
use Rattle.std.proofs.lemmas.List.Elements.{Contains-append_left, Contains-append_right}
use Rattle.std.proofs.lemmas.List.Elements.{Contains-push}
use Rattle.class_model.specs.declared.code.Code.{Code}
use Rattle.class_model.specs.declared.code.Ins.{Ins}
use Rattle.class_model.specs.declared.op.Kind.TheVariants as kind
use Rattle.class_model.specs.declared.op.Op.{Op}
use Rattle.class_model.specs.declared.op.Op.TheVariants as op
use Rattle.code_edit.specs.declared.act.Act.{Act}
use Rattle.code_edit.specs.ConstEdits.{AreConstActs, ByBound, IsAsked, IsConstEdits, IsLoad}
use Rattle.code_edit.specs.ConstEdits.{IsTaken, Shut}
use Rattle.code_edit.specs.ConstEdits.{fold_act, fold_target, folds_below, is_beyond, known_at}
use Rattle.code_edit.specs.ConstEdits.{known_by, known_of, runs, target_by, target_of}
use Rattle.code_edit.specs.Deciding.{Count, NoOperand, OneOperand, TwoOperands, decided, operands}
use Rattle.code_edit.specs.Facts.{int_in}
use Rattle.code_edit.specs.Flow.{is_target}
use Rattle.const_facts.proofs.Ending.{one_list}
use Rattle.const_laws.proofs.Own.{taken_asked}

-- ---- ascending lists

in_cons : (s : ℕ) (slots : List ℕ) (slot : ℕ) → Contains (s ∷ slots) slot
    → (s ≡ slot) ⊎ Contains slots slot
in_cons s slots slot (zero, lt, e) = inl e
in_cons s slots slot (suc k, lt, e) = inr (k, omega (arith, lt), e)

head_in : (t : ℕ) (ts : List ℕ) → Contains (t ∷ ts) t
head_in t ts = Contains-append_left (t ∷ []) ts t (Contains-push [] t)

tail_in : (t : ℕ) (ts : List ℕ) (u : ℕ) → Contains ts u → Contains (t ∷ ts) u
tail_in t ts u h = Contains-append_right (t ∷ []) ts u h

none_in : (t : ℕ) → Contains [] t → ⊥
none_in t h = let lt : h.0 < 0 = h.1 in omega (arith, lt)

abbrev Less : ℕ → ℕ → Type 0
Less one other = one < other

less_than : (s : ℕ) (ts : List ℕ) → AllPairs Less (s ∷ ts) → (t : ℕ) → Contains ts t → s < t
less_than s ts h t k =
    let q : s < get_or ts k.0 t = h 0 (suc k.0) t (omega arith)
    (let lt : k.0 < length ts = k.1 in omega (arith, lt)) in
    subst (λ x. s < x) k.2 q

rest_pairs : (s : ℕ) (ts : List ℕ) → AllPairs Less (s ∷ ts) → AllPairs Less ts
rest_pairs s ts h i j d lt le = h (suc i) (suc j) d (omega (arith, lt)) (omega (arith, le))

one_ascending : (xs ys : List ℕ) → AllPairs Less xs → AllPairs Less ys
    → ((s : ℕ) → Contains xs s → Contains ys s)
    → ((s : ℕ) → Contains ys s → Contains xs s) → xs ≡ ys
one_ascending [] [] a b f g = refl
one_ascending [] (y ∷ ys) a b f g = absurd (none_in y (g y (head_in y ys)))
one_ascending (x ∷ xs) [] a b f g = absurd (none_in x (f x (head_in x xs)))
one_ascending (x ∷ xs) (y ∷ ys) a b f g =
    both (in_cons y ys x (f x (head_in x xs))) (in_cons x xs y (g y (head_in y ys)))
    (λ same. one_ascending xs ys (rest_pairs x xs a) (rest_pairs y ys b)
    (λ s h. onto x y xs ys s same (less_than x xs a s h) (in_cons y ys s (f s (tail_in x xs s h))))
    (λ s h. onto y x ys xs s (sym same) (less_than y ys b s h)
    (in_cons x xs s (g s (tail_in y ys s h)))))
  where
    onto : (x y : ℕ) (xs ys : List ℕ) (s : ℕ) → x ≡ y → x < s → (y ≡ s) ⊎ Contains ys s
        → Contains ys s
    onto x y xs ys s same lt (inl e) = absurd (omega (arith, same, lt, e))
    onto x y xs ys s same lt (inr h) = h

    both : (y ≡ x) ⊎ Contains ys x → (x ≡ y) ⊎ Contains xs y → (x ≡ y → xs ≡ ys)
        → (x ∷ xs) ≡ (y ∷ ys)
    both (inl e) k r = ap (λ t. t ∷ xs) (sym e) ∙ ap (λ t. y ∷ t) (r (sym e))
    both (inr h) (inl e) r = ap (λ t. t ∷ xs) e ∙ ap (λ t. y ∷ t) (r e)
    both (inr h) (inr k) r =
        let p : y < x = less_than y ys b x h in let q : x < y = less_than x xs a y k in
        absurd (omega (arith, p, q))

-- ---- acts

module _ (code : Code) (xs ys : List Act) (x : AreConstActs code xs)
    (y : AreConstActs code ys) where
  same_list : (slot : ℕ) → IsAsked code slot → x.known slot ≡ y.known slot
  same_list slot a = one_list code slot (x.known slot) (y.known slot) (x.largest slot a)
      (y.largest slot a)

  known_op : (n : ℕ) (i : Ins) → slice_get code.ins n ≡ Some i → (o : Op) → i.op ≡ o
      → ((slot : ℕ) → IsLoad code slot n → x.known slot ≡ y.known slot)
      → known_of x.known code n o ≡ known_of y.known code n o
  known_op n i h (op.Load kind.Int slot) q same = ap (λ l. int_in l n) (same slot (i, h, q))
  known_op n i h o q same = refl

  known_ins : (n : ℕ) (o : Option Ins) → slice_get code.ins n ≡ o
      → ((slot : ℕ) → IsLoad code slot n → x.known slot ≡ y.known slot)
      → known_by x.known code n o ≡ known_by y.known code n o
  known_ins n None h same = refl
  known_ins n (Some i) h same = known_op n i h i.op refl same

  module _ (at : ℕ) where
    abbrev one_by : Op → Option ℤ → Option ℕ
    one_by o k = if nat_lt at 1 || is_target code at then None
        else option_and_then (λ z. option_and_then (λ p. Some (unwrap_or p (at + 1)))
        (decided o (z ∷ []))) k

    abbrev two_by : Op → Option ℤ → Option ℤ → Option ℕ
    two_by o k l = if nat_lt at 2 || (is_target code at || is_target code (at - 1)) then None
        else option_and_then
        (λ a. option_and_then (λ b. option_and_then (λ p. Some (unwrap_or p (at + 1)))
        (decided o (b ∷ a ∷ []))) l) k

    by_count : (i : Ins) → slice_get code.ins at ≡ Some i → (n : Count) → operands i.op ≡ n
        → target_by x.known code n at i.op ≡ target_by y.known code n at i.op
    by_count i h OneOperand n =
        ap (one_by i.op) (known_ins (at - 1) (slice_get code.ins (at - 1)) refl
        (λ slot l. same_list slot
        (at, i, h, (λ e. let q : OneOperand ≡ NoOperand = sym n ∙ e in cc), inl l)))
    by_count i h TwoOperands n =
        ap (λ k. two_by i.op k (known_at x.known code (at - 1)))
        (known_ins (at - 2) (slice_get code.ins (at - 2)) refl
        (λ slot l. same_list slot
        (at, i, h, (λ e. let q : TwoOperands ≡ NoOperand = sym n ∙ e in cc), inr (n, l))))
        ∙ ap (two_by i.op (known_at y.known code (at - 2)))
        (known_ins (at - 1) (slice_get code.ins (at - 1)) refl
        (λ slot l. same_list slot
        (at, i, h, (λ e. let q : TwoOperands ≡ NoOperand = sym n ∙ e in cc), inl l)))
    by_count i h NoOperand n = refl

    by_ins : (o : Option Ins) → slice_get code.ins at ≡ o
        → target_of x.known code at o ≡ target_of y.known code at o
    by_ins None h = refl
    by_ins (Some i) h = by_count i h (operands i.op) refl

    same_target : fold_target x.known code at ≡ fold_target y.known code at
    same_target = by_ins (slice_get code.ins at) refl

  same_folds : (n : ℕ) → folds_below x.known code n ≡ folds_below y.known code n
  same_folds zero = refl
  same_folds (suc n) =
      ap (λ l. l ++ fold_act x.known code n (fold_target x.known code n)) (same_folds n)
      ∙ ap (λ o. folds_below y.known code n ++ fold_act x.known code n o) (same_target n)

  taken_on : (slot : ℕ) → IsTaken x.known code slot → IsTaken y.known code slot
  taken_on slot h = (h.0, h.1, h.2, h.3, sym (same_target h.0) ∙ h.4, h.5)

  taken_back : (slot : ℕ) → IsTaken y.known code slot → IsTaken x.known code slot
  taken_back slot h = (h.0, h.1, h.2, h.3, same_target h.0 ∙ h.4, h.5)

  same_taken : x.taken ≡ y.taken
  same_taken = one_ascending x.taken y.taken x.taken_are.ascending y.taken_are.ascending
      (λ s h. (y.taken_are.are s).1 (taken_on s ((x.taken_are.are s).0 h)))
      (λ s h. (x.taken_are.are s).1 (taken_back s ((y.taken_are.are s).0 h)))

  same_runs : (slots : List ℕ) → ((s : ℕ) → Contains slots s → Contains x.taken s)
      → flat_map (λ slot. runs slot 0 Shut (x.known slot)) slots
      ≡ flat_map (λ slot. runs slot 0 Shut (y.known slot)) slots
  same_runs [] q = refl
  same_runs (s ∷ slots) q =
      let e : x.known s ≡ y.known s = same_list s
      (taken_asked x.known code s ((x.taken_are.are s).0 (q s (head_in s slots)))) in
      ap (λ l. runs s 0 Shut l ++ flat_map (λ slot. runs slot 0 Shut (x.known slot)) slots) e
      ∙ ap (λ l. runs s 0 Shut (y.known s) ++ l)
      (same_runs slots (λ t h. q t (tail_in s slots t h)))

  same_acts : flat_map (λ slot. runs slot 0 Shut (x.known slot)) x.taken
      ++ folds_below x.known code (length code.ins)
      ≡ flat_map (λ slot. runs slot 0 Shut (y.known slot)) y.taken
      ++ folds_below y.known code (length code.ins)
  same_acts =
      ap (λ l. l ++ folds_below x.known code (length code.ins)) (same_runs x.taken (λ s h. h))
      ∙ (ap (λ l. flat_map (λ slot. runs slot 0 Shut (y.known slot)) l
      ++ folds_below x.known code (length code.ins)) same_taken
      ∙ ap (λ l. flat_map (λ slot. runs slot 0 Shut (y.known slot)) y.taken ++ l)
      (same_folds (length code.ins)))

  listed_acts : xs ≡ ys
  listed_acts = x.is ∙ (same_acts ∙ sym y.is)

-- const gives a code one list
pub one_list_of_acts : (code : Code) (xs ys : List Act) → IsConstEdits code xs
    → IsConstEdits code ys
    → xs ≡ ys
one_list_of_acts code xs ys x y =
    by (is_beyond (length y.asked) (length code.ins))
    (subst (λ l. ByBound (is_beyond (length l) (length code.ins)) code xs) same_asked x.is) y.is
  where
    same_asked : x.asked ≡ y.asked
    same_asked = one_ascending x.asked y.asked x.asked_are.ascending y.asked_are.ascending
        (λ s h. (y.asked_are.are s).1 ((x.asked_are.are s).0 h))
        (λ s h. (x.asked_are.are s).1 ((y.asked_are.are s).0 h))

    by : (b : Bool) → ByBound b code xs → ByBound b code ys → xs ≡ ys
    by true e f = e ∙ sym f
    by false h k = listed_acts code xs ys h k

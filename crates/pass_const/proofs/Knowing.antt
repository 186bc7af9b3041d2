-- One list more of what local variables hold.
use Rattle.std.proofs.Common.{ℕ, zero, suc, ◌+◌, ◌<◌, ◌≤◌, List, [], ◌∷◌, ◌++◌, Bool, true, ◌≡◌}
use Rattle.std.proofs.Common.{◌⊎◌, inl, inr, refl, sym, ap, ◌∙◌, subst, arith, length, get_or}
use Rattle.std.proofs.Common.{Option}
use Rattle.std.specs.Prelude.{ℤ}
use Rattle.std.proofs.lemmas.Bool.{cases_lt}
use Rattle.std.proofs.lemmas.List.{length_push}
use Rattle.class_model.specs.declared.code.Code.{Code}
use Rattle.code_edit.specs.Facts.{IsLargest}
use Rattle.edit_tables.specs.Marks.{has}
use Rattle.pass_const.specs.Known.{KnowsSlots, known_in}

module _ {A : Type 0} (x d : A) where
  push_here : (xs : List A) (k : ℕ) → k ≡ length xs → get_or (xs ++ x ∷ []) k d ≡ x
  push_here [] zero e = refl
  push_here [] (suc k) e = absurd (omega (arith, e))
  push_here (y ∷ ys) zero e = absurd (omega (arith, e))
  push_here (y ∷ ys) (suc k) e = push_here ys k (omega (arith, e))

  push_below : (xs : List A) (k : ℕ) → k < length xs → get_or (xs ++ x ∷ []) k d ≡ get_or xs k d
  push_below [] k lt = absurd (omega (arith, lt))
  push_below (y ∷ ys) zero lt = refl
  push_below (y ∷ ys) (suc k) lt = push_below ys k (omega (arith, lt))

  push_past : (xs : List A) (k : ℕ) → length xs < k → get_or (xs ++ x ∷ []) k d ≡ d
  push_past [] zero lt = absurd (omega (arith, lt))
  push_past [] (suc k) lt = refl
  push_past (y ∷ ys) zero lt = absurd (omega (arith, lt))
  push_past (y ∷ ys) (suc k) lt = push_past ys k (omega (arith, lt))

module _ (code : Code) (asked : List Bool) (n : ℕ) (lists : List (List (Option ℤ)))
    (known : List (Option ℤ)) (knows : KnowsSlots code asked n lists)
    (largest : has asked n ≡ true → IsLargest code n known)
    (few : length known ≤ length code.ins) where
  abbrev more : List (List (Option ℤ))
  more = lists ++ known ∷ []

  below : (slot : ℕ) → slot < n → known_in more slot ≡ known_in lists slot
  below slot lt = push_below known [] lists slot (subst (λ m. slot < m) (sym knows.long) lt)

  here : (slot : ℕ) → slot ≡ n → known_in more slot ≡ known
  here slot e = push_here known [] lists slot (e ∙ sym knows.long)

  pub known_more : KnowsSlots code asked (n + 1) more
  known_more = record {
    long = length_push lists known ∙ ap (λ m. m + 1) knows.long;
    largest = λ slot lt h. largest_by slot lt h (cases_lt slot n);
    few = λ slot. few_by slot (cases_lt slot n) (cases_lt n slot);
  }
    where
      largest_by : (slot : ℕ) → slot < n + 1 → has asked slot ≡ true → (slot < n) ⊎ (n ≤ slot)
          → IsLargest code slot (known_in more slot)
      largest_by slot lt h (inl b) =
          subst (IsLargest code slot) (sym (below slot b)) (knows.largest slot b h)
      largest_by slot lt h (inr le) =
          let same : slot ≡ n = omega (arith, lt, le) in
          subst (IsLargest code slot) (sym (here slot same))
          (subst (λ s. IsLargest code s known) (sym same)
          (largest (subst (λ s. has asked s ≡ true) same h)))

      few_by : (slot : ℕ) → (slot < n) ⊎ (n ≤ slot) → (n < slot) ⊎ (slot ≤ n)
          → length (known_in more slot) ≤ length code.ins
      few_by slot (inl b) p =
          subst (λ l. length l ≤ length code.ins) (sym (below slot b)) (knows.few slot)
      few_by slot (inr le) (inr up) =
          subst (λ l. length l ≤ length code.ins) (sym (here slot (omega (arith, le, up)))) few
      few_by slot (inr le) (inl past) =
          subst (λ l. length l ≤ length code.ins)
          (sym (push_past known [] lists slot (subst (λ m. m < slot) (sym knows.long) past)))
          (omega arith)

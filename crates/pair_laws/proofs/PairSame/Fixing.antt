-- Names that stay keep apart from those that don't, where a table is one to one and no name in it is misnamed.
use Rattle.std.proofs.Common.{◌≡◌, ◌⊎◌, inl, inr, not, Bool, true, false, cond, List, Option, Some, None, refl}
use Rattle.std.proofs.Common.{sym, ap}
use Rattle.std.proofs.Common.{subst, ◌∙◌}
use Rattle.std.specs.List.{AllByRecursion}
use Rattle.std.specs.Option.{unwrap_or}
use Rattle.std.proofs.lemmas.Bool.{not-false}
use Rattle.pair_laws.proofs.PairSame.Tables.{IsFound, IsTest, by_old, looked, one_old}

-- a fixed one has another new one, or one that isn't fixed has a fixed one
abbrev pub is_wrong : {K : Type 0} → (K → K → Bool) → (K → Bool) → K → K → Bool
is_wrong same fixed old new = cond (fixed old) (not (same old new)) (fixed new)

module _ {K : Type 0} (same : K → K → Bool) (test : IsTest same) (table : List (K × K)) (fixed : K → Bool)
    (right : AllByRecursion (λ (p : K × K). is_wrong same fixed p.0 p.1 ≡ false) table) where
  -- the new name of a name
  abbrev pub new_of : K → K
  new_of a = unwrap_or (by_old same table a) a

  right_at : (a new : K) → by_old same table a ≡ Some new → is_wrong same fixed a new ≡ false
  right_at a new e =
      let h = looked (λ (p : K × K). is_wrong same fixed p.0 p.1 ≡ false) (λ name. same name a) table new right e in
      subst (λ (t : K). is_wrong same fixed t new ≡ false) (test.one h.key a h.passes) h.holds

  -- a fixed name stays
  pub fixed_stays : (a : K) → fixed a ≡ true → new_of a ≡ a
  fixed_stays a h = by (by_old same table a) refl
    where
      by : (o : Option K) → by_old same table a ≡ o → unwrap_or o a ≡ a
      by None e = refl
      by (Some new) e = sym (test.one a new (not-false (same a new)
          (sym (ap (λ (b : Bool). cond b (not (same a new)) (fixed new)) h) ∙ right_at a new e)))

  -- a name is fixed, or has a new one
  abbrev pub IsGiven : K → Type 0
  IsGiven a = (fixed a ≡ true) ⊎ ((new : K) × IsFound same table (a, new))

  pub found_new : (a new : K) → IsFound same table (a, new) → new_of a ≡ new
  found_new a new h = ap (λ o. unwrap_or o a) h.old

  -- a fixed name is the new name of no other
  fixed_apart : (a b new : K) → fixed a ≡ true → IsFound same table (b, new) → a ≡ new → a ≡ b
  fixed_apart a b new h k e = by (fixed b) refl (right_at b new k.old)
    where
      by : (t : Bool) → fixed b ≡ t → cond t (not (same b new)) (fixed new) ≡ false → a ≡ b
      by true f r = e ∙ sym (test.one b new (not-false (same b new) r))
      by false f r = absurd (let w : true ≡ false = sym h ∙ ap fixed e ∙ r in cc)

  -- no two names become one
  pub one_name : (a b : K) → IsGiven a → IsGiven b → new_of a ≡ new_of b → a ≡ b
  one_name a b (inl h) (inl k) e = sym (fixed_stays a h) ∙ e ∙ fixed_stays b k
  one_name a b (inl h) (inr (new, k)) e =
      fixed_apart a b new h k (sym (fixed_stays a h) ∙ e ∙ found_new b new k)
  one_name a b (inr (new, h)) (inl k) e =
      sym (fixed_apart b a new k h (sym (fixed_stays b k) ∙ sym e ∙ found_new a new h))
  one_name a b (inr (new, h)) (inr (other, k)) e =
      one_old same table (a, new) (b, other) h k (sym (found_new a new h) ∙ e ∙ found_new b other k)

  -- the test of a fixed name says the same of a name and of its new one
  pub test_stays : (t a : K) → fixed t ≡ true → IsGiven a → same (new_of a) t ≡ same a t
  test_stays t a h k = by (same a t) refl (same (new_of a) t) refl
    where
      by : (b : Bool) → same a t ≡ b → (c : Bool) → same (new_of a) t ≡ c → c ≡ b
      by true e c f =
          let is : a ≡ t = test.one a t e in
          let stays : new_of a ≡ t = ap new_of is ∙ fixed_stays t h in
          sym f ∙ ap (λ (x : K). same x t) stays ∙ test.itself t
      by false e true f =
          let is : a ≡ t = one_name a t k (inl h) (test.one (new_of a) t f ∙ sym (fixed_stays t h)) in
          sym (ap (λ (x : K). same x t) is ∙ test.itself t) ∙ e
      by false e false f = refl

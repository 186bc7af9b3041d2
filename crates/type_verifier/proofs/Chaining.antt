-- Chains of the handlers that cover the same instruction as the first one.
use Rattle.std.proofs.Common.{◌≡◌, ◌⊎◌, ◌<◌, ◌≤◌, ℕ, suc, ◌+◌, Bool, true, false, nat_eq, List, length, get_or}
use Rattle.std.proofs.Common.{replicate, set, Option, Some, None, inl, inr, refl, sym, ap, subst, ◌∙◌, arith, ⊎_elim}
use Rattle.std.specs.Option.{is_some}
use Rattle.std.proofs.lemmas.Bool.{cases_eq}
use Rattle.std.proofs.lemmas.Bool.Decides.{eqb_tells, leb_tells}
use Rattle.std.proofs.lemmas.List.{get_or-replicate, get_or-set_other, get_or-set_same, get_or_default}
use Rattle.std.proofs.lemmas.List.{length-replicate, length-set}
use Rattle.std.proofs.lemmas.List.Folds.{list_all_at, list_any_at, list_any_none}
use Rattle.std.proofs.lemmas.List.Sums.{list_all-from_AllPass}
use Rattle.class_model.specs.declared.code.Handler.{Handler}
use Rattle.type_verifier.specs.declared.chain.Chain.{Chain}
use Rattle.type_verifier.specs.declared.frame.TypeFrame.{TypeFrame}
use Rattle.type_verifier.specs.Environment.{Environment}
use Rattle.type_verifier.specs.bodies.Asked.{no_handler, satisfies_first, satisfies_if_first}
use Rattle.type_verifier.specs.bodies.Chained.{IsChain, IsChainFrom, IsFirstFrom, IsSatisfiedBefore}
use Rattle.type_verifier.specs.bodies.Chained.{count_before, from_of}
use Rattle.type_verifier.specs.bodies.Marking.{is_first_covered}

module _ (handlers : List Handler) where
  -- behind the last handler is none
  none_behind : (at : ℕ) → IsFirstFrom handlers (length handlers) at None
  none_behind at = record {
    least = omega arith;
    none = λ n le lt. absurd (omega (arith, le, lt));
    covering = tt;
  }

  pub chained_none : (count : ℕ) (firsts nexts : List (Option ℕ)) → firsts ≡ replicate count None
      → nexts ≡ replicate (length handlers) None → IsChainFrom handlers (length handlers) count firsts nexts
  chained_none count firsts nexts one other = record {
    long = ap length one ∙ length-replicate count None;
    numbers = ap length other ∙ length-replicate (length handlers) None;
    first = λ at lt. subst (IsFirstFrom handlers (length handlers) at)
        (sym (ap (λ (os : List (Option ℕ)). get_or os at None) one ∙ get_or-replicate count at None None lt))
        (none_behind at);
    next = λ n le lt _. absurd (omega (arith, le, lt));
  }

  -- a handler more in front, which doesn't cover the instruction as the first one, or does
  still_first : (number n at : ℕ) (o : Option ℕ) → number ≡ n + 1 → nat_eq at (from_of handlers n) ≡ false
      → IsFirstFrom handlers number at o → IsFirstFrom handlers n at o
  still_first number n at o e other so_far = record {
    least = let least = so_far.least in omega (arith, e, least);
    none = λ k le lt. ⊎_elim
        (λ here. ap (λ (i : ℕ). nat_eq at (from_of handlers i)) here ∙ other)
        (λ there. so_far.none k (omega (arith, e, le, there)) lt)
        (cases_eq k n);
    covering = so_far.covering;
  }

  now_first : (n : ℕ) → n < length handlers → IsFirstFrom handlers n (from_of handlers n) (Some n)
  now_first n lt = record {
    least = omega arith;
    none = λ k le less. absurd (omega (arith, le, less));
    covering = (lt, refl);
  }

  module _ (number n count : ℕ) (firsts nexts : List (Option ℕ)) (e : number ≡ n + 1) (lt : n < length handlers)
      (so_far : IsChainFrom handlers number count firsts nexts) where
    pub chained_past : count ≤ from_of handlers n → IsChainFrom handlers n count firsts nexts
    chained_past over = record {
      long = so_far.long;
      numbers = so_far.numbers;
      first = λ at below. ⊎_elim
          (λ here. let same = here.1 in absurd (omega (arith, over, below, same)))
          (λ there. still_first number n at (get_or firsts at None) e there.0 (so_far.first at below))
          (eqb_tells at (from_of handlers n));
      next = λ k le less within. ⊎_elim
          (λ here. let same = ap (from_of handlers) here in absurd (omega (arith, over, within, same)))
          (λ there. so_far.next k (omega (arith, e, le, there)) less within)
          (cases_eq k n);
    }

    pub chained_more : from_of handlers n < count
        → IsChainFrom handlers n count (set firsts (from_of handlers n) (Some n))
        (set nexts n (get_or firsts (from_of handlers n) None))
    chained_more within = record {
      long = length-set firsts from (Some n) ∙ so_far.long;
      numbers = length-set nexts n (get_or firsts from None) ∙ so_far.numbers;
      first = λ at below. ⊎_elim
          (λ here. subst (λ (i : ℕ). IsFirstFrom handlers n i (get_or (set firsts from (Some n)) i None)) (sym here.1)
          (subst (IsFirstFrom handlers n from) (sym (get_or-set_same firsts from (Some n) None inside))
          (now_first n lt)))
          (λ there. subst (IsFirstFrom handlers n at) (sym (get_or-set_other firsts from at (Some n) None there.1))
          (still_first number n at (get_or firsts at None) e there.0 (so_far.first at below)))
          (eqb_tells at from);
      next = λ k le less below. ⊎_elim
          (λ here. subst
          (λ (i : ℕ). IsFirstFrom handlers (i + 1) (from_of handlers i) (get_or (set nexts n old) i None))
          (sym here)
          (subst (IsFirstFrom handlers (n + 1) from) (sym (get_or-set_same nexts n old None there_is))
          (subst (λ (i : ℕ). IsFirstFrom handlers i from old) e (so_far.first from within))))
          (λ there. subst (IsFirstFrom handlers (k + 1) (from_of handlers k))
          (sym (get_or-set_other nexts n k old None there))
          (so_far.next k (omega (arith, e, le, there)) less below))
          (cases_eq k n);
    }
      where
        from : ℕ
        from = from_of handlers n

        old : Option ℕ
        old = get_or firsts from None

        inside : from < length firsts
        inside = let long = so_far.long in omega (arith, long, within)

        there_is : n < length nexts
        there_is = let numbers = so_far.numbers in omega (arith, numbers, lt)

    -- the same by what is read
    pub chained_put : (from : ℕ) (old : Option ℕ) → from ≡ from_of handlers n → from < count
        → old ≡ get_or firsts from old
        → IsChainFrom handlers n count (set firsts from (Some n)) (set nexts n old)
    chained_put from old same within is =
        subst (λ (o : Option ℕ). IsChainFrom handlers n count (set firsts from (Some n)) (set nexts n o))
        (sym (is ∙ get_or_default firsts from old None (let long = so_far.long in omega (arith, long, within))))
        (subst (λ (at : ℕ). IsChainFrom handlers n count (set firsts at (Some n)) (set nexts n (get_or firsts at None)))
        (sym same) (chained_more (subst (λ (at : ℕ). at < count) same within)))

  -- an instruction has one where some handler covers it as the first one
  told : (at : ℕ) (o : Option ℕ) → IsFirstFrom handlers 0 at o → is_some o ≡ is_first_covered handlers at
  told at (Some n) is = sym (list_any_at (λ (h : Handler). nat_eq at h.from) handlers n no_handler is.covering.0
      (same at (from_of handlers n) is.covering.1))
    where
      same : (a b : ℕ) → b ≡ a → nat_eq a b ≡ true
      same a b e = ⊎_elim (λ here. here.0) (λ there. absurd (there.1 (sym e))) (eqb_tells a b)
  told at None is = sym (list_any_none (λ (h : Handler). nat_eq at h.from) handlers
      (λ n d lt. ap (λ (h : Handler). nat_eq at h.from) (get_or_default handlers n d no_handler lt)
      ∙ is.none n (omega arith) lt))

  pub chained : (count : ℕ) (chain : Chain) → IsChainFrom handlers 0 count chain.first.items chain.next.items
      → IsChain handlers count chain
  chained count chain all = record {
    chained = all;
    marked = λ at lt. told at (get_or chain.first.items at None) (all.first at lt);
  }

-- ---- handlers one after the other

module _ (env : Environment) (at : ℕ) (f : TypeFrame) where
  -- what doesn't cover the instruction as the first one is satisfied
  passed : (n : ℕ) → nat_eq at (from_of env.code.handlers n) ≡ false
      → satisfies_if_first env at f (get_or env.code.handlers n no_handler) ≡ true
  passed n other = rw other refl

  pub satisfied_none : (o : Option ℕ) → IsFirstFrom env.code.handlers 0 at o → IsSatisfiedBefore env at f o
  satisfied_none o is = record {
    covering = is.covering;
    each = λ n lt. passed n (is.none n (omega arith) lt);
  }

  pub satisfied_more : (n : ℕ) (next : Option ℕ) → IsSatisfiedBefore env at f (Some n)
      → satisfies_if_first env at f (get_or env.code.handlers n no_handler) ≡ true
      → IsFirstFrom env.code.handlers (n + 1) at next → IsSatisfiedBefore env at f next
  satisfied_more n next so_far holds is = record {
    covering = is.covering;
    each = λ k lt. by k lt (cases_eq k n);
  }
    where
      behind : (k : ℕ) → n < k → k < count_before env.code.handlers next
          → satisfies_if_first env at f (get_or env.code.handlers k no_handler) ≡ true
      behind k less lt = passed k (is.none k (omega (arith, less)) lt)

      by : (k : ℕ) → k < count_before env.code.handlers next → (k ≡ n) ⊎ (k ≡ n → ⊥)
          → satisfies_if_first env at f (get_or env.code.handlers k no_handler) ≡ true
      by k lt (inl e) =
          ap (λ (i : ℕ). satisfies_if_first env at f (get_or env.code.handlers i no_handler)) e ∙ holds
      by k lt (inr ne) = ⊎_elim
          (λ less. let below = less.1 in so_far.each k (omega (arith, below)))
          (λ more. let above = more.1 in behind k (omega (arith, ne, above)) lt)
          (leb_tells (suc k) n)

  pub satisfied_all : IsSatisfiedBefore env at f None → true ≡ satisfies_first env at f
  satisfied_all so_far = sym (list_all-from_AllPass (satisfies_if_first env at f) env.code.handlers
      (λ n d lt. ap (satisfies_if_first env at f) (get_or_default env.code.handlers n d no_handler lt)
      ∙ so_far.each n lt))

  pub satisfied_not : (n : ℕ) (b : Bool) → n < length env.code.handlers
      → b ≡ satisfies_if_first env at f (get_or env.code.handlers n no_handler) → b ≡ false
      → false ≡ satisfies_first env at f
  satisfied_not n b lt tells e =
      sym (list_all_at (satisfies_if_first env at f) env.code.handlers n no_handler lt (sym tells ∙ e))

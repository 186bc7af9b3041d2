-- The lists of the pairs of each item while pairs are added.
use Rattle.std.proofs.Common.{◌≡◌, ◌≢◌, ◌⊎◌, ◌+◌, ◌<◌, ℕ, List, [], ◌∷◌, ◌++◌, inl, inr, ⊎_elim, ◌∙◌, sym, subst, ap}
use Rattle.std.proofs.Common.{length, get_or, set, take, get_or-set_same, get_or-set_other, length-set}
use Rattle.std.specs.List.{All, Contains}
use Rattle.std.proofs.lemmas.Bool.{cases_eq, cases_lt}
use Rattle.std.proofs.lemmas.List.{get_or_past}
use Rattle.std.proofs.lemmas.List.Elements.{All-contains, All-more, All-nil, All-weaker, Contains-append_left}
use Rattle.std.proofs.lemmas.List.Elements.{Contains-get_or, Contains-push, Contains-push_cases}
use Rattle.mark_core.specs.declared.system.Pair.{Pair}
use Rattle.mark_core.specs.declared.system.System.{System}
use Rattle.why_kept.specs.bodies.ByItem.{Adds, HasItem, IsByItemOf, pairs_at}

-- ---- one list

module _ (pair : Pair) (item : ℕ) (old new : List (List Pair)) (lt : item < length old) (of : HasItem item pair)
    (is : new ≡ set old item (pairs_at old item ++ pair ∷ [])) where
  here : pairs_at new item ≡ pairs_at old item ++ pair ∷ []
  here = ap (λ l. get_or l item []) is ∙ get_or-set_same old item (pairs_at old item ++ pair ∷ []) [] lt

  there : (x : ℕ) → x ≢ item → pairs_at new x ≡ pairs_at old x
  there x other = ap (λ l. get_or l x []) is ∙ get_or-set_other old item x (pairs_at old item ++ pair ∷ []) [] other

  keeps : (x : ℕ) (other : Pair) → Contains (pairs_at old x) other → Contains (pairs_at new x) other
  keeps x other has = ⊎_elim
      (λ same. subst (λ (y : ℕ). Contains (pairs_at new y) other) (sym same) (subst (λ l. Contains l other) (sym here)
      (Contains-append_left (pairs_at old item) (pair ∷ []) other
      (subst (λ (y : ℕ). Contains (pairs_at old y) other) same has))))
      (λ unlike. subst (λ l. Contains l other) (sym (there x unlike)) has)
      (cases_eq x item)

  fresh : (x : ℕ) (other : Pair) → Contains (pairs_at new x) other
      → Contains (pairs_at old x) other ⊎ ((other ≡ pair) × HasItem x pair)
  fresh x other has = ⊎_elim
      (λ same. ⊎_elim (λ had. inl (subst (λ (y : ℕ). Contains (pairs_at old y) other) (sym same) had))
      (λ e. inr (sym e, subst (λ (y : ℕ). HasItem y pair) (sym same) of))
      (Contains-push_cases (pairs_at old item) pair other
      (subst (λ l. Contains l other) here (subst (λ (y : ℕ). Contains (pairs_at new y) other) same has))))
      (λ unlike. inl (subst (λ l. Contains l other) (there x unlike) has))
      (cases_eq x item)

  pub adds_at : Adds pair old new
  adds_at = record {
    count = ap length is ∙ length-set old item (pairs_at old item ++ pair ∷ []);
    keeps = keeps;
    fresh = fresh;
  }

  pub there_at : Contains (pairs_at new item) pair
  there_at = subst (λ l. Contains l pair) (sym here) (Contains-push (pairs_at old item) pair)

pub adds_trans : (pair : Pair) (a b c : List (List Pair)) → Adds pair a b → Adds pair b c → Adds pair a c
adds_trans pair a b c first then = record {
  count = then.count ∙ first.count;
  keeps = λ x other has. then.keeps x other (first.keeps x other has);
  fresh = λ x other has. ⊎_elim (first.fresh x other) inr (then.fresh x other has);
}

-- ---- all lists

pub by_item_first : (sys : System) (lists : List (List Pair)) → length lists ≡ sys.n
    → All (λ (list : List Pair). list ≡ []) lists → IsByItemOf sys [] lists
by_item_first sys lists count empty =
    let none : (x : ℕ) → pairs_at lists x ≡ [] = λ x. ⊎_elim (λ lt. empty x [] lt) (λ le. get_or_past lists x [] le)
    (cases_lt x (length lists)) in
    record {
      count = count;
      listed = λ x. subst (λ l. All (λ pair. Contains sys.pairs pair × HasItem x pair) l) (sym (none x))
          (All-nil (λ pair. Contains sys.pairs pair × HasItem x pair));
      one = All-nil (λ (pair : Pair). Contains (pairs_at lists pair.one) pair);
      two = All-nil (λ (pair : Pair). Contains (pairs_at lists pair.two) pair);
    }

pub by_item_after : (sys : System) (i : ℕ) (d : Pair) (old new : List (List Pair)) → i < length sys.pairs
    → IsByItemOf sys (take i sys.pairs) old → Adds (get_or sys.pairs i d) old new
    → Contains (pairs_at new (get_or sys.pairs i d).one) (get_or sys.pairs i d)
    → Contains (pairs_at new (get_or sys.pairs i d).two) (get_or sys.pairs i d)
    → IsByItemOf sys (take (i + 1) sys.pairs) new
by_item_after sys i d old new lt is adds one two =
    let pair : Pair = get_or sys.pairs i d in
    record {
      count = adds.count ∙ is.count;
      listed = λ x k e within.
          let other : Pair = get_or (pairs_at new x) k e in
          ⊎_elim
          (λ had. All-contains (λ p. Contains sys.pairs p × HasItem x p) (pairs_at old x) other (is.listed x) had)
          (λ same. (
            subst (Contains sys.pairs) (sym same.0) (Contains-get_or sys.pairs i d lt),
            subst (HasItem x) (sym same.0) same.1,
          ))
          (adds.fresh x other (Contains-get_or (pairs_at new x) k e within));
      one = All-more (λ (p : Pair). Contains (pairs_at new p.one) p) sys.pairs i d lt
          (All-weaker (λ (p : Pair). Contains (pairs_at old p.one) p) (λ (p : Pair). Contains (pairs_at new p.one) p)
          (λ p has. adds.keeps p.one p has) (take i sys.pairs) is.one) one;
      two = All-more (λ (p : Pair). Contains (pairs_at new p.two) p) sys.pairs i d lt
          (All-weaker (λ (p : Pair). Contains (pairs_at old p.two) p) (λ (p : Pair). Contains (pairs_at new p.two) p)
          (λ p has. adds.keeps p.two p has) (take i sys.pairs) is.two) two;
    }

-- ---- fronts

pub all_front : {X : Type 0} (P : X → Type 0) (xs ys : List X) → All P (xs ++ ys) → All P xs
all_front P xs ys all k d lt =
    All-contains P (xs ++ ys) (get_or xs k d) all
    (Contains-append_left xs ys (get_or xs k d) (Contains-get_or xs k d lt))

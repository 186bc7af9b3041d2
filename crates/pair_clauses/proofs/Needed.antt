-- What items need that have lines: gone over from an item on, and that it is items.
use Rattle.std.proofs.Common.{◌≡◌, ◌<◌, ◌≤◌, ◌+◌, ℕ, Bool, true, false, not, List, [], ◌∷◌, ◌++◌, Option, Some, None}
use Rattle.std.proofs.Common.{fold, length, drop, slice_get, refl, sym, ap, subst, ◌∙◌, arith, append_assoc}
use Rattle.std.specs.Prelude.{◌&&◌, if◌then◌else◌}
use Rattle.std.specs.List.{All, enumerate_from, filter, flat_map}
use Rattle.std.specs.Option.{IfSome}
use Rattle.std.proofs.lemmas.List.Elements.{All-append, All-cons, All-filter, All-head, All-tail, filter-append}
use Rattle.std.proofs.lemmas.List.Sums.{fold-append}
use Rattle.mark_core.specs.Valid.{PairBelow, Valid}
use Rattle.mark_core.specs.declared.system.Pair.{Pair}
use Rattle.mark_core.specs.declared.system.System.{System}
use Rattle.pair_clauses.specs.Closing.{has_line, lacking, lesser, needed, needed_by, needed_together}
use Rattle.pair_clauses.proofs.Zipped.{beyond, drop_none, drop_some}

module _ (lined : List Bool) where
  -- the least of what lacks a line, with what was found before
  abbrev pub least_of : Option ℕ → List ℕ → Option ℕ
  least_of least xs = fold lesser least (filter (λ x. not (has_line lined x)) xs)

  -- what items need from one on, and then more
  abbrev pub needed_from : List (List ℕ) → List ℕ → ℕ → List ℕ
  needed_from needs more i = flat_map (needed_by lined) (enumerate_from i (drop i needs)) ++ more

  least_both : (least : Option ℕ) (xs ys : List ℕ) → least_of least (xs ++ ys) ≡ least_of (least_of least xs) ys
  least_both least xs ys =
      ap (fold lesser least) (filter-append (λ x. not (has_line lined x)) xs ys)
      ∙ fold-append lesser least (filter (λ x. not (has_line lined x)) xs) (filter (λ x. not (has_line lined x)) ys)

  needed_here : (needs : List (List ℕ)) (more : List ℕ) (i : ℕ) (x : List ℕ) → slice_get needs i ≡ Some x
      → needed_from needs more i ≡ needed_by lined (i, x) ++ needed_from needs more (i + 1)
  needed_here needs more i x s =
      ap (λ (zs : List (List ℕ)). flat_map (needed_by lined) (enumerate_from i zs) ++ more) (drop_some needs i x s)
      ∙ append_assoc (needed_by lined (i, x))
      (flat_map (needed_by lined) (enumerate_from (i + 1) (drop (i + 1) needs))) more

  -- an item more was gone over
  pub needs_on : (needs : List (List ℕ)) (more : List ℕ) (i : ℕ) (x : List ℕ) (least after : Option ℕ)
      → slice_get needs i ≡ Some x → after ≡ least_of least (needed_by lined (i, x))
      → least_of after (needed_from needs more (i + 1)) ≡ least_of least (needed_from needs more i)
  needs_on needs more i x least after s e =
      ap (λ (o : Option ℕ). least_of o (needed_from needs more (i + 1))) e
      ∙ sym (least_both least (needed_by lined (i, x)) (needed_from needs more (i + 1)))
      ∙ ap (least_of least) (sym (needed_here needs more i x s))

  -- all were
  pub needs_done : (needs : List (List ℕ)) (more : List ℕ) (i : ℕ) → length needs ≤ i → more ≡ needed_from needs more i
  needs_done needs more i all =
      ap (λ (zs : List (List ℕ)). flat_map (needed_by lined) (enumerate_from i zs) ++ more)
      (sym (drop_none needs i (beyond needs i all)))

  -- an item with a line, and one without
  pub needs_lined : (i : ℕ) (x : List ℕ) → has_line lined i ≡ true → x ≡ needed_by lined (i, x)
  needs_lined i x e = ap (λ (b : Bool). if b then x else []) (sym e)

  pub needs_unlined : (i : ℕ) (x : List ℕ) → has_line lined i ≡ false → [] ≡ needed_by lined (i, x)
  needs_unlined i x e = ap (λ (b : Bool). if b then x else []) (sym e)

  -- what two items need together and has no line
  pub together_lacks : (pair : Pair) (least : Option ℕ) → least_of least (needed_together lined pair)
      ≡ (if has_line lined pair.one && has_line lined pair.two && not (has_line lined pair.derived)
      then lesser least pair.derived else least)
  together_lacks pair least =
      by (has_line lined pair.one) (has_line lined pair.two) (has_line lined pair.derived) refl
    where
      by : (a b d : Bool) → has_line lined pair.derived ≡ d
          → least_of least (if a && b then pair.derived ∷ [] else [])
          ≡ (if a && b && not d then lesser least pair.derived else least)
      by true true true e = ap (λ (q : Bool). fold lesser least (if not q then pair.derived ∷ [] else [])) e
      by true true false e = ap (λ (q : Bool). fold lesser least (if not q then pair.derived ∷ [] else [])) e
      by true false d e = refl
      by false b d e = refl

  -- a pair more was gone over
  pub pairs_on : (pairs : List Pair) (i : ℕ) (pair : Pair) (least after : Option ℕ) → slice_get pairs i ≡ Some pair
      → after ≡ least_of least (needed_together lined pair)
      → least_of after (flat_map (needed_together lined) (drop (i + 1) pairs))
      ≡ least_of least (flat_map (needed_together lined) (drop i pairs))
  pairs_on pairs i pair least after s e =
      ap (λ (o : Option ℕ). least_of o (flat_map (needed_together lined) (drop (i + 1) pairs))) e
      ∙ sym (least_both least (needed_together lined pair) (flat_map (needed_together lined) (drop (i + 1) pairs)))
      ∙ ap (λ (xs : List Pair). least_of least (flat_map (needed_together lined) xs)) (sym (drop_some pairs i pair s))

  -- where it has none, and where it has one or isn't needed
  pub after_lacking : (pair : Pair) (least after : Option ℕ) (lacks : Bool)
      → lacks ≡ (has_line lined pair.one && has_line lined pair.two && not (has_line lined pair.derived))
      → after ≡ (if lacks then lesser least pair.derived else least)
      → after ≡ least_of least (needed_together lined pair)
  after_lacking pair least after lacks is e =
      e ∙ ap (λ (b : Bool). if b then lesser least pair.derived else least) is ∙ sym (together_lacks pair least)

  module _ (n : ℕ) where
    needed_by_below : (i : ℕ) (x : List ℕ) → All (λ y. y < n) x → All (λ y. y < n) (needed_by lined (i, x))
    needed_by_below i x all = by (has_line lined i)
      where
        by : (b : Bool) → All (λ y. y < n) (if b then x else [])
        by true = all
        by false = λ k d low. absurd (omega (arith, low))

    items_below : (i : ℕ) (needs : List (List ℕ)) → All (λ items. All (λ y. y < n) items) needs
        → All (λ y. y < n) (flat_map (needed_by lined) (enumerate_from i needs))
    items_below i [] all = λ k d low. absurd (omega (arith, low))
    items_below i (x ∷ xs) all = All-append (λ y. y < n) (needed_by lined (i, x))
        (flat_map (needed_by lined) (enumerate_from (i + 1) xs))
        (needed_by_below i x (All-head (λ items. All (λ y. y < n) items) x xs all))
        (items_below (i + 1) xs (All-tail (λ items. All (λ y. y < n) items) x xs all))

    together_below : (pair : Pair) → PairBelow n pair → All (λ y. y < n) (needed_together lined pair)
    together_below pair below = by (has_line lined pair.one && has_line lined pair.two)
      where
        by : (b : Bool) → All (λ y. y < n) (if b then pair.derived ∷ [] else [])
        by true = All-cons (λ y. y < n) pair.derived [] below.2 (λ k d low. absurd (omega (arith, low)))
        by false = λ k d low. absurd (omega (arith, low))

    pairs_below : (pairs : List Pair) → All (PairBelow n) pairs
        → All (λ y. y < n) (flat_map (needed_together lined) pairs)
    pairs_below [] all = λ k d low. absurd (omega (arith, low))
    pairs_below (x ∷ xs) all = All-append (λ y. y < n) (needed_together lined x) (flat_map (needed_together lined) xs)
        (together_below x (All-head (PairBelow n) x xs all)) (pairs_below xs (All-tail (PairBelow n) x xs all))

    lesser_below : (o : Option ℕ) (x : ℕ) → IfSome o (λ y. y < n) → x < n → IfSome (lesser o x) (λ y. y < n)
    lesser_below None x before low = low
    lesser_below (Some y) x before low = omega (arith, before, low)

    fold_below : (o : Option ℕ) (xs : List ℕ) → IfSome o (λ y. y < n) → All (λ y. y < n) xs
        → IfSome (fold lesser o xs) (λ y. y < n)
    fold_below o [] before all = before
    fold_below o (x ∷ xs) before all = fold_below (lesser o x) xs
        (lesser_below o x before (All-head (λ y. y < n) x xs all)) (All-tail (λ y. y < n) x xs all)

  -- what lacks a line is an item
  pub lacking_below : (sys : System) → Valid sys → IfSome (lacking sys lined) (λ y. y < sys.n)
  lacking_below sys valid = fold_below sys.n None (filter (λ x. not (has_line lined x)) (needed sys lined)) tt
      (All-filter (λ x. not (has_line lined x)) (λ y. y < sys.n) (needed sys lined)
      (All-append (λ y. y < sys.n) (flat_map (needed_by lined) (enumerate_from 0 sys.needs))
      (flat_map (needed_together lined) sys.pairs)
      (items_below sys.n 0 sys.needs valid.2) (pairs_below sys.n sys.pairs valid.3)))

  pub item_below : (sys : System) (item bound : ℕ) → Valid sys → sys.n ≡ bound → Some item ≡ lacking sys lined
      → item < bound
  item_below sys item bound valid same is =
      let low : item < sys.n = subst (λ (o : Option ℕ). IfSome o (λ y. y < sys.n)) (sym is) (lacking_below sys valid) in
      omega (arith, low, same)

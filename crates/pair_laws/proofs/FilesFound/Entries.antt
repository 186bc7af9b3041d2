-- The entries of told files below a directory, by their paths there.
use Rattle.std.proofs.Common.{◌≡◌, ℕ, ◌&&◌, Bool, true, false, cond, List, [], ◌∷◌, ◌++◌, length, take, drop, map}
use Rattle.std.proofs.Common.{Option, Some, None}
use Rattle.std.proofs.Common.{refl, sym, ap, subst, ◌∙◌}
use Rattle.std.specs.Prelude.{T, nat_eq}
use Rattle.std.specs.Cmp.{nat_cmp_is, unsigned_Decides}
use Rattle.std.specs.Cmp.Lexicographic.{slice_cmp}
use Rattle.std.specs.FinMap.{find, is_sorted}
use Rattle.std.specs.FinMap.Entries.{below_all}
use Rattle.std.specs.List.{AllByRecursion, cons_option, filter_map, starts_with}
use Rattle.std.specs.List.Sorted.{IsStrictlySortedBy}
use Rattle.std.specs.Option.{option_map}
use Rattle.std.specs.Ordering.{eq_by_cmp, is_eq, is_lt, nat_cmp}
use Rattle.std.specs.declared.cmp.Ordering.{Ordering}
use Rattle.std.specs.declared.cmp.Ordering.TheVariants.{Less, Equal, Greater}
use Rattle.std.proofs.lemmas.List.{drop_at, take_at}
use Rattle.std.proofs.lemmas.Map.Lookups.{exact_bytes}
use Rattle.std.proofs.lemmas.Slice.Eq.{slice_eq-Decides}
use Rattle.tree_io.specs.Below.{IsAscending, rest_after}
use Rattle.tree_io.proofs.Below.{behind}

abbrev pub Entry : Type 0
Entry = List ℕ × List ℕ

abbrev pub order : List ℕ → List ℕ → Ordering
order = slice_cmp nat_cmp

abbrev paths : List Entry → List (List ℕ)
paths es = map (λ (e : Entry). e.0) es

-- ---- entries in order

less_is : (o : Ordering) → T (is_lt o) → o ≡ Less
less_is Less h = refl
less_is Equal h = absurd h
less_is Greater h = absurd h

parts : (s t : Bool) → T (s && t) → T s × T t
parts true t h = (tt, h)
parts false t h = absurd h

joined : (s t : Bool) → T s → T t → T (s && t)
joined true t h k = k
joined false t h k = absurd h

above_to : (x : List ℕ) (es : List Entry) → T (below_all order x es)
    → AllByRecursion (λ y. order x y ≡ Less) (paths es)
above_to x [] h = tt
above_to x (e ∷ es) h =
    let both = parts (is_lt (order x e.0)) (below_all order x es) h in
    (less_is (order x e.0) both.0, above_to x es both.1)

above_from : (x : List ℕ) (es : List Entry) → AllByRecursion (λ y. order x y ≡ Less) (paths es)
    → T (below_all order x es)
above_from x [] h = tt
above_from x (e ∷ es) h =
    joined (is_lt (order x e.0)) (below_all order x es) (subst (λ o. T (is_lt o)) (sym h.0) tt)
    (above_from x es h.1)

-- the paths of entries in order ascend
pub sorted_to : (es : List Entry) → T (is_sorted order es) → IsAscending (paths es)
unfolding IsStrictlySortedBy
sorted_to [] h = tt
sorted_to (e ∷ es) h =
    let both = parts (below_all order e.0 es) (is_sorted order es) h in
    (above_to e.0 es both.0, sorted_to es both.1)

-- and entries whose paths ascend are in order
pub sorted_from : (es : List Entry) → IsAscending (paths es) → T (is_sorted order es)
unfolding IsStrictlySortedBy
sorted_from [] h = tt
sorted_from (e ∷ es) h =
    joined (below_all order e.0 es) (is_sorted order es) (above_from e.0 es h.0) (sorted_from es h.1)

-- ---- entries below

-- a common front changes no order
pub in_front : (p x y : List ℕ) → order (p ++ x) (p ++ y) ≡ order x y
in_front [] x y = refl
in_front (c ∷ p) x y =
    let same : nat_cmp c c ≡ Equal = sym (nat_cmp_is c c Equal refl) in
    rw same (in_front p x y)

module _ (front : List ℕ) where
  -- those of the entries that lie below the front, by what is behind it
  abbrev pub below_of : List Entry → List Entry
  below_of es = filter_map (λ (e : Entry). option_map (λ p. (p, e.1)) (rest_after front e.0)) es

  pub paths_of : (es : List Entry) → filter_map (rest_after front) (paths es) ≡ paths (below_of es)
  paths_of [] = refl
  paths_of (e ∷ es) = by (rest_after front e.0) (paths_of es)
    where
      by : (o : Option (List ℕ)) → filter_map (rest_after front) (paths es) ≡ paths (below_of es)
          → cons_option o (filter_map (rest_after front) (paths es))
          ≡ paths (cons_option (option_map (λ p. (p, e.1)) o) (below_of es))
      by None same = same
      by (Some p) same = ap (λ (t : List (List ℕ)). p ∷ t) same

  -- what is behind the front of a path that has it
  pub rest_of : (q : List ℕ) → rest_after front (front ++ q) ≡ Some q
  rest_of q =
      let its : front ≡ take (length front) (front ++ q) = sym (take_at front q (length front) refl) in
      let begins : starts_with nat_eq (front ++ q) front ≡ true =
      (slice_eq-Decides unsigned_Decides front (take (length front) (front ++ q)) _ refl).1 its in
      ap (λ (t : Bool). cond t (Some (drop (length front) (front ++ q))) None) begins
      ∙ ap Some (drop_at front q (length front) refl)

  pub none_like : (q path : List ℕ) → rest_after front path ≡ None → (o : Ordering) → order (front ++ q) path ≡ o
      → is_eq o ≡ false
  none_like q path none Less e = refl
  none_like q path none Greater e = refl
  none_like q path none Equal e =
      let same : front ++ q ≡ path = exact_bytes (front ++ q) path e in
      let wrong : Some q ≡ None = sym (rest_of q) ∙ ap (rest_after front) same ∙ none in
      absurd cc

  -- what stands at a path below
  pub found_below : (q : List ℕ) (es : List Entry) → find order (front ++ q) es ≡ find order q (below_of es)
  found_below q [] = refl
  found_below q (e ∷ es) = by (rest_after front e.0) refl (found_below q es)
    where
      by : (o : Option (List ℕ)) → rest_after front e.0 ≡ o
          → find order (front ++ q) es ≡ find order q (below_of es)
          → cond (eq_by_cmp order (front ++ q) e.0) (Some e.1) (find order (front ++ q) es)
          ≡ find order q (cons_option (option_map (λ p. (p, e.1)) o) (below_of es))
      by None is same =
          ap (λ (t : Bool). cond t (Some e.1) (find order (front ++ q) es))
          (none_like q e.0 is (order (front ++ q) e.0) refl)
          ∙ same
      by (Some p) is same =
          ap (λ (path : List ℕ). cond (eq_by_cmp order (front ++ q) path) (Some e.1) (find order (front ++ q) es))
          (behind front e.0 p is)
          ∙ ap (λ (o : Ordering). cond (is_eq o) (Some e.1) (find order (front ++ q) es)) (in_front front q p)
          ∙ ap (cond (eq_by_cmp order q p) (Some e.1)) same

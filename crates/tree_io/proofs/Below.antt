-- The paths below a directory, and their order.
use Rattle.std.proofs.Common.{◌≡◌, ◌≢◌, ℕ, ◌+◌, true, false, cond, List, [], ◌∷◌, ◌++◌, length, take, drop, Option}
use Rattle.std.proofs.Common.{Some, None, refl, sym, ap, ◌∙◌}
use Rattle.std.specs.Borrow.{Bor}
use Rattle.std.specs.Prelude.{MatchOption, nat_eq}
use Rattle.std.specs.Option.{option_copied}
use Rattle.std.specs.Bool.{Decides}
use Rattle.std.specs.Str.{IsCharBoundary}
use Rattle.std.specs.Ordering.{nat_cmp}
use Rattle.std.specs.declared.cmp.Ordering.TheVariants.{Less, Equal}
use Rattle.std.specs.Cmp.{unsigned_Decides, nat_cmp_is}
use Rattle.std.specs.Cmp.Lexicographic.{slice_cmp}
use Rattle.std.specs.List.{AllByRecursion, filter_map, starts_with, cons_option}
use Rattle.std.specs.List.Sorted.{IsStrictlySortedBy}
use Rattle.std.proofs.lemmas.Slice.Eq.{slice_eq-Decides}
use Rattle.std.proofs.lemmas.List.{take_at, drop_at, take-append-drop}
use Rattle.tree_io.specs.Below.{front_of, rest_after, paths_below, IsAscending}

starts : (dir path : List ℕ) → Decides (starts_with nat_eq path dir) (dir ≡ take (length dir) path)
starts dir path = slice_eq-Decides unsigned_Decides dir (take (length dir) path) _ refl

-- what strip_prefix says makes its answer the rest
pub rest_is : (dir path : List ℕ) (r : Option (Bor (List ℕ)))
    → MatchOption r ((rest : List ℕ) → path ≢ dir ++ rest) (λ x. path ≡ dir ++ x.now)
    → option_copied r ≡ rest_after dir path
rest_is dir path None h =
    elim (starts_with nat_eq path dir) as
    (λ b. starts_with nat_eq path dir ≡ b → None ≡ cond b (Some (drop (length dir) path)) None) [
      | true ↦ λ e. absurd (h (drop (length dir) path) (sym (take-append-drop (length dir) path)
          ∙ ap (λ (p : List ℕ). p ++ drop (length dir) path) (sym ((starts dir path).0 e))))
      | false ↦ λ e. refl
    ] refl
rest_is dir path (Some x) h =
    let front : dir ≡ take (length dir) path = sym (take_at dir x.now (length dir) refl)
    ∙ ap (take (length dir)) (sym h) in
    let yes : starts_with nat_eq path dir ≡ true = (starts dir path).1 front in
    let rest : drop (length dir) path ≡ x.now = ap (drop (length dir)) h ∙ drop_at dir x.now (length dir) refl in
    rw (yes, rest) refl

-- what strip_prefix ensures at a text
pub stripped : (dir path : List ℕ) (r : Option (Bor (List ℕ)))
    → MatchOption r ((rest : List ℕ) → drop 0 path ≢ dir ++ rest)
    (λ x. (n : ℕ) × ((n ≡ length dir) × (path ≡ dir ++ drop n path) × IsCharBoundary path (length dir))
    × (x.now ≡ drop n path) × (length x.now + n ≡ length path))
    → option_copied r ≡ rest_after dir path
stripped dir path None h = rest_is dir path None h
stripped dir path (Some x) h = rest_is dir path (Some x) (h.1.1 ∙ ap (λ (t : List ℕ). dir ++ t) (sym h.2))

-- ---- the order

same_front : (p x y : List ℕ) → slice_cmp nat_cmp (p ++ x) (p ++ y) ≡ slice_cmp nat_cmp x y
same_front [] x y = refl
same_front (c ∷ p) x y =
    let same : nat_cmp c c ≡ Equal = sym (nat_cmp_is c c Equal refl) in
    rw same (same_front p x y)

-- what lies below stands behind the front
pub behind : (front path x : List ℕ) → rest_after front path ≡ Some x → path ≡ front ++ x
behind front path x =
    elim (starts_with nat_eq path front) as
    (λ b. starts_with nat_eq path front ≡ b → cond b (Some (drop (length front) path)) None ≡ Some x
    → path ≡ front ++ x) [
      | true ↦ λ e h. (let is : drop (length front) path ≡ x = cc in sym (take-append-drop (length front) path)
          ∙ ap (λ (p : List ℕ). p ++ drop (length front) path) (sym ((starts front path).0 e))
          ∙ ap (λ (t : List ℕ). front ++ t) is)
      | false ↦ λ e h. absurd cc
    ] refl

rest_keeps : (front a b x y : List ℕ) → rest_after front a ≡ Some x → rest_after front b ≡ Some y
    → slice_cmp nat_cmp a b ≡ Less → slice_cmp nat_cmp x y ≡ Less
rest_keeps front a b x y p q less =
    let e : slice_cmp nat_cmp a b
    ≡ slice_cmp nat_cmp x y = rw (behind front a x p, behind front b y q) (same_front front x y) in
    sym e ∙ less

rest_above : (front a x : List ℕ) (paths : List (List ℕ)) → rest_after front a ≡ Some x
    → AllByRecursion (λ b. slice_cmp nat_cmp a b ≡ Less) paths
    → AllByRecursion (λ y. slice_cmp nat_cmp x y ≡ Less) (filter_map (rest_after front) paths)
rest_above front a x [] e all = tt
rest_above front a x (b ∷ paths) e all =
    elim (rest_after front b) as (λ o. rest_after front b ≡ o
    → AllByRecursion (λ y. slice_cmp nat_cmp x y ≡ Less) (cons_option o (filter_map (rest_after front) paths))) [
      | None ↦ λ q. rest_above front a x paths e all.1
      | Some y ↦ λ q. (rest_keeps front a b x y e q all.0, rest_above front a x paths e all.1)
    ] refl

rests_ascend : (front : List ℕ) (paths : List (List ℕ)) → IsAscending paths
    → IsAscending (filter_map (rest_after front) paths)
unfolding IsStrictlySortedBy
rests_ascend front [] h = tt
rests_ascend front (a ∷ paths) h =
    elim (rest_after front a) as (λ o. rest_after front a ≡ o
    → IsAscending (cons_option o (filter_map (rest_after front) paths))) [
      | None ↦ λ q. rests_ascend front paths h.1
      | Some x ↦ λ q. (rest_above front a x paths q h.0, rests_ascend front paths h.1)
    ] refl

pub still_ascending : (dir : List ℕ) (paths : List (List ℕ)) → IsAscending paths → IsAscending (paths_below dir paths)
still_ascending dir paths h = rests_ascend (front_of dir) paths h

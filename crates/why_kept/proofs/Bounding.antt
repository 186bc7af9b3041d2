-- Certified levels are bounds of the depths of derivations.
use Rattle.std.proofs.Common.{◌≡◌, ◌+◌, ◌<◌, ◌≤◌, ℕ, List, [], sym, subst, arith, ⊎_elim}
use Rattle.std.proofs.Common.{length}
use Rattle.std.specs.List.{All, Contains}
use Rattle.std.proofs.lemmas.Bool.{cases_eq, cases_lt}
use Rattle.std.proofs.lemmas.List.{get_or_past}
use Rattle.std.proofs.lemmas.List.Elements.{All-contains, Contains-get_or}
use Rattle.mark_core.specs.Marks.{needs_of}
use Rattle.mark_core.specs.Valid.{PairBelow, Valid}
use Rattle.mark_core.specs.declared.system.Pair.{Pair}
use Rattle.mark_core.specs.declared.system.System.{System}
use Rattle.why_kept.specs.Derivations.{IsDerivation, IsDerivedAt, Tree, depth_of, item_of, need, pair, pair_of, seed}
use Rattle.why_kept.specs.Laws.{BoundDerivations}
use Rattle.why_kept.specs.Levels.{AreLeast, HasLevel, IsCertified, IsPairNear, level_of, level_of_pair}
use Rattle.why_kept.proofs.Room.{no_room}

-- what has a level is an item
pub level_below : (sys : System) (levels : List ℕ) (x : ℕ) → length levels ≡ sys.n → HasLevel sys levels x → x < sys.n
level_below sys levels x count has =
    ⊎_elim (λ lt. lt)
    (λ le. let past = get_or_past levels x sys.n (subst (λ k. k ≤ x) (sym count) le) in absurd (omega (arith, past, has)))
    (cases_lt x sys.n)

-- what an item needs is an item
pub need_below : (sys : System) (x y : ℕ) → Valid sys → y < sys.n → Contains (needs_of sys y) x → x < sys.n
need_below sys x y valid lt listed =
    All-contains (λ z. z < sys.n) (needs_of sys y) x (valid.2 y [] (subst (λ k. y < k) (sym valid.0) lt)) listed

module _ (sys : System) (levels : List ℕ) (valid : Valid sys) (certified : IsCertified sys levels) where
  abbrev at : ℕ → ℕ
  at x = level_of sys levels x

  -- each number up to this one is a level
  abbrev Covers : ℕ → Type 0
  Covers k = (v : ℕ) → v ≤ k → Contains levels v

  here : (x : ℕ) → x < sys.n → Contains levels (at x)
  here x lt = Contains-get_or levels x sys.n (subst (λ k. x < k) (sym certified.count) lt)

  -- an item whose level is one more at most than one up to which all are levels
  next : (x k : ℕ) → x < sys.n → k < sys.n → Covers k → at x ≤ k + 1 → HasLevel sys levels x × Covers (at x)
  next x k lt low covers near =
      let inside : x < length levels = subst (λ m. x < m) (sym certified.count) lt in
      let has : HasLevel sys levels x = ⊎_elim (λ has. has)
      (λ le. absurd (no_room sys.n levels x sys.n certified.count (λ v less. covers v (omega (arith, less, near, le))) inside
      le)) (cases_lt (at x) sys.n) in (
        has,
        λ v le. ⊎_elim (λ same. subst (Contains levels) (sym same) (here x lt))
            (λ other. covers v (omega (arith, other, le, near))) (cases_eq v (at x)),
      )

  abbrev Bounded : Tree → Type 0
  Bounded t = HasLevel sys levels (item_of t) × (at (item_of t) ≤ depth_of t) × Covers (at (item_of t))

  bounded : (t : Tree) → IsDerivation sys t → Bounded t
  bounded (seed x) listed =
      let lt : x < sys.n = All-contains (λ y. y < sys.n) sys.seeds x valid.1 listed in
      let zero : at x ≡ 0 = All-contains (λ y. at y ≡ 0) sys.seeds x certified.seeds listed in (
        omega (arith, lt, zero),
        omega (arith, zero),
        λ v le. subst (Contains levels) (let e : at x ≡ v = omega (arith, zero, le) in e) (here x lt),
      )
  bounded (need x t) (listed, derives) =
      let below = bounded t derives in
      let y : ℕ = item_of t in
      let y_in : y < sys.n = level_below sys levels y certified.count below.0 in
      let near : at x ≤ at y + 1 = All-contains (λ z. at z ≤ at y + 1) (needs_of sys y) x
      (certified.needs y y_in below.0) listed in
      let found = next x (at y) (need_below sys x y valid y_in listed) below.0 below.2 near in
      let low = below.1 in
      (found.0, omega (arith, near, low), found.1)
  bounded (pair x t u) (listed, first, second) =
      let one = bounded t first in
      let two = bounded u second in
      let p : Pair = pair_of (item_of t) (item_of u) x in
      let below : PairBelow sys.n p = All-contains (PairBelow sys.n) sys.pairs p valid.3 listed in
      let near : at x ≤ level_of_pair sys levels p + 1 =
      All-contains (IsPairNear sys levels) sys.pairs p certified.pairs listed one.0 two.0 in
      let one_in = one.0 in
      let two_in = two.0 in
      let one_low = one.1 in
      let two_low = two.1 in
      let covers : Covers (level_of_pair sys levels p) = λ v le. ⊎_elim (λ less. two.2 v (omega (arith, less, le)))
      (λ more. one.2 v more) (cases_lt (at (item_of t)) v) in
      let found = next x (level_of_pair sys levels p) below.2 (omega (arith, one_in, two_in)) covers near in
      (found.0, omega (arith, near, one_low, two_low), found.1)

pub bound_derivations : BoundDerivations
bound_derivations sys levels valid certified tree derives =
    let all = bounded sys levels valid certified tree derives in (all.0, all.1)

-- levels that are reached and certified are the least depths
pub least_of : (sys : System) (levels : List ℕ) → Valid sys → IsCertified sys levels → All (λ l. l ≤ sys.n) levels
    → ((x : ℕ) → HasLevel sys levels x → IsDerivedAt sys x (level_of sys levels x)) → AreLeast sys levels
least_of sys levels valid certified most reached = record {
  count = certified.count;
  most = λ x. ⊎_elim (λ lt. most x sys.n lt)
      (λ le. let past = get_or_past levels x sys.n le in omega (arith, past)) (cases_lt x (length levels));
  reached = reached;
  bounds = bound_derivations sys levels valid certified;
}

-- Going over the places of one item in the pairs, from the last one on.
use Rattle.std.proofs.Common.{◌≡◌, ℕ, ◌+◌, ◌-◌, ◌*◌, ◌/◌, ◌<◌, ◌≤◌, length, get_or, ⊎_elim, subst, sym, ◌∙◌}
use Rattle.std.proofs.Common.{arith}
use Rattle.std.proofs.lemmas.Bool.{cases_eq, cases_lt}
use Rattle.std.proofs.lemmas.List.{get_or_default}
use Rattle.std.specs.List.{All}
use Rattle.mark_core.specs.declared.system.System.{System}
use Rattle.mark_core.specs.bodies.PairIndex.{pair_at, item_at, front_of, link_of}
use Rattle.mark_core.proofs.Linking.{first_place, second_place}
use Rattle.mark_machine.specs.declared.machine.View.{View}
use Rattle.mark_machine.specs.Machine.{PairSeen}
use Rattle.mark_workers.specs.Index.{core_index, IsIndex}
use Rattle.mark_workers.specs.Work.{Kept}
use Rattle.mark_workers.specs.declared.pair_index.PairIndex.{PairIndex}
use Rattle.mark_workers.proofs.Kept.{pair_kept}

-- the front ends with a place of the item, and each place of the item behind it has its pair seen
pub record IsWalked (sys : System) (v : View) (x front : ℕ) : Type 0 where
  pub ends : (p : ℕ) → front ≡ p + 1 → (p < 2 * length sys.pairs) × (item_at sys p ≡ x)
  pub behind : (p : ℕ) → p < 2 * length sys.pairs → front ≤ p → item_at sys p ≡ x → PairSeen v x (pair_at sys (p / 2))

pub walk_first : (sys : System) (index : PairIndex) (v : View) (x : ℕ) → IsIndex sys index
    → IsWalked sys v x (front_of (core_index index) x)
walk_first sys index v x ix = record {
  ends = ix.front_ends x;
  behind = λ p lt le same.
      let has : p < front_of (core_index index) x = subst (λ y. p < front_of (core_index index) y) same
      (ix.front_has p lt) in
      absurd (omega (arith, has, le));
}

pub walk_on : (n : ℕ) (sys : System) (index : PairIndex) (v w : View) (x front p : ℕ) → IsIndex sys index
    → IsWalked sys v x front → front ≡ p + 1 → Kept n v w → PairSeen w x (pair_at sys (p / 2))
    → IsWalked sys w x (link_of (core_index index) p)
walk_on n sys index v w x front p ix walked is kept seen =
    let here = walked.ends p is in
    record {
      ends = λ q ends. let link = ix.link_ends q p here.0 ends in (
        let lt : q < p = link.0 in let end : p < 2 * length sys.pairs = here.0 in omega (arith, lt, end),
        link.1 ∙ here.1,
      );
      behind = λ q lt le same. ⊎_elim
          (λ itself. subst (λ k. PairSeen w x (pair_at sys (k / 2))) (sym itself) seen)
          (λ other. ⊎_elim
          (λ before. let link : q < link_of (core_index index) p = ix.link_has q p before here.0 (same ∙ sym here.1)
          in
          absurd (omega (arith, link, le)))
          (λ after. pair_kept n v w x (pair_at sys (q / 2)) kept
          (walked.behind q lt (omega (arith, is, other, after)) same))
          (cases_lt q p))
          (cases_eq q p);
    }

pub walk_inside : (sys : System) (v : View) (x front : ℕ) → IsWalked sys v x front → 0 < front
    → (front - 1) / 2 < length sys.pairs
walk_inside sys v x front walked some =
    let last : front - 1 < 2 * length sys.pairs = (walked.ends (front - 1) (omega arith)).0 in
    omega (arith, last)

pub walk_smaller : (sys : System) (index : PairIndex) (p front : ℕ) → IsIndex sys index → p < 2 * length sys.pairs
    → front ≡ p + 1 → link_of (core_index index) p < front
walk_smaller sys index p front ix lt is = ⊎_elim
    (λ none. omega (arith, none, is))
    (λ some.
    let q : ℕ = link_of (core_index index) p - 1 in
    let ends : link_of (core_index index) p ≡ link_of (core_index index) p - 1 + 1 = omega (arith, some) in
    let before : link_of (core_index index) p - 1 < p = (ix.link_ends q p lt ends).0 in
    omega (arith, before, is))
    (cases_eq (link_of (core_index index) p) 0)

pub walk_last : (sys : System) (v : View) (x front : ℕ) → IsWalked sys v x front → front ≤ 0
    → All (PairSeen v x) sys.pairs
walk_last sys v x front walked none k d lt =
    let same : pair_at sys k ≡ get_or sys.pairs k d = get_or_default sys.pairs k _ d lt in
    let half : 2 * k / 2 ≡ k = omega arith in
    let odd : (2 * k + 1) / 2 ≡ k = omega arith in
    subst (PairSeen v x) same (
      (λ e. (subst (λ j. PairSeen v x (pair_at sys j)) half
          (walked.behind (2 * k) (omega (arith, lt)) (omega (arith, none)) (first_place sys k ∙ e))).0 e),
      (λ e. (subst (λ j. PairSeen v x (pair_at sys j)) odd
          (walked.behind (2 * k + 1) (omega (arith, lt)) (omega (arith, none)) (second_place sys k ∙ e))).1 e),
    )

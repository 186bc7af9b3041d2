-- Going over the places of one item, from the last one on.
use Rattle.std.proofs.Common.{◌≡◌, ℕ, ◌+◌, ◌-◌, ◌*◌, ◌/◌, ◌<◌, ◌≤◌, length, get_or, ⊎_elim, subst, sym, ◌∙◌, ap, arith}
use Rattle.std.proofs.lemmas.Bool.{cases_eq, cases_lt}
use Rattle.std.proofs.lemmas.List.{get_or_default}
use Rattle.mark_core.specs.declared.system.System.{System}
use Rattle.mark_core.specs.declared.system.Pair.{Pair}
use Rattle.mark_core.specs.declared.pair_index.PairIndex.{PairIndex}
use Rattle.mark_core.specs.declared.plain.Worklist.{Worklist}
use Rattle.mark_core.specs.bodies.PairIndex.{pair_at, item_at, front_of, link_of, IsIndexOf}
use Rattle.mark_core.specs.bodies.Worklist.{Grows, IsDone, AllPairsDone}
use Rattle.mark_core.proofs.Growing.{done_grows}
use Rattle.mark_core.proofs.Linking.{first_place, second_place}

-- the front ends with a place of the item, and each place of the item behind it has its pair done
pub record IsWalked (sys : System) (work : Worklist) (x front : ℕ) : Type 0 where
  pub ends : (p : ℕ) → front ≡ p + 1 → (p < 2 * length sys.pairs) × (item_at sys p ≡ x)
  pub behind : (p : ℕ) → p < 2 * length sys.pairs → front ≤ p → item_at sys p ≡ x → IsDone work (pair_at sys (p / 2))

pub walk_first : (sys : System) (index : PairIndex) (work : Worklist) (x : ℕ)
    → IsIndexOf sys (2 * length sys.pairs) index → IsWalked sys work x (front_of index x)
walk_first sys index work x ix = record {
  ends = ix.front_ends x;
  behind = λ p lt le same.
      let has : p < front_of index x = subst (λ y. p < front_of index y) same (ix.front_has p lt) in
      absurd (omega (arith, has, le));
}

pub walk_on : (sys : System) (index : PairIndex) (old new : Worklist) (x front p : ℕ)
    → IsIndexOf sys (2 * length sys.pairs) index
    → IsWalked sys old x front → front ≡ p + 1 → Grows old new → IsDone new (pair_at sys (p / 2))
    → IsWalked sys new x (link_of index p)
walk_on sys index old new x front p ix walked is grows done =
    let here = walked.ends p is in
    record {
      ends = λ q ends. let link = ix.link_ends q p here.0 ends in (
        let lt : q < p = link.0 in let end : p < 2 * length sys.pairs = here.0 in omega (arith, lt, end),
        link.1
            ∙ here.1,
      );
      behind = λ q lt le same. ⊎_elim
          (λ itself. subst (λ k. IsDone new (pair_at sys (k / 2))) (sym itself) done)
          (λ other. ⊎_elim
          (λ before. let link : q < link_of index p = ix.link_has q p before here.0 (same ∙ sym here.1) in absurd
          (omega (arith, link, le)))
          (λ after. done_grows old new (pair_at sys (q / 2)) grows
          (walked.behind q lt (omega (arith, is, other, after)) same))
          (cases_lt q p))
          (cases_eq q p);
    }

pub walk_inside : (sys : System) (work : Worklist) (x front : ℕ) → IsWalked sys work x front → 0 < front
    → (front - 1) / 2 < length sys.pairs
walk_inside sys work x front walked some =
    let last : front - 1 < 2 * length sys.pairs = (walked.ends (front - 1) (omega arith)).0 in
    omega (arith, last)

pub walk_smaller : (sys : System) (index : PairIndex) (p front : ℕ) → IsIndexOf sys (2 * length sys.pairs) index
    → p < 2 * length sys.pairs → front ≡ p + 1 → link_of index p < front
walk_smaller sys index p front ix lt is = ⊎_elim
    (λ none. omega (arith, none, is))
    (λ some.
    let q : ℕ = link_of index p - 1 in
    let ends : link_of index p ≡ link_of index p - 1 + 1 = omega (arith, some) in
    let before : link_of index p - 1 < p = (ix.link_ends q p lt ends).0 in
    omega (arith, before, is))
    (cases_eq (link_of index p) 0)

pub walk_last : (sys : System) (work : Worklist) (x front : ℕ) → IsWalked sys work x front → front ≤ 0
    → AllPairsDone sys work x
walk_last sys work x front walked none k d lt has =
    let same : pair_at sys k ≡ get_or sys.pairs k d = get_or_default sys.pairs k _ d lt in
    let one : 2 * k / 2 ≡ k = omega arith in
    let two : (2 * k + 1) / 2 ≡ k = omega arith in
    subst (IsDone work) same (⊎_elim
    (λ e. subst (λ j. IsDone work (pair_at sys j)) one
    (walked.behind (2 * k) (omega (arith, lt)) (omega (arith, none))
    (first_place sys k ∙ (ap (λ (p : Pair). p.one) same ∙ e))))
    (λ e. subst (λ j. IsDone work (pair_at sys j)) two
    (walked.behind (2 * k + 1) (omega (arith, lt)) (omega (arith, none))
    (second_place sys k ∙ (ap (λ (p : Pair). p.two) same ∙ e))))
    has)

-- Answers of `first_of_each`: what its calls ask for, and what it promises.
use Rattle.std.proofs.Common.{◌≡◌, ◌<◌, ⊎_elim, ℕ, length, subst, arith}
use Rattle.std.proofs.lemmas.Bool.{cases_lt, both_ways}
use Rattle.class_pool.specs.bodies.Cycles.{HasTest}
use Rattle.class_pool.specs.Supertypes.{IsCyclic}
use Rattle.class_pool.proofs.Ranking.{tests_rank}
use Rattle.class_pool.proofs.hierarchy.cycles.first_of_each.Goals as goal

pub loop-number-preserved : goal.loop-number-preserved
loop-number-preserved c = (
  c.in_ok-is_cyclic.ensures.hierarchy,
  λ n within cyclic.
      ⊎_elim
      (λ less. c.loop-number.invariant.1 n less cyclic)
      (λ over.
      let same : n ≡ c.loop-number.number = omega (arith, within, over) in
      both_ways c.in_ok-is_cyclic.field-0 c.if-branch.false
      (c.in_ok-is_cyclic.ensures.is.1 (subst (IsCyclic c.args.set.now) same cyclic)))
      (cases_lt n c.loop-number.number),
  λ n within.
      ⊎_elim
      (λ less. c.loop-number.invariant.2 n less)
      (λ over.
      let same : c.loop-number.number ≡ n = omega (arith, within, over) in
      subst (HasTest c.args.set.now) same c.in_ok-is_cyclic.ensures.test)
      (cases_lt n c.loop-number.number),
)

pub returns : goal.returns
returns c =
    let all : (n : ℕ) → n < length c.args.set.now → n < c.loop-number.number =
    λ n within. omega (arith, within, c.loop-number-test.false, c.len-number-end.ensures.is) in
    tests_rank c.args.set.now (λ n within. c.loop-number.invariant.2 n (all n within))
    (λ n within. c.loop-number.invariant.1 n (all n within))

-- Answers of `library_number`: what its calls ask for, and what it promises.
use Rattle.std.proofs.Common.{◌∙◌, ◌+◌, ⊎_elim, sym, ap, arith}
use Rattle.std.proofs.lemmas.Bool.{eqb-true, eqb-false, cases_eq}
use Rattle.class_pool.proofs.Graphing.{library_at, library_length}
use Rattle.class_pool.proofs.hierarchy.graph.library_number.Goals as goal

pub returns-then-eq : goal.returns-then-eq
returns-then-eq c =
    c.loop-other.invariant.0
    ∙ sym
    (library_at c.args.library.now c.loop-other.other-index c.other-item.result c.requires.library
    c.loop-other-test.true c.other-item.is)
    ∙ eqb-true _ _ (sym c.eq.ensures ∙ c.if-eq.true)

pub loop-other-preserved : goal.loop-other-preserved
loop-other-preserved c =
    let at = library_at c.args.library.now c.loop-other.other-index c.other-item.result c.requires.library
    c.loop-other-test.true c.other-item.is in
    let low = c.loop-other.invariant.1 in (
      ap (λ k. k + 1) c.loop-other.invariant.0,
      ⊎_elim (λ e. absurd (eqb-false _ _ (sym c.eq.ensures ∙ c.if-eq.false) (at ∙ e))) (λ ne. omega (arith, low, ne))
          (cases_eq c.loop-other.other-index c.args.id),
    )

pub returns : goal.returns
returns c =
    let long = library_length c.args.library.now c.requires.library in
    let there = c.requires.there in
    let low = c.loop-other.invariant.1 in
    let end = c.loop-other-test.false in
    absurd (omega (arith, long, there, low, end))

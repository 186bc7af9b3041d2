-- Answers of `find_by_pair`: what its calls ask for, and what it promises.
use Rattle.std.proofs.Common.{◌<◌, ℕ, sym, subst, arith}
use Rattle.why_kept.proofs.Deriving.{pair_due}
use Rattle.why_kept.proofs.Finding.{read_level}
use Rattle.why_kept.proofs.search.find_by_pair.Goals as goal

pub find-requires-clause-due : goal.find-requires-clause-due
find-requires-clause-due c =
    let sys = c.args.sys.now in
    let levels = c.args.search.now.levels.items in
    let count = c.requires.sound.count in
    pair_due sys c.args.search.now c.args.level c.args.pair c.requires.sound (omega (arith, c.requires.few))
    c.requires.listed c.requires.next
    (subst (λ (k : ℕ). k < c.args.level)
    (read_level levels c.args.pair.one sys.n _ (subst (λ k. c.args.pair.one < k) (sym count) c.requires.below.0)
    c.index.ensures)
    c.if-index-level.true)
    (subst (λ (k : ℕ). k < c.args.level)
    (read_level levels c.args.pair.two sys.n _ (subst (λ k. c.args.pair.two < k) (sym count) c.requires.below.1)
    c.index-then-index-level.ensures)
    c.if-index-level-2.true)

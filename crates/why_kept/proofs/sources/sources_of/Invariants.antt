use Rattle.why_kept.specs.bodies.Noting.{AreNoted, by_needs, by_pairs}
use Rattle.why_kept.proofs.sources.sources_of.Given as goal

abbrev pub invariant-loop-item : goal.invariant-loop-item
invariant-loop-item l = AreNoted l.sys.n (by_needs l.sys l.levels l.item) l.sources.items

abbrev pub invariant-loop-pair : goal.invariant-loop-pair
invariant-loop-pair l = AreNoted l.sys.n (by_pairs l.sys l.levels l.pair-index) l.sources.items

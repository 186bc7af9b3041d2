-- Answers of `lacking_together`: what its calls ask for, and what it promises.
use Rattle.std.proofs.Common.{Bool, get_or, sym, ap, ◌∙◌}
use Rattle.std.specs.Prelude.{if◌then◌else◌}
use Rattle.std.proofs.lemmas.Option.{slice_get-get_or}
use Rattle.mark_core.specs.declared.system.Pair.{Pair}
use Rattle.pair_clauses.specs.Closing.{lesser}
use Rattle.pair_clauses.proofs.Needed.{after_lacking, pairs_on}
use Rattle.pair_clauses.proofs.closing.lacking_together.Goals as goal
use Rattle.pair_clauses.proofs.closing.lacking_together.Goals.{then-is_lacking, else-is_lacking}

pub loop-pair-preserved : goal.loop-pair-preserved
loop-pair-preserved c =
    let lined = c.args.lined.now in
    let none : Pair = record { one = 0; two = 0; derived = 0 } in
    let pair = get_or c.args.pairs.now c.loop-pair.pair-index none in
    let read = slice_get-get_or c.args.pairs.now c.loop-pair.pair-index none c.loop-pair-test.true in
    let least = c.loop-pair.least in
    elim c.if-is_lacking.branch [
      | then-is_lacking w ↦
          pairs_on lined c.args.pairs.now c.loop-pair.pair-index pair least c.if-is_lacking.least read
          (after_lacking lined pair least c.if-is_lacking.least c.is_lacking.result c.is_lacking.ensures
          (w.least-is ∙ w.lesser-least.ensures
          ∙ ap (λ (b : Bool). if b then lesser least pair.derived else least) (sym w.if-is_lacking.true)))
          ∙ c.loop-pair.invariant
      | else-is_lacking w ↦
          pairs_on lined c.args.pairs.now c.loop-pair.pair-index pair least c.if-is_lacking.least read
          (after_lacking lined pair least c.if-is_lacking.least c.is_lacking.result c.is_lacking.ensures
          (w.least-is ∙ ap (λ (b : Bool). if b then lesser least pair.derived else least) (sym w.if-is_lacking.false)))
          ∙ c.loop-pair.invariant
    ]

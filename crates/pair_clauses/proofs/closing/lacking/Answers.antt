-- Answers of `lacking`: what its calls ask for, and what it promises.
use Rattle.std.proofs.Common.{List, ap, sym, ◌∙◌, arith}
use Rattle.std.specs.List.{flat_map}
use Rattle.mark_core.specs.declared.system.Pair.{Pair}
use Rattle.pair_clauses.specs.Closing.{needed_together}
use Rattle.pair_clauses.proofs.Needed.{least_of, needs_done, needs_lined, needs_on, needs_unlined}
use Rattle.pair_clauses.proofs.closing.lacking.Goals as goal
use Rattle.pair_clauses.proofs.closing.lacking.Goals.{then-has_line_at, else-has_line_at}

pub loop-item-preserved : goal.loop-item-preserved
loop-item-preserved c =
    let lined = c.args.lined.now in
    let more = flat_map (needed_together lined) c.args.sys.now.pairs in
    let needs = c.index-needs.result.now in
    elim c.if-has_line_at.branch [
      | then-has_line_at w ↦
          needs_on lined c.args.sys.now.needs more c.loop-item.item needs c.loop-item.least c.if-has_line_at.least
          c.index-needs.ensures
          (w.least-is ∙ w.least_lacking-least.ensures ∙ ap (least_of lined c.loop-item.least)
          (w.as_slice.ensures ∙ needs_lined lined c.loop-item.item needs
          (sym c.has_line_at.ensures ∙ w.if-has_line_at.true)))
          ∙ c.loop-item.invariant
      | else-has_line_at w ↦
          needs_on lined c.args.sys.now.needs more c.loop-item.item needs c.loop-item.least c.if-has_line_at.least
          c.index-needs.ensures
          (w.least-is ∙ ap (least_of lined c.loop-item.least)
          (needs_unlined lined c.loop-item.item needs (sym c.has_line_at.ensures ∙ w.if-has_line_at.false)))
          ∙ c.loop-item.invariant
    ]

pub returns : goal.returns
returns c =
    let lined = c.args.lined.now in
    let more = flat_map (needed_together lined) c.args.sys.now.pairs in
    c.lacking_together.ensures
    ∙ ap (λ (ps : List Pair). least_of lined c.loop-item.least (flat_map (needed_together lined) ps))
    c.as_slice-2.ensures
    ∙ ap (least_of lined c.loop-item.least) (needs_done lined c.args.sys.now.needs more c.loop-item.item (omega arith))
    ∙ c.loop-item.invariant

-- Answers of `told_at`: what its calls ask for, and what it promises.
use Rattle.std.proofs.Common.{sym}
use Rattle.tree_notes.specs.declared.nearest.Up.TheVariants.{At}
use Rattle.tree_notes.proofs.Telling.{found, found_early, none_found}
use Rattle.tree_notes.proofs.nearest.told_at.Goals as goal

pub returns-then-place-eq0 : goal.returns-then-place-eq0
returns-then-place-eq0 c =
    sym (none_found c.args.visit.now c.args.changes.now c.place_of-place.result c.place_of-place.ensures
    c.if-place-eq0.true)

pub returns-then-visit-last : goal.returns-then-visit-last
returns-then-visit-last c =
    sym (found c.args.visit.now c.args.changes.now c.place_of-place.result c.place_of-place.ensures
    (record { time = 0; up = At 0 }) c.if-place-eq0.false c.if-visit-last.true)

pub returns-else-visit-last : goal.returns-else-visit-last
returns-else-visit-last c =
    sym (found_early c.args.visit.now c.args.changes.now c.place_of-place.result c.place_of-place.ensures
    (record { time = 0; up = At 0 }) c.if-place-eq0.false c.requires c.if-visit-last.false)

-- Answers of `place_of`: what its calls ask for, and what it promises.
use Rattle.std.proofs.Common.{◌+◌, ◌-◌, ◌/◌, ◌<◌, ◌≤◌, ℕ, length, arith, subst}
use Rattle.std.proofs.lemmas.List.{get_or_default}
use Rattle.tree_notes.specs.declared.nearest.Change.{Change}
use Rattle.tree_notes.proofs.nearest.place_of.Goals as goal

pub loop-low-preserved-then-changes-middle : goal.loop-low-preserved-then-changes-middle
loop-low-preserved-then-changes-middle c =
    let middle : ℕ = c.loop-low.low + (c.loop-low.high - c.loop-low.low) / 2 in
    let high-in = c.loop-low.invariant.within.1 in
    let below : middle < c.loop-low.high = omega (arith, c.loop-low-test.true) in
    let inside : middle < length c.args.changes.now = omega (arith, below, high-in) in
    record {
      within = (omega (arith, below), high-in);
      before = λ k d less.
          let rise = c.requires k middle d (omega (arith, less)) inside in
          let here = subst (λ (x : Change). x.time ≤ c.args.time) (get_or_default c.args.changes.now middle _ d inside)
          c.if-changes-middle.true in
          omega (arith, rise, here);
      behind = c.loop-low.invariant.behind;
    }

pub loop-low-preserved : goal.loop-low-preserved
loop-low-preserved c =
    let middle : ℕ = c.loop-low.low + (c.loop-low.high - c.loop-low.low) / 2 in
    let high-in = c.loop-low.invariant.within.1 in
    let below : middle < c.loop-low.high = omega (arith, c.loop-low-test.true) in
    let inside : middle < length c.args.changes.now = omega (arith, below, high-in) in
    record {
      within = (omega arith, omega (arith, inside));
      before = c.loop-low.invariant.before;
      behind = λ k d over low.
          let rise = c.requires middle k d over low in
          let here = subst (λ (x : Change). c.args.time < x.time) (get_or_default c.args.changes.now middle _ d inside)
          c.if-changes-middle.false in
          omega (arith, rise, here);
    }

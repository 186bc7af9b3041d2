-- Answers of `place_of`: what its calls ask for, and what it promises.
use Rattle.std.proofs.Common.{◌+◌, ◌-◌, ◌/◌, ◌<◌, ◌≤◌, ℕ, length, nat_lt, sym, arith}
use Rattle.std.proofs.lemmas.Bool.{le-ltb, lt-ltb}
use Rattle.std.proofs.lemmas.List.Sums.{prefix_len_is}
use Rattle.method_places.proofs.Grouping.{less_before, not_less_behind}
use Rattle.method_places.proofs.alike.place_of.Goals as goal

pub loop-low-preserved-then-keys-middle : goal.loop-low-preserved-then-keys-middle
loop-low-preserved-then-keys-middle c =
    let middle : ℕ = c.loop-low.low + (c.loop-low.high - c.loop-low.low) / 2 in
    let high-in = c.loop-low.invariant.within.1 in
    let below : middle < c.loop-low.high = omega (arith, c.loop-low-test.true) in
    let inside : middle < length c.args.keys.now = omega (arith, below, high-in) in
    record {
      within = (omega (arith, below), high-in);
      before = λ k less.
          less_before c.args.keys.now c.args.mark k middle c.requires (omega (arith, less)) inside
          (lt-ltb _ _ c.if-keys-middle.true);
      behind = c.loop-low.invariant.behind;
    }

pub loop-low-preserved : goal.loop-low-preserved
loop-low-preserved c =
    let middle : ℕ = c.loop-low.low + (c.loop-low.high - c.loop-low.low) / 2 in
    let high-in = c.loop-low.invariant.within.1 in
    let below : middle < c.loop-low.high = omega (arith, c.loop-low-test.true) in
    let inside : middle ≤ length c.args.keys.now = omega (arith, below, high-in) in
    record {
      within = (omega arith, inside);
      before = c.loop-low.invariant.before;
      behind = λ k over low.
          not_less_behind c.args.keys.now c.args.mark middle k c.requires over low
          (le-ltb _ _ c.if-keys-middle.false);
    }

pub returns : goal.returns
returns c =
    let high-in = c.loop-low.invariant.within.1 in
    let low-in = c.loop-low.invariant.within.0 in
    let end : c.loop-low.low ≤ length c.args.keys.now = omega (arith, high-in, low-in) in
    sym (prefix_len_is (λ key. nat_lt key c.args.mark) c.args.keys.now c.loop-low.low 0 end
    c.loop-low.invariant.before (λ inside. c.loop-low.invariant.behind c.loop-low.low c.loop-low-test.false inside))

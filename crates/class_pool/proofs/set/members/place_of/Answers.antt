-- Answers of `place_of`: what its calls ask for, and what it promises.
use Rattle.std.proofs.Common.{◌∙◌, ◌+◌, ◌-◌, ◌/◌, ◌<◌, ℕ, length, sym, ap, arith}
use Rattle.std.proofs.lemmas.List.{get_or_default}
use Rattle.class_pool.specs.bodies.ByName.{Key, is_before}
use Rattle.class_pool.proofs.Sorting.{before_on, not_before_on}
use Rattle.class_pool.proofs.set.members.place_of.Goals as goal

pub loop-low-preserved-then-is_before : goal.loop-low-preserved-then-is_before
loop-low-preserved-then-is_before c =
    let middle : ℕ = c.loop-low.low + (c.loop-low.high - c.loop-low.low) / 2 in
    let high-in = c.loop-low.invariant.1.within in
    let within : middle < length c.args.keys.now = omega (arith, c.loop-low-test.true, high-in) in
    let r : Key = c.index-keys-middle.result in (
      omega (arith, c.loop-low-test.true),
      record {
        within = high-in;
        before = λ p d less.
            before_on c.args.keys.now c.args.name.now c.args.ty.now p middle d c.requires (omega (arith, less)) within
            (ap (is_before c.args.name.now c.args.ty.now)
            (get_or_default c.args.keys.now middle d r within ∙ sym c.index-keys-middle.is)
            ∙ sym c.is_before.ensures ∙ c.if-is_before.true);
        behind = c.loop-low.invariant.1.behind;
      },
    )

pub loop-low-preserved : goal.loop-low-preserved
loop-low-preserved c =
    let middle : ℕ = c.loop-low.low + (c.loop-low.high - c.loop-low.low) / 2 in
    let high-in = c.loop-low.invariant.1.within in
    let within : middle < length c.args.keys.now = omega (arith, c.loop-low-test.true, high-in) in
    let r : Key = c.index-keys-middle.result in (
      omega arith,
      record {
        within = omega (arith, within);
        before = c.loop-low.invariant.1.before;
        behind = λ p d over low.
            not_before_on c.args.keys.now c.args.name.now c.args.ty.now middle p d c.requires over low
            (ap (is_before c.args.name.now c.args.ty.now)
            (get_or_default c.args.keys.now middle d r within ∙ sym c.index-keys-middle.is)
            ∙ sym c.is_before.ensures ∙ c.if-is_before.false);
      },
    )

-- Answers of `methods_fault`: what its calls ask for, and what it promises.
use Rattle.std.proofs.Common.{◌+◌, Some, sym, ap, ◌∙◌, arith}
use Rattle.jv_base.proofs.Options.{some_there}
use Rattle.pair_clauses.proofs.Ranged.{leaving_done, leaving_from, leaving_here, leaving_on, leaving_unnamed, range_at}
use Rattle.pair_clauses.proofs.Unlike.{named_done, named_ends, none_there}
use Rattle.pair_clauses.proofs.ranges.methods_fault.Goals as goal
use Rattle.pair_clauses.proofs.ranges.methods_fault.Goals.{then-is_some+else-leaves_at, else-is_some}

pub returns-in_default : goal.returns-in_default
returns-in_default c =
    sym (leaving_done c.args.line.now c.args.class.now c.args.given.now.methods c.args.out.now.methods
    c.loop-index.index c.loop-index.count
    (named_ends c.args.class.now.methods c.args.given.now.methods c.loop-index.index (sym c.in_default.ensures)))
    ∙ c.loop-index.invariant.left

pub returns : goal.returns
returns c =
    sym (leaving_done c.args.line.now c.args.class.now c.args.given.now.methods c.args.out.now.methods
    c.loop-index.index c.loop-index.count
    (named_done c.args.class.now.methods c.args.given.now.methods c.loop-index.index (omega arith)))
    ∙ c.loop-index.invariant.left

pub returns-then-leaves_at : goal.returns-then-leaves_at
returns-then-leaves_at c =
    let method = c.index-method.result.now in
    let some = some_there c.in-Some.name.now (sym c.is_some.ensures ∙ c.if-is_some.true) in
    let named = sym c.in-Some.ensures ∙ ap Some some.1 in
    let range = range_at c.args.line.now c.args.class.now.methods c.in_ok-ranges.ranges c.loop-index.index method _
    c.index-method.ensures c.in_ok-ranges.ensures c.get-range.ensures in
    ap Some c.in_ok-place.ensures
    ∙ sym (leaving_here c.args.line.now c.args.class.now c.args.given.now.methods c.args.out.now.methods
    c.loop-index.index c.loop-index.count method c.index-method.ensures some.0 named _ _ range
    c.get-new.ensures (sym c.leaves_at.ensures ∙ c.if-leaves_at.true))
    ∙ c.loop-index.invariant.left

pub loop-index-preserved : goal.loop-index-preserved
loop-index-preserved c =
    let method = c.index-method.result.now in
    elim c.if-is_some.branch [
      | then-is_some+else-leaves_at w ↦
          let some = some_there c.in-Some.name.now (sym c.is_some.ensures ∙ w.if-is_some.true) in
          let named = sym c.in-Some.ensures ∙ ap Some some.1 in
          let range = range_at c.args.line.now c.args.class.now.methods c.in_ok-ranges.ranges c.loop-index.index method _
          c.index-method.ensures c.in_ok-ranges.ensures w.get-range.ensures in
          record {
            left = ap (leaving_from c.args.line.now c.args.class.now c.args.given.now.methods c.args.out.now.methods
                (c.loop-index.index + 1)) w.count-is
                ∙ leaving_on c.args.line.now c.args.class.now c.args.given.now.methods c.args.out.now.methods
                c.loop-index.index c.loop-index.count method c.index-method.ensures some.0 named _ _ range
                w.get-new.ensures (sym w.leaves_at.ensures ∙ w.if-leaves_at.false)
                ∙ c.loop-index.invariant.left;
            few = omega (arith, w.count-is, c.loop-index.invariant.few);
          }
      | else-is_some w ↦
          let unnamed = sym c.in-Some.ensures
          ∙ ap Some (none_there c.in-Some.name.now (sym c.is_some.ensures ∙ w.if-is_some.false)) in
          record {
            left = ap (leaving_from c.args.line.now c.args.class.now c.args.given.now.methods c.args.out.now.methods
                (c.loop-index.index + 1)) w.count-is
                ∙ leaving_unnamed c.args.line.now c.args.class.now c.args.given.now.methods c.args.out.now.methods
                c.loop-index.index c.loop-index.count method c.index-method.ensures unnamed
                ∙ c.loop-index.invariant.left;
            few = omega (arith, w.count-is, c.loop-index.invariant.few);
          }
    ]

-- Answers of `pairs_of`: what its calls ask for, and what it promises.
use Rattle.std.proofs.Common.{List, refl, rules, subst}
use Rattle.mark_core.specs.declared.system.Pair.{Pair}
use Rattle.require_sys.specs.Requires.{class_pairs}
use Rattle.override_pairs.specs.bodies.Counting.{HasPairs}
use Rattle.require_sys.proofs.Steps.{numbered_given}
use Rattle.override_pairs.proofs.pairs.pairs_of.Goals as goal

pub loop-number-init : goal.loop-number-init
loop-number-init c = record { pairs = search rules; above = c.in_ok-above.ensures }

pub loop-number-preserved : goal.loop-number-preserved
loop-number-preserved c = record {
  pairs = subst (λ (t : List Pair). HasPairs t c.add_class.new.pairs)
      (numbered_given (class_pairs c.args.numbered.now.set.now) c.args.numbered.now.set.now c.loop-number.number
      c.class-class.result.now _ _ c.class-class.ensures.is refl refl)
      (c.in_ok-add_class.ensures.pairs _ c.loop-number.invariant.pairs);
  above = c.in_ok-add_class.ensures.above;
}

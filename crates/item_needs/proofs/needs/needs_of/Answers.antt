-- Answers of `needs_of`: what its calls ask for, and what it promises.
use Rattle.std.proofs.Common.{List, ℕ, refl, subst}
use Rattle.require_sys.specs.Requires.{class_needs}
use Rattle.item_needs.specs.bodies.Counting.{HasNeeds}
use Rattle.require_sys.proofs.Steps.{numbered_given}
use Rattle.item_needs.proofs.needs.needs_of.Goals as goal

pub loop-number-preserved : goal.loop-number-preserved
loop-number-preserved c = record {
  has = subst (λ (t : List (List ℕ)). HasNeeds t c.add_class.new.needs)
      (numbered_given (class_needs c.args.numbered.now.set.now c.args.kept.now) c.args.numbered.now.set.now
      c.loop-number.number c.class-class.result.now _ _ c.class-class.ensures.is refl refl)
      (c.in_ok-add_class.ensures.added _ c.loop-number.invariant.has);
  empty = c.in_ok-add_class.ensures.after;
}

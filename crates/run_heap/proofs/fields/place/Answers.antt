-- Answers of `place`: what its calls ask for, and what it promises.
use Rattle.std.proofs.Common.{◌≡◌, ◌∙◌, ap, rules, true}
use Rattle.jvm_model.specs.Value.{same_key}
use Rattle.run_heap.proofs.Replacing.{one_item, reached}
use Rattle.run_heap.specs.declared.fields.Held.{Held}
use Rattle.run_heap.proofs.fields.place.Goals as goal

pub returns-then-is_same : goal.returns-then-is_same
returns-then-is_same c =
    let same : same_key c.args.key.now c.index-fields-at.result.key ≡ true = search rules in (
      c.loop-at-test.true,
      λ v h is. c.loop-at.invariant.before v
          ∙ reached c.args.fields.now c.args.key.now c.loop-at.at h v c.loop-at-test.true is
          (ap (λ (x : Held). same_key c.args.key.now x.key)
          (one_item c.args.fields.now c.loop-at.at h c.index-fields-at.result c.loop-at-test.true is
          c.index-fields-at.is) ∙ same),
    )

-- Answers of `push_level`: what its calls ask for, and what it promises.
use Rattle.std.proofs.Common.{◌≡◌, ◌∙◌, ◌+◌, ◌*◌, ℕ, ap, length, rules}
use Rattle.jvm_model.specs.Arrays.{references_from}
use Rattle.jvm_model.specs.Heap.{Array}
use Rattle.run_heap.specs.Worlds.{object_of}
use Rattle.run_heap.proofs.Nesting.{appended_long, next_first, one_array}
use Rattle.run_heap.proofs.dimensions.push_level.Goals as goal

pub loop-preserved : goal.loop-preserved
loop-preserved c =
    let first : ℕ = length c.args.heap.now.items + c.args.count in
    let sum : c.in-Some-checked_add.next ≡ c.loop.first + c.args.size = search rules in
    record {
      first = next_first first c.loop.counter c.args.size c.loop.first c.in-Some-checked_add.next
          c.loop.invariant.first sum;
      same = one_array object_of
          (λ i. Array c.args.component.now (references_from (first + i * c.args.size) c.args.size))
          c.args.heap.now.items c.loop.heap.items c.push.new.self.items c.in_ok-reference_array.field-0 c.loop.counter
          c.in_ok-push.ensures.items c.loop.invariant.same
          (c.in_ok-reference_array.ensures
          ∙ ap (λ (n : ℕ). Array c.args.component.now (references_from n c.args.size)) c.loop.invariant.first);
    }

pub returns-clause-long : goal.returns-clause-long
returns-clause-long c =
    appended_long object_of (λ i. Array c.args.component.now
    (references_from (length c.args.heap.now.items + c.args.count + i * c.args.size) c.args.size))
    c.args.heap.now.items c.loop.heap.items c.loop.counter c.loop.invariant.same
    ∙ ap (λ (n : ℕ). length c.args.heap.now.items + n) (let e : c.loop.counter ≡ c.args.count = search rules in e)

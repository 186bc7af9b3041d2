-- Answers of `set_in`: what its calls ask for, and what it promises.
use Rattle.std.proofs.Common.{◌∙◌, ap, sym}
use Rattle.run_heap.specs.Held.{held}
use Rattle.run_heap.proofs.Replacing.{replaced_is_set}
use Rattle.run_heap.proofs.fields.set_in.Goals as goal

pub returns-in-Some : goal.returns-in-Some
returns-in-Some c = let h = rw c.as_slice.ensures.value at c.in-Some.ensures in
    rw c.set_value.ensures (ap held (sym (h.1 c.args.value c.index_mut.result.now c.index_mut.ensures.value))
    ∙ replaced_is_set c.args.fields.now.items c.args.key.now c.args.value)

pub returns-in_ok-push-in-None : goal.returns-in_ok-push-in-None
returns-in_ok-push-in-None c = let h = rw c.as_slice.ensures.value at c.in-None.ensures in
    rw c.in_ok-push-in-None.ensures.items
    (rw c.in_ok-key-in-None.ensures.cases (ap held (sym (h c.args.value))
    ∙ replaced_is_set c.args.fields.now.items c.args.key.now c.args.value))

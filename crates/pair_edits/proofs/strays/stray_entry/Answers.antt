-- Answers of `stray_entry`: what its calls ask for, and what it promises.
use Rattle.std.proofs.Common.{◌≡◌, List, [], take, Some, slice_get, sym, subst, ◌∙◌}
use Rattle.witness_file.specs.declared.witness.MethodWitness.{MethodWitness}
use Rattle.pair_clauses.proofs.Zipped.{got}
use Rattle.pair_edits.specs.Edits.{entries_fault}
use Rattle.pair_edits.proofs.Straying.{fault_on, more_seen}
use Rattle.pair_edits.proofs.strays.stray_entry.Goals as goal

pub loop-entry-preserved : goal.loop-entry-preserved
loop-entry-preserved c =
    let entries = c.args.witness.now.methods in
    let at = subst (λ (es : List MethodWitness). slice_get es c.loop-entry.entry-index ≡ Some c.entry-item.result)
    c.as_slice-entry-items.ensures
    (got c.as_slice-entry-items.result.now c.loop-entry.entry-index c.entry-item.result c.loop-entry-test.true
    c.entry-item.is) in
    let before = take c.loop-entry.entry-index entries in
    record {
      seen = more_seen entries c.loop-entry.entry-index c.entry-item.result at c.is_stray.new.seen
          (c.in_ok-is_stray.ensures.seen before c.loop-entry.invariant.seen);
      fault = λ mapping given. fault_on entries c.loop-entry.entry-index c.entry-item.result at mapping c.args.input.now
          (entries_fault mapping c.args.input.now [] entries)
          (sym (c.in_ok-is_stray.ensures.stray mapping before given c.loop-entry.invariant.seen) ∙ c.if-branch.false)
          (c.loop-entry.invariant.fault mapping given);
    }

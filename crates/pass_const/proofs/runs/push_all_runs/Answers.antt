-- Answers of `push_all_runs`: what its calls ask for, and what it promises.
use Rattle.std.proofs.Common.{◌+◌, ◌<◌, length, drop, get_or, ap, drop-cons, add-one, false}
use Rattle.code_edit.specs.ConstEdits.{Shut, runs}
use Rattle.pass_const.specs.Known.{known_in}
use Rattle.pass_const.proofs.Stepping.{one_mark}
use Rattle.pass_const.proofs.runs.push_all_runs.Goals as goal

pub loop-mark-preserved : goal.loop-mark-preserved
loop-mark-preserved c =
    let i = c.loop-mark.mark-index in
    let taken = c.args.taken.now in (
      ap (λ n. n + 1) c.loop-mark.invariant.0,
      one_mark (λ slot. runs slot 0 Shut (known_in c.args.lists.now slot)) c.loop-mark.acts.items
          c.push_marked.new.acts.items c.loop-mark.slot (get_or taken i false) (drop i taken)
          (drop (i + 1) taken) _
          (let lt : i < length taken = c.loop-mark-test.true in
          rw (add-one, drop-cons taken i false))
          c.in_ok-push_marked.ensures c.loop-mark.invariant.1,
    )

-- Answers of `push_runs`: what its calls ask for, and what it promises.
use Rattle.std.proofs.Common.{◌+◌, ◌<◌, length, drop, get_or, ap, drop-cons, add-one}
use Rattle.std.specs.Prelude.{None}
use Rattle.pass_const.specs.Running.{run_of}
use Rattle.pass_const.proofs.Stepping.{one_more}
use Rattle.pass_const.proofs.runs.push_runs.Goals as goal

pub loop-now-preserved : goal.loop-now-preserved
loop-now-preserved c =
    let i = c.loop-now.now-index in
    let known = c.args.known.now in (
      ap (λ n. n + 1) c.loop-now.invariant.0,
      one_more c.loop-now.acts.items c.close.new.acts.items c.args.slot c.loop-now.at
          (run_of c.loop-now.run) (run_of c.next-run.result) (get_or known i None) (drop i known)
          (drop (i + 1) known) _
          (let lt : i < length known = c.loop-now-test.true in rw (add-one, drop-cons known i None))
          c.in_ok-close.ensures c.next-run.ensures c.loop-now.invariant.1,
    )

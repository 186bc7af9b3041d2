-- Answers of `run_class`: what its calls ask for, and what it promises.
use Rattle.std.proofs.Common.{map}
use Rattle.class_run.specs.Ended.{ended_after}
use Rattle.run_heap.specs.Worlds.{object_of}
use Rattle.set_view.specs.ViewOf.{shape_of}
use Rattle.run_entry.proofs.Ran.{ran, told}
use Rattle.run_entry.proofs.running.run_class.Goals as goal

pub returns : goal.returns
returns c =
    told c.ended_of.result c.run.new.state (shape_of c.args.set.now)
    (ended_after c.args.set.now c.args.entry c.args.args.now c.args.steps) c.ended_of.ensures
    (ran c.args.set.now c.in_ok-program.program c.in_ok-state.state c.run.new.state c.args.entry
    (map object_of c.in_ok-started.started.heap.items) c.in_ok-started.started.args c.args.args.now c.args.steps
    c.in_ok-program.ensures c.in_ok-run.ensures c.in_ok-state.ensures c.in_ok-started.ensures.heap
    c.in_ok-started.ensures.args)

use Rattle.std.proofs.Common.{◌≡◌, ◌+◌, drop, length}
use Rattle.command_frame.specs.Steps.{seen}
use Rattle.batch_command.specs.Finding.{FindsAll}
use Rattle.batch_command.specs.Jobs.{EachBefore}
use Rattle.batch_command.specs.bodies.Workers.{IsFound, bytes_in}
use Rattle.batch_command.proofs.Finding.{had}
use Rattle.batch_command.proofs.inputs.find_inputs.Given as goal

abbrev pub invariant-loop-at : goal.invariant-loop-at
invariant-loop-at g l = record {
  count : length l.inputs ≡ l.at;
  room : l.room + bytes_in l.inputs ≡ 67108864;
  found : FindsAll (had l.inputs)
      (λ fs. EachBefore (IsFound g.W.Work.parts fs) l.board.configs (drop l.at l.board.configs))
      (seen (g.T.Tree.files l.fn.tree) (g.T.Tree.faults l.fn.tree) (g.T.Tree.log l.fn.tree))
      (seen (g.T.Tree.files l.tree) (g.T.Tree.faults l.tree) (g.T.Tree.log l.tree));
}

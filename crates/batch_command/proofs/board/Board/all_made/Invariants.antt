use Rattle.std.proofs.Common.{length}
use Rattle.std.specs.List.{All}
use Rattle.batch_command.specs.bodies.Workers.{IsMade, MakesDue}
use Rattle.batch_command.proofs.board.Board.all_made.Given as goal

abbrev pub invariant-loop-member : goal.invariant-loop-member
invariant-loop-member g l = record {
  made : All (IsMade g.W.Work.parts l.self.configs) l.all.items;
  crew : All (MakesDue g.W.Work.parts l.self.configs) l.crew.items;
}

abbrev pub decreases-loop-member : goal.decreases-loop-member
decreases-loop-member g l = length l.crew.items

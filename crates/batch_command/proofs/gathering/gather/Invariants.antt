use Rattle.std.proofs.Common.{◌≡◌, ◌+◌, drop, length, Ok}
use Rattle.std.specs.List.{All}
use Rattle.std.specs.Vec.Iter.{into_iter_items, into_iter_len}
use Rattle.batch_command.specs.Jobs.{EachBefore, IsPlan}
use Rattle.batch_command.specs.bodies.Workers.{IsMade, inputs_in}
use Rattle.batch_command.proofs.gathering.gather.Given as goal

abbrev pub invariant-loop-input : goal.invariant-loop-input
invariant-loop-input g l = record {
  told : EachBefore (IsPlan g.W.Work.parts) (inputs_in l.board.configs l.fn.inputs)
      (inputs_in (drop l.number l.board.configs) (into_iter_items l.input-iterator)) (Ok l.plans);
  made : All (IsMade g.W.Work.parts l.board.configs) l.made.items;
  counted : l.number + length (into_iter_items l.input-iterator) ≡ length l.board.configs;
  lasts : into_iter_len l.input-iterator ≡ length (into_iter_items l.input-iterator);
}

-- Answers of `Board::all_made`: what its calls ask for, and what it promises.
use Rattle.std.proofs.Common.{List, subst, sym}
use Rattle.std.specs.List.{All}
use Rattle.std.proofs.lemmas.List.Elements.{All-append}
use Rattle.batch_command.specs.bodies.Workers.{IsMade, MakesDue}
use Rattle.batch_command.specs.declared.board.Made.{Made}
use Rattle.batch_command.proofs.Working.{all_but_last, of_last}
use Rattle.batch_command.proofs.board.Board.all_made.Goals as goal

pub loop-member-preserved : goal.loop-member-preserved
loop-member-preserved g c =
    let configs = c.args.self.now.configs in
    let P = MakesDue g.W.Work.parts configs in
    let each = subst (All P) c.in-Some.ensures.items c.loop-member.invariant.crew in
    let rest = c.pop.new.self.items in
    record {
      made = subst (All (IsMade g.W.Work.parts configs)) (sym {A = List Made} c.in_ok-add_made.ensures)
          (All-append (IsMade g.W.Work.parts configs) c.loop-member.all.items c.in-Some.member.made.items
          c.loop-member.invariant.made (of_last P rest c.in-Some.member each));
      crew = all_but_last P rest c.in-Some.member each;
    }

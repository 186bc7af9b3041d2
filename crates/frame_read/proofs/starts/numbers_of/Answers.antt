-- Answers of `numbers_of`: what its calls ask for, and what it promises.
use Rattle.std.specs.Prelude.{nat_eq}
use Rattle.std.specs.List.{position_from}
use Rattle.frame_read.specs.bodies.Numbers.{found}
use Rattle.frame_read.proofs.Numbers.{goes_on, is_done}
use Rattle.frame_read.proofs.starts.numbers_of.Goals as goal

pub loop-number-preserved : goal.loop-number-preserved
loop-number-preserved c = (
  λ offset.
      goes_on (found c.loop-number.table.items offset) (found c.note.new.table.items offset) (position_from
      (nat_eq offset) 0 c.args.starts.now) offset c.loop-number.number c.args.starts.now _ c.loop-number-test.true
      (c.in_ok-note.ensures.noted offset) (c.loop-number.invariant.0 offset),
  c.in_ok-note.ensures.short,
)

pub returns-clause-found : goal.returns-clause-found
returns-clause-found c = is_done c.loop-number.table.items c.loop-number.number c.args.starts.now
    c.loop-number-test.false
    c.loop-number.invariant.0

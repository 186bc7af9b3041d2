-- Answers of `numbers_of`: what its calls ask for, and what it promises.
use Rattle.std.proofs.Common.{◌≡◌, subst}
use Rattle.code_read.specs.declared.unaimed.Placed.{Placed}
use Rattle.code_read.specs.bodies.Targets.{found, noted}
use Rattle.code_read.proofs.Numbers.{goes_on, is_done, number_from}
use Rattle.code_read.proofs.targets.numbers_of.Goals as goal

pub loop-number-preserved : goal.loop-number-preserved
loop-number-preserved c = λ offset.
    goes_on (found c.loop-number.table.items offset) (found c.note.new.table.items offset)
    (number_from offset 0 c.args.placed.now) offset c.loop-number.number c.args.placed.now _ c.loop-number-test.true
    (subst (λ (p : Placed). found c.note.new.table.items offset
    ≡ noted (found c.loop-number.table.items offset) p.at c.loop-number.number offset) c.index-placed-number.is
    (c.in_ok-note.ensures offset)) (c.loop-number.invariant offset)

pub returns : goal.returns
returns c = is_done c.loop-number.table.items c.loop-number.number c.args.placed.now c.loop-number-test.false
    c.loop-number.invariant

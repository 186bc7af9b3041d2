-- Answers of `last_place_of`: what its calls ask for, and what it promises.
use Rattle.retrace_core.proofs.LastPlace.{all_seen, seen_here, seen_other}
use Rattle.retrace_core.proofs.cutting.last_place_of.Goals as goal
use Rattle.retrace_core.proofs.cutting.last_place_of.Goals.{then-b-byte, else-b-byte}

pub loop-at-preserved : goal.loop-at-preserved
loop-at-preserved c = elim c.if-b-byte.branch [
  | then-b-byte w ↦ record {
    found = rw w.found-is (seen_here c.args.byte c.args.text.now c.loop-at.at c.loop-at.found c.loop-at-test.true
        w.if-b-byte.true
        c.loop-at.invariant.found);
    within = rw w.found-is c.loop-at-test.true;
  }
  | else-b-byte w ↦ record {
    found = rw w.found-is (seen_other c.args.byte c.args.text.now c.loop-at.at c.loop-at.found c.loop-at-test.true
        w.if-b-byte.false
        c.loop-at.invariant.found);
    within = rw w.found-is c.loop-at.invariant.within;
  }
]

pub returns-clause-is : goal.returns-clause-is
returns-clause-is c = all_seen c.args.byte c.args.text.now c.loop-at.at c.loop-at.found c.loop-at-test.false
    c.loop-at.invariant.found

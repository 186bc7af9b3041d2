-- Answers of `jump_fault`: what its calls ask for, and what it promises.
use Rattle.edit_legal.proofs.JumpFaults.{jump_fault_is}
use Rattle.edit_legal.proofs.acts.jump_fault.Goals as goal

pub returns : goal.returns
returns c =
    let may = c.in_ok-jumps.ensures.skippable in
    jump_fault_is c.args.acts.now c.args.code.now c.in_ok-jumps.jumps.code.now
    c.in_ok-jumps.jumps.skippable.items may.0 c.in_ok-fault.fault c.requires.sound
    c.in_ok-jumps.ensures.code may.1 may.2 c.in_ok-fault.ensures

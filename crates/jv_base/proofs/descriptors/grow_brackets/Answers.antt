-- Answers of `grow_brackets`: what its calls ask for, and what it promises.
use Rattle.std.proofs.Common.{arith}
use Rattle.jv_base.proofs.Places.{begins_behind}
use Rattle.jv_base.proofs.descriptors.grow_brackets.Goals as goal

pub returns-in-76-clause-placed : goal.returns-in-76-clause-placed
returns-in-76-clause-placed c =
    let starts = begins_behind c.args.text.now c.args.at c.args.byte c.utf8.text c.requires.within c.requires.byte
    (omega arith) in
    rw c.more_name.ensures (omega arith, starts)

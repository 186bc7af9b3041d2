-- Answers of `say_line`: what its calls ask for, and what it promises.
use Rattle.std.proofs.Common.{refl}
use Rattle.command_frame.proofs.saying.say_line.Goals as goal

pub returns-clause-said : goal.returns-clause-said
returns-clause-said g c = (refl, (c.put.result, (c.put.ensures.log, c.put.ensures.takes)))

-- Answers of `say_batch`: what its calls ask for, and what it promises.
use Rattle.std.proofs.Common.{refl}
use Rattle.batch_command.proofs.Endings.{device, no_batch_status, words}
use Rattle.batch_command.proofs.command.say_batch.Goals as goal

pub returns-in-0-clause-words : goal.returns-in-0-clause-words
returns-in-0-clause-words g c = no_batch_status 1 (words refl) c.args.batch.now c.requires

pub returns-in-0-clause-device : goal.returns-in-0-clause-device
returns-in-0-clause-device g c = λ is. absurd (no_batch_status 7 (device refl) c.args.batch.now c.requires is)

-- Answers of `put_key`: what its calls ask for, and what it promises.
use Rattle.constant_table.proofs.Told.{on_added}
use Rattle.constant_table.proofs.putting.put_key.Goals as goal

pub returns-clause-put : goal.returns-clause-put
returns-clause-put c = on_added c.args.texts.now c.args.keys.now c.args.key c.requires.keys c.requires.key c.add.result
    c.add.new.self c.add.ensures

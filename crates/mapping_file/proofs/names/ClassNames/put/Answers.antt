-- Answers of `ClassNames::put`: what its calls ask for, and what it promises.
use Rattle.mapping_file.specs.MapReading.{empty_class}
use Rattle.mapping_file.proofs.NamesTold.{both_put}
use Rattle.mapping_file.proofs.names.ClassNames.put.Goals as goal

pub returns-then-is_new_before-clause-put : goal.returns-then-is_new_before-clause-put
returns-then-is_new_before-clause-put c = λ classes told. both_put c.args.self.now
    (record { before = c.put_name.new.names; after = c.put_name-2.new.names }) classes
    (empty_class c.args.old.now c.args.new.now) c.in_ok-is_new_before.ensures.put c.in_ok-is_new_after.ensures.put told

pub returns-else-is_new_before-clause-put : goal.returns-else-is_new_before-clause-put
returns-else-is_new_before-clause-put c = λ classes told. both_put c.args.self.now
    (record { before = c.put_name.new.names; after = c.put_name-2.new.names }) classes
    (empty_class c.args.old.now c.args.new.now) c.in_ok-is_new_before.ensures.put c.in_ok-is_new_after.ensures.put told

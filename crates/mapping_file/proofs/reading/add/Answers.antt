-- Answers of `add`: what its calls ask for, and what it promises.
use Rattle.mapping_file.proofs.NamesTold.{field_keeps, method_keeps}
use Rattle.mapping_file.proofs.reading.add.Goals as goal

pub returns-in-Field-clause-names : goal.returns-in-Field-clause-names
returns-in-Field-clause-names c = field_keeps c.add_field.result c.args.names.now c.in-Field.field c.args.read.now
    c.add_field.new.read
    c.add_field.ensures c.requires

pub returns-in-Method-clause-names : goal.returns-in-Method-clause-names
returns-in-Method-clause-names c = method_keeps c.add_method.result c.args.names.now c.in-Method.method c.args.read.now
    c.add_method.new.read
    c.add_method.ensures c.requires
